-- What callers rely on of typed trees and marks, without the text of the definitions.
use Rattle.std.proofs.Common.{◌≡◌, ℕ, ◌+◌, ◌-◌, ◌≤◌, max, ◌⊎◌, inl, inr, List, [], ◌∷◌, ◌++◌, length, take, drop, Ok, Err, Result, OnOk, sym, refl, ap, ◌∙◌, arith}
use Rattle.std.proofs.Math.Seq.{drop-length}
use Rattle.std.proofs.lemmas.Grind.{common_steps}
use Rattle.std.proofs.lemmas.List.{append-nil, append_assoc, drop-append-le, drop-take, take-append-le, take_at, length-append, length-drop}
use Rattle.table.specs.Contents.{outcome, cut, extended}
use Rattle.table.proofs.Outcomes.{one_of_two}
use Rattle.tree.specs.Layout.{Forest, none, next}
use Rattle.tree.proofs.Forests.{joined}
use Rattle.records.specs.declared.refusal.Refusal.{Refusal}
use Rattle.records.specs.declared.refusal.Refusal.TheVariants as refusal
use Rattle.records.specs.declared.refusal.TableId.TheVariants as table
use Rattle.records.specs.declared.result.Output.{Output}
use Rattle.records.specs.declared.result.TypedNode.{TypedNode}
use Rattle.typed.specs.declared.Mark.{Mark}
use Rattle.typed.specs.Trees.{typed_records, Trees, rule_records, Stands, cleared, end_rule, drop_rule, count_since, push_tree, take_back}

-- what two forests joined lay out
pub joined-records : (f g : Forest TypedNode) → typed_records (joined f g) ≡ typed_records f ++ typed_records g
joined-records f none = sym (append-nil (typed_records f))
joined-records f (next g node h) = rw (joined-records f g) (append_assoc (typed_records f) (typed_records g) _)

-- what a rule keeps of its records where they are cut at a mark
pub rule_cut : {X : Type 0} (xs : List X) (first m : ℕ) → drop first (take (max m first) xs) ≡ take (m - first) (drop first xs)
rule_cut xs first m =
    let at : max m first ≡ first + (m - first) = omega arith in
    rw at (drop-take first (m - first) xs)

-- a mark behind trees
module _ (t : Trees) (within : t.first ≤ length t.records.items) where
  pub mark-stands : (f : Forest TypedNode) → rule_records t ≡ typed_records f → Stands (record { 0 = length t.records.items }) f t
  mark-stands f lay = omega (arith, within, length-drop t.first t.records.items, ap length lay)

-- writing a root
module _ (since : Mark) (node : TypedNode) (t : Trees) (within : t.first ≤ length t.records.items) where
  pushed : Trees
  pushed = record t { records = extended (record { node = node; size = count_since since t + 1 } ∷ []) t.records }

  pushed-trees : (f g : Forest TypedNode) → rule_records t ≡ typed_records f ++ typed_records g → Stands since f t → rule_records pushed ≡ typed_records (next f node g)
  unfolding pushed
  pushed-trees f g lay stands =
      let size : count_since since t ≡ length (typed_records g) = omega (arith, within, stands, ap length lay, length-drop t.first t.records.items, length-append (typed_records f) (typed_records g)) in
      drop-append-le t.first t.records.items _ within ∙ rw (lay, size) (append_assoc (typed_records f) (typed_records g) _)

  module _ (u : Trees) (r : Result (Unit {0}) Refusal) (step : outcome u r ≡ push_tree since node t) where
    push_tree-cases : ((u ≡ pushed) × (r ≡ Ok tt)) ⊎ ((u ≡ t) × (r ≡ Err (refusal.Full table.Output)))
    unfolding push_tree pushed
    push_tree-cases = elim (one_of_two _ pushed t u tt _ r step) [ inl (_, e, q) ↦ inl (e, q) | inr (_, e, q) ↦ inr (e, q) ]

    -- the root stands over the trees behind the mark
    pub push_tree-trees : (f g : Forest TypedNode) → rule_records t ≡ typed_records f ++ typed_records g → Stands since f t → OnOk r (rule_records u ≡ typed_records (next f node g))
    push_tree-trees f g lay stands = elim push_tree-cases [ inl (e, q) ↦ rw (e, q) (pushed-trees f g lay stands) | inr (e, q) ↦ rw q tt ]

    -- the records of the rules before stay as they are
    pub push_tree-before : (u.first ≡ t.first) × (take u.first u.records.items ≡ take t.first t.records.items)
    unfolding pushed
    push_tree-before = elim push_tree-cases [ inl (e, q) ↦ rw e (refl, take-append-le t.first t.records.items _ within) | inr (e, q) ↦ rw e (refl, refl) ]

    pub push_tree-within : u.first ≤ length u.records.items
    unfolding pushed
    push_tree-within = elim push_tree-cases [ inl (e, q) ↦ rw e (grind (arith, common_steps)) | inr (e, q) ↦ rw e within ]

-- taking back what was written since a mark
module _ (mark : Mark) (t : Trees) where
  pub take_back-trees : (f : Forest TypedNode) (since : List Output) → rule_records t ≡ typed_records f ++ since → Stands mark f t → rule_records (take_back mark t) ≡ typed_records f
  unfolding take_back
  take_back-trees f since lay stands =
      rule_cut t.records.items t.first mark.0 ∙ rw lay (take_at (typed_records f) since (mark.0 - t.first) (omega (arith, stands)))

module _ (mark : Mark) (t : Trees) (within : t.first ≤ length t.records.items) where
  pub take_back-before : ((take_back mark t).first ≡ t.first) × (take t.first (take_back mark t).records.items ≡ take t.first t.records.items)
  unfolding take_back
  take_back-before = (refl, grind (arith, common_steps))

  pub take_back-within : (take_back mark t).first ≤ length (take_back mark t).records.items
  unfolding take_back
  take_back-within = grind (arith, common_steps)

-- the end of a rule, and of all
module _ (t : Trees) where
  pub end_rule-trees : ((end_rule t).records ≡ t.records) × (rule_records (end_rule t) ≡ typed_records none)
  unfolding end_rule
  end_rule-trees = (refl, drop-length t.records.items)

  pub end_rule-within : (end_rule t).first ≤ length (end_rule t).records.items
  unfolding end_rule
  end_rule-within = omega arith

  pub drop_rule-records : ((drop_rule t).first ≡ t.first) × ((drop_rule t).records ≡ cut t.first t.records)
  unfolding drop_rule
  drop_rule-records = (refl, refl)

  pub cleared-records : ((cleared t).first ≡ 0) × ((cleared t).records ≡ cut 0 t.records)
  unfolding cleared
  cleared-records = (refl, refl)

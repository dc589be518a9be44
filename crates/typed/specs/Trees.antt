-- Typed trees, the records that lay them out, and what the calls on them do.
use Rattle.std.specs.Prelude.{◌≡◌, ℕ, ◌+◌, ◌-◌, max, Bool, ◌&&◌, List, [], ◌∷◌, ◌++◌, length, drop, nat_lt, if◌then◌else◌}
use Rattle.table.specs.Contents.{Contents, Outcome, done, refused, empty, cut, extended, has_room}
use Rattle.tree.specs.Layout.{Forest, none, next}
use Rattle.records.specs.declared.refusal.Refusal.{Refusal}
use Rattle.records.specs.declared.refusal.Refusal.TheVariants as refusal
use Rattle.records.specs.declared.refusal.TableId.TheVariants as table
use Rattle.records.specs.declared.result.Output.{Output}
use Rattle.records.specs.declared.result.TypedNode.{TypedNode}
use Rattle.records.specs.declared.source.Part.{Part}
use Rattle.typed.specs.declared.Mark.{Mark}

-- the records of typed trees: each root behind all that is below it, with the size of its tree
abbrev pub typed_records : Forest TypedNode → List Output
typed_records none = []
typed_records (next f node g) = typed_records f ++ (typed_records g ++ record { node = node; size = length (typed_records g) + 1 } ∷ [])

-- the records of the kept rules, then those of the rule at hand, and where these begin
pub record Trees : Type 0 where
  pub records : Contents Output
  pub first : ℕ

-- the records of the rule at hand
abbrev pub rule_records : Trees → List Output
rule_records t = drop t.first t.records.items

-- the mark stands behind those trees, which are the rule's first
abbrev pub Stands : Mark → Forest TypedNode → Trees → Type 0
Stands mark f t = mark.0 ≡ t.first + length (typed_records f)

abbrev pub rule_part : Trees → Part
rule_part t = record { start = t.first; end = length t.records.items }

-- a rule has 4,096 records at most
abbrev pub has_share : Trees → Bool
has_share t = nat_lt (length t.records.items - t.first) 4096

-- nothing yet, under this limit
abbrev pub no_trees : ℕ → Trees
no_trees limit = record { records = empty limit; first = 0 }

unfoldable pub cleared : Trees → Trees
cleared t = record { records = cut 0 t.records; first = 0 }

-- all records stay, and the next rule's begin behind them
unfoldable pub end_rule : Trees → Trees
end_rule t = record { records = t.records; first = length t.records.items }

-- the rule's records go
unfoldable pub drop_rule : Trees → Trees
drop_rule t = record { records = cut t.first t.records; first = t.first }

-- how many of the rule's records stand behind a mark; one in front of the rule counts as its begin
abbrev pub count_since : Mark → Trees → ℕ
count_since mark t = length t.records.items - max mark.0 t.first

-- one more record, which is the root of a tree over those behind the mark
unfoldable pub push_tree : Mark → TypedNode → Trees → Outcome Trees (Unit {0}) Refusal
push_tree since node t =
    if has_share t && has_room t.records
    then done (record t { records = extended (record { node = node; size = count_since since t + 1 } ∷ []) t.records }) tt
    else refused t (refusal.Full table.Output)

-- the records behind the mark go, but none of an earlier rule
unfoldable pub take_back : Mark → Trees → Trees
take_back mark t = record { records = cut (max mark.0 t.first) t.records; first = t.first }

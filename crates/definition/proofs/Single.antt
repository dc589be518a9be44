-- A part of the source list is one definition at most, or has one first bad record.
use Rattle.std.proofs.Common.{◌≡◌, ℕ, ◌+◌, ◌-◌, ◌<◌, ◌≤◌, List, length, get_or, take, drop, sym, refl, ap, subst, inl, inr, arith}
use Rattle.std.proofs.lemmas.List.{take-take, length-take}
use Rattle.std.proofs.lemmas.Bool.{cases_order}
use Rattle.records.specs.Parts.{slice}
use Rattle.records.specs.declared.source.Node.TheVariants as node
use Rattle.records.specs.declared.source.Part.{Part}
use Rattle.records.specs.declared.source.Source.{Source}
use Rattle.tree.specs.Layout.{none, next, IsForest, IsTree}
use Rattle.tree.proofs.Forests.{forest_front, tree_front, tree_size}
use Rattle.definition.specs.Converters.{ident_record, converter_records, WritesConverter}
use Rattle.definition.specs.Grammar.{definition_rules}
use Rattle.definition.specs.Lawful.{IsTreeOf, IsDefinition, FirstBad, empty, broken, missing, unwanted}
use Rattle.definition.specs.declared.converter.Converter.{Converter}
use Rattle.definition.specs.declared.converter.Ident.{Ident}
use Rattle.definition.specs.declared.grammar.Kind.{Kind}
use Rattle.definition.specs.declared.grammar.Kind.TheVariants as kind

module _ (k : Kind) (source : List Source) (p : Part) where
  pub is_tree : IsTreeOf k (slice source p) → IsTree definition_rules (slice source p)
  is_tree (r, g, laid, lawful, kind) = (r, g, laid, lawful)

  none_there : p.end ≤ p.start → length (slice source p) ≡ 0
  none_there h = omega (arith, length-take (p.end - p.start) (drop p.start source))

  -- trees up to a record that lies before another one up to which there are trees
  earlier : (n m : ℕ) → n < m → IsForest definition_rules (take m (slice source p)) → IsForest definition_rules (take (n + 1) (slice source p))
  earlier n m l f = rw (← take-take (n + 1) m (slice source p) (omega arith)) (forest_front definition_rules (take m (slice source p)) f (n + 1))

  pub lawful_has_none : IsDefinition k source p → (i : ℕ) → FirstBad k source p i → ⊥
  lawful_has_none (within, tree) i bad = grind (arith, none_there, tree_size definition_rules (slice source p) (is_tree tree), tree_front definition_rules (slice source p) (is_tree tree))

  pub one_bad : (i j : ℕ) → FirstBad k source p i → FirstBad k source p j → i ≡ j
  one_bad i j (empty a b) d = grind (arith, none_there)
  one_bad i j (missing s past f e) d = grind (arith, forest_front definition_rules (slice source p) f)
  one_bad i j (unwanted s w f other e) d = grind (arith, forest_front definition_rules (slice source p) f)
  one_bad i j (broken n e l before bad) (empty a b) = absurd (omega (arith, none_there a))
  one_bad i j (broken n e l before bad) (missing s past f e') = absurd (bad (forest_front definition_rules (slice source p) f (n + 1)))
  one_bad i j (broken n e l before bad) (unwanted s w f other e') = absurd (bad (forest_front definition_rules (slice source p) f (n + 1)))
  one_bad i j (broken n e l before bad) (broken m e' l' before' bad') =
      elim (cases_order n m) [
        | inl same ↦ omega arith
        | inr (inl less) ↦ absurd (bad (earlier n m less before'))
        | inr (inr more) ↦ absurd (bad' (earlier m n more before))
      ]

-- the records of a converter definition are a lawful tree
laid_out : (c : Converter) → IsTreeOf kind.Converter (converter_records c)
laid_out c =
    let trees = next (next (next none (ident_record c.term) none) (ident_record c.inner_ty) none) (ident_record c.outer_ty) none in
    (record { node = node.Converter; size = 4; pos = c.pos }, trees, refl, (tt, (((tt, tt, refl, refl), tt, refl, refl), tt, refl, refl), refl, (refl, (refl, (refl, refl)))), refl)

pub is_definition : (source : List Source) (p : Part) (c : Converter) → WritesConverter source p c → IsDefinition kind.Converter source p
is_definition source p c (within, written) = (within, subst (IsTreeOf kind.Converter) (sym written) (laid_out c))

-- and they say which it is
one_ident : (i j : Ident) → ident_record i ≡ ident_record j → i ≡ j
one_ident i j e =
    let name : i.name ≡ j.name = cc (ap (λ s. s.node) e) in
    λ k. record { name = name k; pos = (e k).pos }

pub one_definition : (c d : Converter) → converter_records c ≡ converter_records d → c ≡ d
one_definition c d e =
    let term = one_ident c.term d.term cc in
    let inner_ty = one_ident c.inner_ty d.inner_ty cc in
    let outer_ty = one_ident c.outer_ty d.outer_ty cc in
    λ k. record { term = term k; inner_ty = inner_ty k; outer_ty = outer_ty k; pos = (get_or (e k) 3 (ident_record (term k))).pos }

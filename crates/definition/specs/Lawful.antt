-- Which parts of the source list are definitions, and which record is named where one is not.
use Rattle.std.specs.Prelude.{◌≡◌, ℕ, ◌+◌, ◌<◌, ◌≤◌, List, length, take}
use Rattle.records.specs.Parts.{slice}
use Rattle.records.specs.declared.refusal.Refusal.{Refusal}
use Rattle.records.specs.declared.refusal.Refusal.TheVariants as refusal
use Rattle.records.specs.declared.source.Part.{Part}
use Rattle.records.specs.declared.source.Source.{Source}
use Rattle.tree.specs.Layout.{Forest, none, next, flat, Lawful, IsForest}
use Rattle.definition.specs.Grammar.{kind_of, definition_rules}
use Rattle.definition.specs.declared.grammar.Kind.{Kind}

-- the records lay out one lawful tree, whose root is of that kind
abbrev pub IsTreeOf : Kind → List Source → Type 0
IsTreeOf k xs = (r : Source) × (g : Forest Source) × (xs ≡ flat (next none r g)) × Lawful definition_rules (next none r g) × (kind_of r.node ≡ k)

-- the part lies in the list, and is a definition of that kind
abbrev pub IsDefinition : Kind → List Source → Part → Type 0
IsDefinition k source p = (p.end ≤ length source) × IsTreeOf k (slice source p)

-- Why a part is no definition of that kind, and which record is named for it:
-- the part has no records;
-- the records lay out trees up to i, and no longer with i;
-- all that the list has of the part lays out trees, and i is the first record that it has not;
-- the part lays out trees, and not one of that kind, and i is its last record.
pub data FirstBad (k : Kind) (source : List Source) (p : Part) (i : ℕ) : Type 0 where
  empty : p.end ≤ p.start → i ≡ 0 → FirstBad k source p i
  broken : (n : ℕ) → i ≡ p.start + n → n < length (slice source p) → IsForest definition_rules (take n (slice source p))
      → (IsForest definition_rules (take (n + 1) (slice source p)) → ⊥) → FirstBad k source p i
  missing : p.start < p.end → length source < p.end → IsForest definition_rules (slice source p) → i ≡ p.start + length (slice source p) → FirstBad k source p i
  unwanted : p.start < p.end → p.end ≤ length source → IsForest definition_rules (slice source p) → (IsTreeOf k (slice source p) → ⊥) → i + 1 ≡ p.end → FirstBad k source p i

-- the refusal names the first bad record
abbrev pub NamesFirstBad : Kind → List Source → Part → Refusal → Type 0
NamesFirstBad k source p e = (i : ℕ) × (e ≡ refusal.UnlawfulDefinition i) × FirstBad k source p i

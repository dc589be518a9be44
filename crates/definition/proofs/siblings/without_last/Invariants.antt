use Rattle.std.proofs.Common.{◌≡◌, ℕ, ◌≤◌, List, ◌++◌, length, take}
use Rattle.std.specs.List.{enumerate_from, flat_map}
use Rattle.definition.specs.Syntax.{Syntax, syntax_records}
use Rattle.definition.proofs.siblings.without_last.Given as goal

abbrev pub invariant-loop : goal.invariant-loop
invariant-loop l = record {
  shorter : length l.rest ≤ length l.trees;
  left : (n : ℕ) (ts : List Syntax) → enumerate_from n l.trees ≡ flat_map syntax_records ts
      → (us : List Syntax) × (vs : List Syntax) × (ts ≡ us ++ vs) × (length vs ≡ l.counter) × (l.rest ≡ take (length (flat_map syntax_records us)) l.trees);
}

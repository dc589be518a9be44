use Rattle.std.proofs.Common.{◌≡◌, ℕ, ◌+◌, ◌≤◌, List, length}
use Rattle.std.specs.List.{enumerate_from, flat_map}
use Rattle.definition.specs.Syntax.{Syntax, syntax_records}
use Rattle.definition.proofs.siblings.count.Given as goal

abbrev pub invariant-loop-before : goal.invariant-loop-before
invariant-loop-before l = record {
  few : l.passed + length l.rest ≤ length l.initial.rest;
  left : (n : ℕ) (ts : List Syntax) → enumerate_from n l.initial.rest ≡ flat_map syntax_records ts
      → (us : List Syntax) × (enumerate_from n l.rest ≡ flat_map syntax_records us) × (l.passed + length us ≡ length ts);
}

abbrev pub decreases-loop-before : goal.decreases-loop-before
decreases-loop-before l = length l.rest

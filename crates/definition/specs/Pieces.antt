-- What a tree of the source list says, and which tree is which piece of it.
use Rattle.std.specs.Prelude.{◌≡◌, Some, None, Option, MatchOption}
use Rattle.definition.specs.Syntax.{Syntax, LaysOut}
use Rattle.definition.specs.declared.source_tree.SourceTree.{SourceTree}

-- the tree's records are those of this abstract syntax
abbrev pub Says : SourceTree → Syntax → Type 0
Says tree t = LaysOut tree.first tree.records.now t

-- the tree of the piece, or none where there is no such piece
abbrev pub IsPiece : Option Syntax → Option SourceTree → Type 0
IsPiece piece found = MatchOption found (piece ≡ None) (λ c. (t : Syntax) × (piece ≡ Some t) × Says c t)

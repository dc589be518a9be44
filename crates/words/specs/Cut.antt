-- A line cut into words.
use Rattle.std.specs.Prelude.{ℕ, ◌+◌, Bool, true, List, [], ◌∷◌, length, ◌==◌, All}
use Rattle.std.specs.List.{slice_split}
use Rattle.std.specs.Int.{IsInRange}
use Rattle.words.specs.declared.cutting.Word.{Word}

-- an empty line, or one that begins with #
abbrev pub skipped : List ℕ → Bool
skipped [] = true
skipped (b ∷ bs) = b == 35

-- only spaces and the characters from ! to ~
abbrev pub Printable : List ℕ → Type 0
Printable line = All (IsInRange 32 126) line

-- where a word begins, and its bytes
abbrev pub Seen : Type 0
Seen = ℕ × List ℕ

abbrev pub seen : Word → Seen
seen w = (w.start, w.text.now)

-- pieces, each with its place: the first begins at start, and one byte stands between two
abbrev pub placed : ℕ → List (List ℕ) → List Seen
placed start [] = []
placed start (w ∷ ws) = (start, w) ∷ placed (start + (length w + 1)) ws

-- the words of a line: what stands between single spaces
unfoldable pub cut : List ℕ → List Seen
cut line = placed 0 (slice_split (λ b. b == 32) line)

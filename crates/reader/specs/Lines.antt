-- What the lines of a case file say.
use Rattle.std.specs.Prelude.{◌≡◌, ℕ, true, false, List, map, Some, None, Ok, Err, Option, Result, ◌==◌}
use Rattle.std.specs.List.{slice_split}
use Rattle.std.specs.declared.alloc.AllocError.{AllocError}
use Rattle.words.specs.declared.cutting.Word.{Word}
use Rattle.words.specs.Cut.{Printable, skipped, cut, seen}
use Rattle.items.specs.declared.faults.Malformed.{Malformed}
use Rattle.items.specs.declared.faults.Malformed.TheVariants as malformed
use Rattle.items.specs.declared.places.Place.{Place}
use Rattle.items.specs.Order.{class_of, next}
use Rattle.case.specs.Format.{item}
use Rattle.reader.specs.declared.faults.Unread.{Unread}
use Rattle.reader.specs.declared.faults.Unread.TheVariants as unread
use Rattle.reader.specs.declared.line.Line.{Line}

-- what stands between newlines
abbrev pub file_lines : List ℕ → List (List ℕ)
file_lines file = slice_split (λ b. b == 10) file

-- What a line says by itself:
-- a line that is skipped says nothing;
-- of another one its words are read, and what they say is the answer, or what is malformed in them;
-- one with other characters than printable ASCII has no words;
-- and there may be no memory for them.
pub data Says (bytes : List ℕ) (r : Result (Option Line) Unread) : Type 0 where
  nothing : skipped bytes ≡ true → r ≡ Ok None → Says bytes r
  unprintable : skipped bytes ≡ false → (Printable bytes → ⊥) → r ≡ Err (unread.Malformed malformed.Unprintable) → Says bytes r
  something : skipped bytes ≡ false → Printable bytes → (l : Line) → l.bytes.now ≡ bytes → map seen l.words.items ≡ cut bytes → item l.words.items ≡ Ok l.item → r ≡ Ok (Some l) → Says bytes r
  misread : skipped bytes ≡ false → Printable bytes → (ws : List Word) → map seen ws ≡ cut bytes → (m : Malformed) → item ws ≡ Err m → r ≡ Err (unread.Malformed m) → Says bytes r
  no_memory : skipped bytes ≡ false → Printable bytes → (e : AllocError) → r ≡ Err (unread.NoMemory e) → Says bytes r

-- the place behind a line that may stand there, and the line; else the place stays
abbrev pub standing : Line → Place → Result Place Malformed → Place × Result (Option Line) Unread
standing l p (Ok q) = (q, Ok (Some l))
standing l p (Err m) = (p, Err (unread.Malformed m))

-- only a line that says something has a place
abbrev pub in_order : Place → Result (Option Line) Unread → Place × Result (Option Line) Unread
in_order p (Ok (Some l)) = standing l p (next p (class_of l.item))
in_order p (Ok None) = (p, Ok None)
in_order p (Err e) = (p, Err e)

-- what a line says behind those that lead to place p, and the place q behind it
abbrev pub Reads : Place → List ℕ → Place → Result (Option Line) Unread → Type 0
Reads p bytes q r = (o : Result (Option Line) Unread) × Says bytes o × ((q, r) ≡ in_order p o)

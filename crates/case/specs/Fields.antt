-- The words of a line, each by its number, and what a word may say.
use Rattle.std.specs.Prelude.{ℕ, Bool, if◌then◌else◌, List, [], ◌∷◌, length, ℤ, Some, None, Ok, Err, codes, Option, Result, ◌==◌, nat_lt, slice_get, slice_index_or}
use Rattle.std.specs.List.{list_any}
use Rattle.std.specs.Option.{option_map_or}
use Rattle.std.specs.Str.{bytes_eq}
use Rattle.records.specs.declared.refusal.TableId.{TableId}
use Rattle.records.specs.declared.refusal.TableId.TheVariants.{Text}
use Rattle.records.specs.Numbers.{tables}
use Rattle.records.specs.declared.source.Name.{Name}
use Rattle.words.specs.Cut.{Seen, seen}
use Rattle.words.specs.declared.cutting.Word.{Word}
use Rattle.words.specs.declared.numerals.NumberFault.{NumberFault}
use Rattle.words.specs.Numbers.{natural, signed}
use Rattle.items.specs.declared.faults.Malformed.{Malformed}
use Rattle.items.specs.declared.faults.Malformed.TheVariants as malformed
use Rattle.items.specs.Faults.{number_fault}

-- what comes after something that may be malformed
abbrev pub bind : {A B : Type 0} → Result A Malformed → (A → Result B Malformed) → Result B Malformed
bind (Ok a) k = k a
bind (Err e) k = Err e

-- where word i begins, and its bytes; an empty one where the line is shorter
unfoldable pub word : List Word → ℕ → Seen
word ws i = option_map_or seen (slice_get ws i) (0, [])

unfoldable pub exactly : ℕ → List Word → Result (Unit {0}) Malformed
exactly n ws = if nat_lt (length ws) n then Err malformed.MissingWord else if nat_lt n (length ws) then Err malformed.SurplusWord else Ok tt

unfoldable pub at_least : ℕ → List Word → Result (Unit {0}) Malformed
at_least n ws = if nat_lt (length ws) n then Err malformed.MissingWord else Ok tt

abbrev pub of_number : {A : Type 0} → Result A NumberFault → Result A Malformed
of_number (Ok n) = Ok n
of_number (Err e) = Err (number_fault e)

-- digits that write a number up to a largest one
unfoldable pub number : ℕ → List ℕ → Result ℕ Malformed
number most t = of_number (natural most t)

-- numbers of 16, 32 and 64 bits
abbrev pub short : Seen → Result ℕ Malformed
short w = number 65535 w.1

abbrev pub wide : Seen → Result ℕ Malformed
wide w = number 4294967295 w.1

abbrev pub long : Seen → Result ℕ Malformed
long w = number 18446744073709551615 w.1

-- a number with a sign, of 64 bits
unfoldable pub integer : Seen → Result ℤ Malformed
integer w = of_number (signed w.1)

-- 0 or 1
unfoldable pub flag : Seen → Result Bool Malformed
flag w = bind (number 1 w.1) (λ n. Ok (n == 1))

-- a table's number
unfoldable pub table : Seen → Result TableId Malformed
table w = bind (number 12 w.1) (λ n. Ok (slice_index_or tables n Text))

-- a dash stands for nothing
unfoldable pub dash : Seen → Bool
dash w = bytes_eq w.1 (codes "-")

-- nothing at a dash, else what the word says
abbrev pub optional : {A : Type 0} → (Seen → Result A Malformed) → Seen → Result (Option A) Malformed
optional f w = if dash w then Ok None else bind (f w) (λ a. Ok (Some a))

-- the place of the word in the line
unfoldable pub name : Seen → Result Name Malformed
name w = if nat_lt 4294967295 w.0 then Err malformed.FarName else if nat_lt 4294967295 (length w.1) then Err malformed.FarName else Ok (record { start = w.0; len = length w.1 })

-- each word says something
unfoldable pub each : {A : Type 0} → (Seen → Result A Malformed) → List Word → Result (Unit {0}) Malformed
each f [] = Ok tt
each f (w ∷ ws) = bind (f (seen w)) (λ _. each f ws)

-- no word is empty
unfoldable pub filled : List Word → Result (Unit {0}) Malformed
filled ws = if list_any (λ w. length w.text.now == 0) ws then Err malformed.EmptyWord else Ok tt

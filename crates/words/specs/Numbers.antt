-- Numbers in decimal digits.
use Rattle.std.specs.Prelude.{ℕ, ◌+◌, ◌-◌, ◌*◌, Bool, not, ◌&&◌, if◌then◌else◌, List, [], ◌∷◌, length, ℤ, pos, neg_ℤ, Ok, Err, Result, ◌==◌, nat_le}
use Rattle.std.specs.Char.{is_ascii_digit}
use Rattle.std.specs.List.{list_all}
use Rattle.words.specs.declared.numerals.NumberFault.{NumberFault}
use Rattle.words.specs.declared.numerals.NumberFault.TheVariants.{NotANumber, DoesNotFit}

-- some digits, and nothing else
abbrev pub numeral : List ℕ → Bool
numeral ds = not (length ds == 0) && list_all is_ascii_digit ds

-- the number that digits write behind the number so far
abbrev pub value_on : ℕ → List ℕ → ℕ
value_on n [] = n
value_on n (d ∷ ds) = value_on (10 * n + (d - 48)) ds

abbrev pub value : List ℕ → ℕ
value ds = value_on 0 ds

-- the number that a word writes, up to a largest one
unfoldable pub natural : ℕ → List ℕ → Result ℕ NumberFault
natural most ds = if numeral ds then (if nat_le (value ds) most then Ok (value ds) else Err DoesNotFit) else Err NotANumber

abbrev pub negated : Result ℕ NumberFault → Result ℤ NumberFault
negated (Ok n) = Ok (neg_ℤ (pos n))
negated (Err e) = Err e

abbrev pub positive : Result ℕ NumberFault → Result ℤ NumberFault
positive (Ok n) = Ok (pos n)
positive (Err e) = Err e

-- the number with a sign of 64 bits that a word writes
unfoldable pub signed : List ℕ → Result ℤ NumberFault
signed [] = Err NotANumber
signed (b ∷ bs) = if b == 45 then negated (natural 9223372036854775808 bs) else positive (natural 9223372036854775807 (b ∷ bs))

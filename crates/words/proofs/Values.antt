-- Digits, and what `parse` answers at them.
use Rattle.std.proofs.Common.{◌≡◌, ℕ, ◌^◌, ◌<◌, ◌≤◌, true, false, ◌&&◌, eqb, List, [], ◌∷◌, length, Ok, Err, Result, sym, refl, ap, ◌∙◌, ⊎_elim, arith, rules, ne_eqb, le-leb}
use borrow.Author.Tests.{lt-leb}
use Rattle.std.specs.Result.{OkIff}
use Rattle.std.specs.Str.Parse.{ParsesUnsigned}
use Rattle.std.specs.Char.{is_ascii_digit}
use Rattle.std.specs.Str.{all_ascii_digits}
use Rattle.std.proofs.lemmas.Str.Parse.{IsNumeralModel, numerals_by_fold, parse_digits}
use Rattle.std.proofs.lemmas.Result.{OkIff-at_ok, OkIff-at_err}
use Rattle.std.proofs.lemmas.List.Recursion.{same_from_clauses}
use Rattle.std.specs.List.{list_all}
use Rattle.std.proofs.str.Laws.{order}
use Rattle.words.specs.declared.numerals.NumberFault.TheVariants.{NotANumber, DoesNotFit}
use Rattle.words.specs.Numbers.{numeral, value_on, value, natural, signed, negated, positive}

own : IsNumeralModel (λ ds. all_ascii_digits ds ≡ true) value
own = numerals_by_fold _ (search rules) value_on (search rules)

digits : (ds : List ℕ) → numeral ds ≡ true → all_ascii_digits ds ≡ true
digits ds e = same_from_clauses all_ascii_digits (list_all is_ascii_digit) (λ d b. is_ascii_digit d && b) refl (λ _ _. refl) (λ _ _. refl) ds ∙ search (rules, e)

some : (ds : List ℕ) → numeral ds ≡ true → 0 < length ds
some [] e = absurd (search rules)
some (d ∷ ds) e = omega arith

pub not_numeral : (most : ℕ) (ds : List ℕ) → numeral ds ≡ false → Err NotANumber ≡ natural most ds
unfolding natural
not_numeral most ds e = rw e

module _ {E : Type 0} (most : ℕ) (ds : List ℕ) (r : Result ℕ E) (h : ParsesUnsigned 64 10 ds r) (e : numeral ds ≡ true) where
  parsed : OkIff r ((0 < length ds) × (value ds < 2 ^ 64)) (value ds)
  parsed = parse_digits own 64 ds r h (digits ds e)

  pub read : (n : ℕ) → r ≡ Ok n → n ≤ most → Ok n ≡ natural most ds
  unfolding natural
  read n is le = let v = (OkIff-at_ok r _ (value ds) n parsed is).1 in rw (e, ← v, le-leb n most le)

  pub too_large : (n : ℕ) → r ≡ Ok n → most < n → Err DoesNotFit ≡ natural most ds
  unfolding natural
  too_large n is lt = let v = (OkIff-at_ok r _ (value ds) n parsed is).1 in rw (e, ← v, lt-leb n most lt)

  pub far_too_large : (x : E) → r ≡ Err x → most < 2 ^ 64 → Err DoesNotFit ≡ natural most ds
  unfolding natural
  far_too_large x is lt =
      let not = OkIff-at_err r _ (value ds) x parsed is in
      let large : most < value ds = ⊎_elim (λ fits. absurd (not (some ds e, fits))) (λ over. omega arith) (order (value ds) (2 ^ 64)) in
      rw (e, lt-leb (value ds) most large)

pub with_minus : (text ds : List ℕ) → text ≡ 45 ∷ ds → negated (natural 9223372036854775808 ds) ≡ signed text
unfolding signed
with_minus text ds e = sym (ap signed e)

pub without_minus : (text : List ℕ) → ((ds : List ℕ) → text ≡ 45 ∷ ds → ⊥) → positive (natural 9223372036854775807 text) ≡ signed text
unfolding natural signed
without_minus [] h = refl
without_minus (b ∷ bs) h =
    let other : eqb b 45 ≡ false = ne_eqb b 45 (λ e. h bs (ap (λ x. x ∷ bs) e)) in
    rw other

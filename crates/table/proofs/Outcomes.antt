-- What comes of a call that may refuse.
use Rattle.std.proofs.Common.{◌≡◌, Bool, true, false, ◌⊎◌, inl, inr, Ok, Err, Result, if◌then◌else◌, refl}
use Rattle.table.specs.Contents.{done, refused, outcome}

-- a call that may refuse did one of two things
pub one_of_two : {S A E : Type 0} (t : Bool) (s b c : S) (a : A) (e : E) (r : Result A E) → outcome c r ≡ (if t then done s a else refused b e)
    → ((t ≡ true) × (c ≡ s) × (r ≡ Ok a)) ⊎ ((t ≡ false) × (c ≡ b) × (r ≡ Err e))
one_of_two true s b c a e (Ok x) h = inl (refl, (cc), (cc))
one_of_two true s b c a e (Err x) h = absurd (cc)
one_of_two false s b c a e (Ok x) h = absurd (cc)
one_of_two false s b c a e (Err x) h = inr (refl, (cc), (cc))

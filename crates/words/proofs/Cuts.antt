-- How a line is cut at its spaces.
use Rattle.std.proofs.Common.{◌≡◌, ℕ, suc, ◌+◌, ◌<◌, Bool, true, false, eqb, cond, List, [], ◌∷◌, ◌++◌, length, get_or, drop, IsAscii, sym, refl, ap, ◌∙◌, append_assoc, append-nil, arith}
use Rattle.std.specs.List.{slice_split, onto_first}
use Rattle.std.proofs.lemmas.List.{at_drop_more, at_drop_all}
use Rattle.std.proofs.lemmas.List.Splits.{length-slice_split}
use Rattle.std.proofs.lemmas.Str.Ascii.{IsAscii-from_all}
use Rattle.words.specs.Cut.{placed, Seen, Printable}

pub ascii : (line : List ℕ) → Printable line → IsAscii line
ascii line p = IsAscii-from_all line (λ k d h. omega (arith, p k d h))

abbrev pub pieces : List ℕ → List (List ℕ)
pieces line = slice_split (λ b. eqb b 32) line

-- the bytes of pieces, and one behind each
abbrev pub room : List (List ℕ) → ℕ
room [] = 0
room (p ∷ ps) = length p + 1 + room ps

begun : (space : Bool) (b n : ℕ) (ps : List (List ℕ)) → 0 < length ps → room ps ≡ n + 1 → room (cond space ([] ∷ ps) (onto_first b ps)) ≡ suc n + 1
begun true b n ps h e = omega arith
begun false b n [] h e = absurd (omega arith)
begun false b n (p ∷ ps) h e = omega arith

pub whole : (line : List ℕ) → room (pieces line) ≡ length line + 1
whole [] = refl
whole (b ∷ bs) = begun (eqb b 32) b (length bs) (pieces bs) (omega (arith, length-slice_split (λ x. eqb x 32) bs)) (whole bs)

-- the piece at a place, and those behind it
pub one_more : (done more : List Seen) (start n : ℕ) (w : List ℕ) (ps : List (List ℕ)) (all : List Seen) → more ≡ done ++ (start, w) ∷ [] → (n < length ps) × (w ≡ get_or ps n w) → done ++ placed start (drop n ps) ≡ all → more ++ placed (start + (length w + 1)) (drop (n + 1) ps) ≡ all
one_more done more start n w ps all m h e =
    let here : placed start (drop n ps) ≡ (start, w) ∷ placed (start + (length w + 1)) (drop (n + 1) ps) =
    at_drop_more (placed start) ps n w h.0 ∙ ap (λ x. (start, x) ∷ placed (start + (length x + 1)) (drop (n + 1) ps)) (sym h.1) in
    ap (λ l. l ++ placed (start + (length w + 1)) (drop (n + 1) ps)) m ∙ append_assoc done ((start, w) ∷ []) _ ∙ ap (λ l. done ++ l) (sym here) ∙ e

pub less_room : (n : ℕ) (w : List ℕ) (ps : List (List ℕ)) → (n < length ps) × (w ≡ get_or ps n w) → room (drop n ps) ≡ length w + 1 + room (drop (n + 1) ps)
less_room n w ps h = at_drop_more room ps n w h.0 ∙ ap (λ x. length x + 1 + room (drop (n + 1) ps)) (sym h.1)

pub none_left : (done : List Seen) (start n : ℕ) (ps : List (List ℕ)) (all : List Seen) → length ps ≡ n → done ++ placed start (drop n ps) ≡ all → done ≡ all
none_left done start n ps all h e = sym (append-nil done) ∙ ap (λ l. done ++ l) (sym (at_drop_all (placed start) ps n (omega arith))) ∙ e

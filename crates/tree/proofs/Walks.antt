-- The walk back from a root over the trees in front of it, and what it decides.
use Rattle.std.proofs.Common.{◌≡◌, ℕ, ◌+◌, ◌-◌, ◌<◌, ◌≤◌, ◌↔◌, true, ◌==◌, List, [], ◌∷◌, ◌++◌, length, get_or, take, drop, sym, ap, ◌∙◌, arith}
use Rattle.std.proofs.lemmas.List.{append_assoc, length-append, length_push, same_from_push, take_at, take-append-drop, length-take-le}
use Rattle.std.proofs.lemmas.Grind.{common_steps}
use Rattle.std.proofs.lemmas.Bool.Decides.{nat_tests}
use Rattle.tree.specs.Layout.{Forest, none, next, flat, Rules, empty, Below, Lawful, IsForest}
use Rattle.tree.proofs.Forests.{split_same, flat_next, length_next, last_tree}

-- the list lays out trees that may stand below r, where `after` more stand there after them
abbrev pub MayStand : {N : Type 0} → Rules N → N → ℕ → List N → Type 0
MayStand {N} R r after xs = (b : Forest N) × (xs ≡ flat b) × Lawful R b × Below R r after b

module _ {N : Type 0} (R : Rules N) (r : N) where
  pub size_fits : (xs : List N) → IsForest R (xs ++ r ∷ []) → (0 < R.size r) × (R.size r ≤ length xs + 1)
  size_fits xs (f, e, l) =
      let (a, b, is) = last_tree f xs r (sym e) in
      let (la, lb, size, below) = rw is at l in
      (omega (arith, size), omega (arith, size, ap length (rw is at e), length_next a r b, length_push xs r))

  -- r behind as many records as its size counts: there are trees just where those records are some that may stand below r, behind others
  pub root_iff : (front rest : List N) → R.size r ≡ length rest + 1 → (IsForest R ((front ++ rest) ++ r ∷ []) ↔ (IsForest R front × MayStand R r 0 rest))
  root_iff front rest full = (to, from)
    where
      to : IsForest R ((front ++ rest) ++ r ∷ []) → IsForest R front × MayStand R r 0 rest
      to (f, e, l) =
          let (a, b, is) = last_tree f (front ++ rest) r (sym e) in
          let (la, lb, size, below) = rw is at l in
          let (lay, root) = same_from_push (front ++ rest) (flat a ++ flat b) r r (rw is at e ∙ flat_next a r b) in
          let (x, y) = split_same front rest (flat a) (flat b) (omega (arith, size, ap length lay, length-append front rest, length-append (flat a) (flat b))) lay in
          ((a, x, la), (b, y, lb, below))

      from : IsForest R front × MayStand R r 0 rest → IsForest R ((front ++ rest) ++ r ∷ [])
      from ((a, x, la), (b, y, lb, below)) = (next a r b, rw (x, y) (append_assoc (flat a) (flat b) (r ∷ [])), (la, lb, full ∙ ap (λ xs. length xs + 1) y, below))

  pub nothing_below : (after : ℕ) → MayStand R r after [] → R.counts r after ≡ true
  nothing_below after (none, e, l, below) = below
  nothing_below after (next b c h, e, l, below) = absurd (omega (arith, ap length e, length_next b c h))

  -- rest ends with c
  module _ (rest : List N) (some : 0 < length rest) (c : N) (is : c ≡ get_or rest (length rest - 1) c) where
    apart : rest ≡ take (length rest - 1) rest ++ c ∷ []
    apart = grind (arith, common_steps)

    -- none stands before c just where its tree fills what is left
    first_is : (b h : Forest N) → rest ≡ flat (next b c h) → R.size c ≡ length (flat h) + 1 → empty b ≡ (R.size c == length rest)
    first_is none h e size = grind (arith, nat_tests, length_next none c h)
    first_is (next f d g) h e size = grind (arith, nat_tests, length_next (next f d g) c h, length_next f d g)

    -- what may stand below r ends with the tree of c, which fits there, and without that tree may stand there too
    pub last_below : (after : ℕ) → MayStand R r after rest
        → (R.size c ≤ length rest) × (R.takes r c after (R.size c == length rest) ≡ true) × MayStand R r (after + 1) (take (length rest - R.size c) rest)
    last_below after (f, e, l, below) =
        let (b, h, same) = last_tree f _ c (sym e ∙ apart) in
        let lay = rw same at e in
        let (lb, lh, size, bc) = rw same at l in
        let (takes, rest_below) = rw same at below in
        let long : length rest ≡ length (flat b) + R.size c = omega (arith, size, ap length lay, length_next b c h) in (
          omega arith,
          rw (sym (first_is b h lay size)) takes,
          (b, ap (take (length rest - R.size c)) lay ∙ take_at (flat b) _ (length rest - R.size c) (omega arith), lb, rest_below),
        )

    -- and the other way round, where there are trees up to c
    pub one_more : (front : List N) → IsForest R (front ++ rest) → R.size c ≤ length rest
        → (0 < R.size c) × IsForest R (front ++ take (length rest - R.size c) rest)
        × ((after : ℕ) → R.takes r c after (R.size c == length rest) ≡ true → MayStand R r (after + 1) (take (length rest - R.size c) rest) → MayStand R r after rest)
    one_more front (f, e, l) fits =
        let (a, g, same) = last_tree f (front ++ take (length rest - 1) rest) c (sym e ∙ ap (λ xs. front ++ xs) apart ∙ sym (append_assoc front _ _)) in
        let lay = rw same at e in
        let (la, lg, size, below) = rw same at l in
        let k = length rest - R.size c in
        let cut = take-append-drop k rest in
        let parted : (front ++ take k rest) ++ drop k rest ≡ flat a ++ (flat g ++ c ∷ []) = append_assoc front (take k rest) (drop k rest) ∙ ap (λ xs. front ++ xs) cut ∙ lay in
        let long : length (front ++ take k rest) ≡ length (flat a) =
        omega (arith, size, ap length lay, length_next a c g, length-append front rest, length-append front (take k rest), length-take-le k rest (omega arith)) in
        let (x, y) = split_same (front ++ take k rest) (drop k rest) (flat a) (flat g ++ c ∷ []) long parted in (
          omega (arith, size),
          (a, x, la),
          λ after takes (b, z, lb, rest_below).
              let whole : rest ≡ flat (next b c g) = sym cut ∙ (λ j. z j ++ y j) in
              (next b c g, whole, (lb, lg, size, below), (rw (first_is b g whole size) takes, rest_below)),
        )

-- Laws of the layout: a list lays out one forest at most, and what stands in front of any of its records is laid out too.
use Rattle.std.proofs.Common.{◌≡◌, ℕ, ◌+◌, ◌-◌, ◌<◌, List, [], ◌∷◌, ◌++◌, length, get_or, take, drop, sym, refl, ap, ◌∙◌, inl, inr, arith}
use Rattle.std.proofs.Math.Seq.{take-append-add}
use Rattle.std.proofs.lemmas.List.{append-nil, append_assoc, length-append, length_push, same_from_push, take_at, drop_at, take-append-le, take_all, get_or_push}
use Rattle.std.proofs.lemmas.Bool.{cases_lt}
use Rattle.tree.specs.Layout.{Forest, none, next, flat, Rules, Lawful, IsForest, IsTree}

-- two ways to split one list at one place are one
pub split_same : {A : Type 0} (a b c d : List A) → length a ≡ length c → a ++ b ≡ c ++ d → (a ≡ c) × (b ≡ d)
split_same a b c d long e = (
  sym (take_at a b (length a) refl) ∙ ap (take (length a)) e ∙ take_at c d (length a) (sym long),
  sym (drop_at a b (length a) refl) ∙ ap (drop (length a)) e ∙ drop_at c d (length a) (sym long),
)

-- the trees of the first, then those of the second
abbrev pub joined : {N : Type 0} → Forest N → Forest N → Forest N
joined f none = f
joined f (next g r k) = next (joined f g) r k

module _ {N : Type 0} where
  -- what a forest lays out, with the root of its last tree apart
  pub flat_next : (f : Forest N) (r : N) (g : Forest N) → flat (next f r g) ≡ (flat f ++ flat g) ++ r ∷ []
  flat_next f r g = sym (append_assoc (flat f) (flat g) (r ∷ []))

  pub length_next : (f : Forest N) (r : N) (g : Forest N) → length (flat (next f r g)) ≡ length (flat f) + (length (flat g) + 1)
  length_next f r g = simp length-append

  -- the last record is the root of the last tree
  last_root : (xs : List N) (f : Forest N) (r : N) (g : Forest N) → xs ≡ flat (next f r g) → (d : N) → get_or xs (length xs - 1) d ≡ r
  last_root xs f r g e d = grind (arith, flat_next f r g, get_or_push (flat f ++ flat g) r d, length_push (flat f ++ flat g) r)

  -- a forest whose last record is r has a last tree with that root
  pub last_tree : (f : Forest N) (xs : List N) (r : N) → flat f ≡ xs ++ r ∷ [] → (a : Forest N) × (b : Forest N) × (f ≡ next a r b)
  last_tree none xs r e = absurd (omega (arith, ap length e, length_push xs r))
  last_tree (next a s b) xs r e =
      let (rest, root) = same_from_push (flat a ++ flat b) xs s r (sym (flat_next a s b) ∙ e) in
      (a, b, ap (λ x. next a x b) root)

  none_from_length : (f : Forest N) → length (flat f) ≡ 0 → f ≡ none
  none_from_length none e = refl
  none_from_length (next f r g) e = absurd (omega (arith, length_next f r g))

module _ {N : Type 0} (R : Rules N) where
  pub unique : (f g : Forest N) → Lawful R f → Lawful R g → flat f ≡ flat g → f ≡ g
  unique none none lf lg e = refl
  unique none (next g s h) lf lg e = absurd (omega (arith, ap length e, length_next g s h))
  unique (next f r k) none lf lg e = absurd (omega (arith, ap length e, length_next f r k))
  unique (next f r k) (next g s h) (lf, lk, size_r, _) (lg, lh, size_s, _) e =
      let (rest, root) = same_from_push (flat f ++ flat k) (flat g ++ flat h) r s (sym (flat_next f r k) ∙ e ∙ flat_next g s h) in
      let (front, below) = split_same (flat f) (flat k) (flat g) (flat h) (omega (arith, length_next f r k, length_next g s h, ap length e, ap R.size root)) rest in
      let same_front = unique f g lf lg front in
      let same_below = unique k h lk lh below in
      λ i. next (same_front i) (root i) (same_below i)

  -- what lays out two lawful forests, one after the other, lays out one
  joined_lawful : (f g : Forest N) → Lawful R f → Lawful R g → IsForest R (flat f ++ flat g)
  joined_lawful f none lf lg = (f, append-nil (flat f), lf)
  joined_lawful f (next g r k) lf (lg, lk, size, below) =
      let (h, e, lh) = joined_lawful f g lf lg in
      (next h r k, rw (← append_assoc (flat f) (flat g) _, e) refl, (lh, lk, size, below))

  -- the records in front of a place lay out trees too
  pub front : (f : Forest N) → Lawful R f → (n : ℕ) → IsForest R (take n (flat f))
  front none l n = (none, take_all n [] (omega arith), tt)
  front (next f r g) (lf, lg, size, below) n =
      elim (cases_lt n (length (flat f))) [
        | inl lt ↦ rw (take-append-le n (flat f) _ (omega (arith, lt))) (front f lf n)
        | inr le ↦ elim (cases_lt n (length (flat (next f r g)))) [
          | inl lt ↦
              let m = n - length (flat f) in
              let (h, e, lh) = front g lg m in
              let here : length (flat f) + m ≡ n = omega arith in
              let short : take m (flat g ++ r ∷ []) ≡ flat h = take-append-le m (flat g) (r ∷ []) (omega (arith, length_next f r g)) ∙ e in
              rw (← here) (rw (take-append-add (flat f) (flat g ++ r ∷ []) m, short) (joined_lawful f h lf lh))
          | inr all ↦ (next f r g, take_all n _ all, (lf, lg, size, below))
        ]
      ]

  pub forest_front : (xs : List N) → IsForest R xs → (n : ℕ) → IsForest R (take n xs)
  forest_front xs (f, e, l) n = rw e (front f l n)

  pub tree_front : (xs : List N) → IsTree R xs → (n : ℕ) → IsForest R (take n xs)
  tree_front xs (r, g, e, l) = forest_front xs (next none r g, e, l)

  -- a tree by its root and its size
  pub rooted : (xs : List N) → IsForest R xs → 0 < length xs → (d : N) → R.size (get_or xs (length xs - 1) d) ≡ length xs → IsTree R xs
  rooted xs (none, e, l) some d size = absurd (omega (arith, ap length e))
  rooted xs (next f r g, e, (lf, lg, full, below)) some d size =
      let bare = none_from_length f (omega (arith, length_next f r g, ap length e, full, ap R.size (last_root xs f r g e d))) in
      (r, g, e ∙ ap (λ k. flat (next k r g)) bare, (tt, lg, full, below))

  pub tree_size : (xs : List N) → IsTree R xs → (0 < length xs) × ((d : N) → R.size (get_or xs (length xs - 1) d) ≡ length xs)
  tree_size xs (r, g, e, l) = (omega (arith, ap length e, length_push (flat g) r), λ d. grind (arith, last_root xs none r g e d, length_push (flat g) r))

-- Trees one behind another in a list: where the last of them begins, and what is left without it.
use Rattle.std.proofs.Common.{◌≡◌, ℕ, ◌+◌, ◌-◌, ◌<◌, ◌≤◌, List, [], ◌∷◌, ◌++◌, length, get_or, take, drop, sym, refl, ap, ◌∙◌, ◌⊎◌, inl, inr, Option, Some, None, MatchOption, slice_get, subst, arith}
use Rattle.std.proofs.lemmas.List.{append-nil, append_assoc, flat_map_more, length-append, length_push, get_or_push, take-append-drop, take-take, take_rest, length-take-le}
use Rattle.std.proofs.lemmas.List.FromFn.{length-enumerate_from, get_or-enumerate_from}
use Rattle.std.proofs.lemmas.Grind.{flat_map-append}
use Rattle.std.specs.List.{enumerate_from, flat_map}
use Rattle.records.specs.declared.source.Source.{Source}
use Rattle.tree.proofs.Forests.{split_same}
use Rattle.definition.specs.PatternTrees.{node_record}
use Rattle.definition.proofs.Laid.{by_root, enumerate-append}
use Rattle.definition.specs.Syntax.{Syntax, syntax_records, root_of, children}

-- one tree behind others
last_flat : (ts : List Syntax) (t : Syntax) → flat_map syntax_records (ts ++ t ∷ []) ≡ flat_map syntax_records ts ++ syntax_records t
last_flat ts t = sym (flat_map_more syntax_records [] ts t)

-- a numbered list that is one list and then another
cut_two : {X : Type 0} (n : ℕ) (xs : List X) (a b : List (ℕ × X)) → enumerate_from n xs ≡ a ++ b
    → (length xs ≡ length a + length b) × (enumerate_from n (take (length a) xs) ≡ a) × (enumerate_from (n + length a) (drop (length a) xs) ≡ b)
cut_two n xs a b laid =
    let k = length a in
    let long : length xs ≡ k + length b = sym (length-enumerate_from n xs) ∙ ap length laid ∙ length-append a b in
    let cut : length (take k xs) ≡ k = length-take-le k xs (omega arith) in
    let parted = sym (enumerate-append n (take k xs) (drop k xs)) ∙ ap (enumerate_from n) (take-append-drop k xs) ∙ laid in
    let (front, back) = split_same _ _ a b (length-enumerate_from n (take k xs) ∙ cut) parted in
    (long, front, ap (λ m. enumerate_from (n + m) (drop k xs)) (sym cut) ∙ back)

-- the last record of a numbered list
last_numbered : {X : Type 0} (n : ℕ) (xs : List X) (front : List (ℕ × X)) (root : ℕ × X) (d : X) → enumerate_from n xs ≡ front ++ root ∷ []
    → (length xs ≡ length front + 1) × (root ≡ (n + length front, get_or xs (length xs - 1) d))
last_numbered n xs front root d laid =
    let long : length xs ≡ length front + 1 = sym (length-enumerate_from n xs) ∙ ap length laid ∙ length_push front root in
    let last : length xs - 1 ≡ length front = omega arith in
    let at = sym (get_or_push front root (n, d) (length front) refl) ∙ ap (λ ys. get_or ys (length front) (n, d)) (sym laid) ∙ get_or-enumerate_from n xs (length front) (n, d) (omega arith) in
    (long, at ∙ ap (λ k. (n + length front, get_or xs k d)) (sym last))

-- the tree that the records lay out, by its root
pub record Rooted (n : ℕ) (xs : List Source) (t : Syntax) : Type 0 where
  pub some : 0 < length xs
  pub size : (d : Source) → (get_or xs (length xs - 1) d).size ≡ length xs
  pub root : (d : Source) → node_record (root_of t).0 (root_of t).1 (length xs - 1) ≡ (n + (length xs - 1), get_or xs (length xs - 1) d)
  pub below : enumerate_from n (take (length xs - 1) xs) ≡ flat_map syntax_records (children t)

pub rooted_at : (n : ℕ) (xs : List Source) (t : Syntax) → enumerate_from n xs ≡ syntax_records t → Rooted n xs t
rooted_at n xs t laid =
    let below = flat_map syntax_records (children t) in
    let split = laid ∙ by_root t in
    let (long, front, back) = cut_two n xs below _ split in
    let last : length xs - 1 ≡ length below = omega arith in
    let root = λ (d : Source). (last_numbered n xs below _ d split).1 in
    record {
      some = omega arith;
      size = λ d. ap (λ r. r.1.size) (sym (root d)) ∙ sym long;
      root = λ d. ap (node_record (root_of t).0 (root_of t).1) last ∙ root d ∙ ap (λ k. (n + k, get_or xs (length xs - 1) d)) (sym last);
      below = rw last front;
    }

-- what holds of the last of some trees, and of those before it
pub record Last (n : ℕ) (xs : List Source) (us : List Syntax) (t : Syntax) : Type 0 where
  pub long : length xs ≡ length (flat_map syntax_records us) + length (syntax_records t)
  pub size : (d : Source) → (get_or xs (length xs - 1) d).size ≡ length (syntax_records t)
  pub some : 0 < length (syntax_records t)
  pub before : enumerate_from n (take (length (flat_map syntax_records us)) xs) ≡ flat_map syntax_records us
  pub last : enumerate_from (n + length (flat_map syntax_records us)) (drop (length (flat_map syntax_records us)) xs) ≡ syntax_records t

pub last_of : (n : ℕ) (xs : List Source) (us : List Syntax) (t : Syntax) → enumerate_from n xs ≡ flat_map syntax_records (us ++ t ∷ []) → Last n xs us t
last_of n xs us t laid =
    let below = flat_map syntax_records (children t) in
    let front = flat_map syntax_records us in
    let parts = laid ∙ last_flat us t in
    let (long, before, last) = cut_two n xs front (syntax_records t) parts in
    let whole = parts ∙ ap (λ ys. front ++ ys) (by_root t) ∙ sym (append_assoc front below _) in
    let one : length (syntax_records t) ≡ length below + 1 = ap length (by_root t) ∙ length_push below _ in
    record {
      long = long;
      size = λ d. ap (λ r. r.1.size) (sym (last_numbered n xs (front ++ below) _ d whole).1) ∙ sym one;
      some = omega arith;
      before = before;
      last = last;
    }

-- no trees, or some and a last one
ends : (ts : List Syntax) → (ts ≡ []) ⊎ ((us : List Syntax) × (t : Syntax) × (ts ≡ us ++ t ∷ []))
ends [] = inl refl
ends (t ∷ ts) = elim (ends ts) [
  | inl none ↦ inr ([], t, ap (λ xs. t ∷ xs) none)
  | inr (us, u, more) ↦ inr (t ∷ us, u, ap (λ xs. t ∷ xs) more)
]

-- a list of no records has no trees
pub none_left : (n : ℕ) (xs : List Source) (ts : List Syntax) → enumerate_from n xs ≡ flat_map syntax_records ts → length xs ≡ 0 → ts ≡ []
none_left n xs ts laid bare = elim (ends ts) [
  | inl none ↦ none
  | inr (us, t, more) ↦ let last = last_of n xs us t (rw more at laid) in absurd (omega (arith, last.long, last.some))
]

-- the last of some trees, by the size of the last record
pub record Before (xs : List Source) (root : Source) (ts : List Syntax) : Type 0 where
  pub some : 0 < root.size
  pub few : root.size ≤ length xs
  pub before : List Syntax
  pub last : Syntax
  pub all : ts ≡ before ++ last ∷ []
  pub at : length xs - root.size ≡ length (flat_map syntax_records before)

pub before_root : (n : ℕ) (xs : List Source) (root : Source) (ts : List Syntax) → 0 < length xs → root ≡ get_or xs (length xs - 1) root → enumerate_from n xs ≡ flat_map syntax_records ts → Before xs root ts
before_root n xs root ts some is laid = elim (ends ts) [
  | inl none ↦ absurd (omega (arith, sym (length-enumerate_from n xs) ∙ ap length (rw none at laid)))
  | inr (us, t, more) ↦
      let last = last_of n xs us t (rw more at laid) in
      let size : root.size ≡ length (syntax_records t) = ap (λ r. r.size) is ∙ last.size root in
      record { some = omega (arith, last.some); few = omega (arith, last.long); before = us; last = t; all = more; at = omega (arith, last.long) }
]

-- the front of some trees
pub front_of : (n : ℕ) (xs : List Source) (us vs : List Syntax) → enumerate_from n xs ≡ flat_map syntax_records (us ++ vs)
    → enumerate_from n (take (length (flat_map syntax_records us)) xs) ≡ flat_map syntax_records us
front_of n xs us vs laid = (cut_two n xs (flat_map syntax_records us) (flat_map syntax_records vs) (laid ∙ flat_map-append syntax_records us vs)).1

-- a front of a front, cut from the whole
pub shorter_front : {X : Type 0} (xs : List X) (us ws : List Syntax) (t : Syntax) → us ≡ ws ++ t ∷ []
    → take (length (flat_map syntax_records ws)) (take (length (flat_map syntax_records us)) xs) ≡ take (length (flat_map syntax_records ws)) xs
shorter_front xs us ws t more =
    take-take _ _ xs (omega (arith, ap (λ ts. length (flat_map syntax_records ts)) more, ap length (last_flat ws t), length-append (flat_map syntax_records ws) (syntax_records t)))

-- the element behind a front of a list
nth_of : {X : Type 0} (ws vs : List X) (x : X) → slice_get ((ws ++ x ∷ []) ++ vs) (length ws) ≡ Some x
nth_of [] vs x = refl
nth_of (w ∷ ws) vs x = nth_of ws vs x

-- the tree that ends a front of some trees: its number among them, and its records
pub found : (n : ℕ) (xs up before : List Source) (ts us vs ws : List Syntax) (t : Syntax) (k : ℕ) → enumerate_from n xs ≡ flat_map syntax_records ts → ts ≡ us ++ vs → us ≡ ws ++ t ∷ []
    → up ≡ take (length (flat_map syntax_records us)) xs → before ≡ take (length (flat_map syntax_records ws)) up → length ws ≡ k
    → (slice_get ts k ≡ Some t) × (enumerate_from (n + length before) (take (length up - length before) (drop (length before) up)) ≡ syntax_records t)
found n xs up before ts us vs ws t k laid all more cut next number =
    let front = rw (sym cut) at (front_of n xs us vs (laid ∙ ap (flat_map syntax_records) all)) in
    let last = last_of n up ws t (rw more at front) in
    let start : length before ≡ length (flat_map syntax_records ws) = ap length next ∙ length-take-le _ up (omega (arith, last.long)) in (
      ap (λ xs. slice_get xs k) (all ∙ ap (λ xs. xs ++ vs) more) ∙ ap (slice_get ((ws ++ t ∷ []) ++ vs)) (sym number) ∙ nth_of ws vs t,
      ap (enumerate_from (n + length before)) (take_rest up (length before)) ∙ ap (λ m. enumerate_from (n + m) (drop m up)) start ∙ last.last,
    )

-- the number of the last record, what it says, its place, and its size
pub root_is : (n : ℕ) (xs : List Source) (t : Syntax) (d : Source) → enumerate_from n xs ≡ syntax_records t → let last = get_or xs (length xs - 1) d in
    (n + (length xs - 1) ≡ (root_of t).0.number) × (last.node ≡ (root_of t).1) × (last.pos ≡ (root_of t).0.pos) × (last.size ≡ length (syntax_records t))
root_is n xs t d laid =
    let r = rooted_at n xs t laid in
    let same = sym (r.root d) in
    (ap (λ x. x.0) same, ap (λ x. x.1.node) same, ap (λ x. x.1.pos) same, r.size d ∙ sym (length-enumerate_from n xs) ∙ ap length laid)

-- what is said of an option that is none
pub on_none : {X : Type 0} {P : Type 0} (Q : X → Type 0) (o : Option X) → o ≡ None → P → MatchOption o P Q
on_none {P = P} Q o none p = subst (λ o. MatchOption o P Q) (sym none) p

-- what is said of an option, said otherwise
pub match_map : {X P P' : Type 0} {Q : X → Type 0} (Q' : X → Type 0) (o : Option X) → (P → P') → ((x : X) → Q x → Q' x) → MatchOption o P Q → MatchOption o P' Q'
match_map Q' None f g m = f m
match_map Q' (Some x) f g m = g x m

-- the last of some trees is the one whose number is one less than their count
pub last_piece : (ts : List Syntax) (k : ℕ) → k + 1 ≡ length ts → (us : List Syntax) × (t : Syntax) × (ts ≡ us ++ t ∷ []) × (slice_get ts k ≡ Some t)
last_piece ts k last = elim (ends ts) [
  | inl none ↦ absurd (omega (arith, ap length none))
  | inr (us, t, more) ↦
      let number : length us ≡ k = omega (arith, ap length more, length_push us t) in
      (us, t, more, ap (slice_get ts) (sym number) ∙ ap (λ xs. slice_get xs (length us)) (more ∙ sym (append-nil (us ++ t ∷ []))) ∙ nth_of us [] t)
]

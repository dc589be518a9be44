-- That no record before the i-th has its key, by a test of the records before it.
use Rattle.std.proofs.Common.{◌≡◌, ℕ, ◌<◌, Bool, Bor, Iter, true, false, not, List, map, length, get_or, take, Some, Decides, ◌==◌, sym, refl, ap, ◌∙◌, arith}
use Rattle.std.proofs.lemmas.Bool.{both_ways, eqb-true, eq-eqb}
use Rattle.std.proofs.lemmas.List.{get_or-take, length-take}
use Rattle.std.proofs.lemmas.List.Folds.{Any-from_list_any, list_any_at}
use Rattle.std.proofs.lemmas.Iterator.{YieldsList-from_slice}
use Rattle.std.proofs.lemmas.Iterator.Search.{any_from_yields_List}
use Rattle.std.proofs.lemmas.Option.{slice_get-map, slice_get-get_or, slice_get_within}
use denote.Param.Members.{Mut}
use Rattle.std.specs.Fn.{Called}
use Rattle.std.specs.Iterator.{ChecksAny}
use Rattle.std.specs.List.{list_any, slice_get}
use Rattle.std.specs.Option.{option_map}
use Rattle.std.specs.Slice.Iter.{iter_rest, iter_steps}
use Rattle.records.specs.declared.ids.Sym.{Sym}
use Rattle.tables.specs.Names.{New}

module _ {X K : Type 0} (key : X → K) (same : X → Bool) (xs : List X) (i : ℕ) (x : X) (here : slice_get xs i ≡ Some x) (decides : (y : X) → Decides (same y) (key y ≡ key x)) where
  within : i < length xs
  within = slice_get_within xs i x here

  key_here : slice_get (map key xs) i ≡ Some (key x)
  key_here = slice_get-map key xs i ∙ ap (option_map key) here

  key_at : (j : ℕ) → j < length xs → slice_get (map key xs) j ≡ Some (key (get_or xs j x))
  key_at j h = slice_get-map key xs j ∙ ap (option_map key) (slice_get-get_or xs j x h)

  some_same : {A : Type 0} {a b : A} → Some a ≡ Some b → a ≡ b
  some_same e = cc

  new : list_any same (take i xs) ≡ false → New (map key xs) i
  new none j before e =
      let j_in : j < length xs = omega (arith, within) in
      let keys = some_same (sym (key_at j j_in) ∙ e ∙ key_here) in
      let there : same (get_or (take i xs) j x) ≡ true = rw (get_or-take i xs j x before) ((decides (get_or xs j x)).1 keys) in
      both_ways _ none (list_any_at same (take i xs) j x (omega (arith, length-take i xs, within)) there)

  old : New (map key xs) i → list_any same (take i xs) ≡ true → ⊥
  old n some =
      let (k, y, h, is, passes) = Any-from_list_any same (take i xs) some in
      let before : k < i = omega (arith, h, length-take i xs) in
      let at : get_or xs k y ≡ y = sym (get_or-take i xs k y before) ∙ is in
      n k before (slice_get-map key xs k ∙ ap (option_map key) (slice_get-get_or xs k y (omega (arith, before, within)) ∙ ap Some at) ∙ ap Some ((decides y).0 passes) ∙ sym key_here)

  New-list_any : (r : Bool) → r ≡ list_any same (take i xs) → Decides (not r) (New (map key xs) i)
  New-list_any true e = ((λ t. absurd (both_ways _ refl t)), (λ n. absurd (old n (sym e))))
  New-list_any false e = ((λ _. new (sym e)), (λ _. refl))

  -- the same of what `any` answers over them
  pub New-any : {F : Type 0} {g : Mut F (Bor X × Unit {0}) Bool} {s : Iter X} → iter_rest s ≡ take i xs → {u : Iter X} {f : F} {r : Bool} → ChecksAny iter_steps g s f r u
      → ((y : Bor X) (b : Bool) (q : F) → Called g f (y, tt) b q → (q ≡ f) × (b ≡ same y.now)) → Decides (not r) (New (map key xs) i)
  New-any rest ran calls = New-list_any _ (any_from_yields_List same _ _ _ ran (YieldsList-from_slice _ rest) calls)

-- two symbols are one if their numbers are
same_Sym : (s t : Sym) → Decides (s.0 == t.0) (s ≡ t)
same_Sym s t = ((λ e. let h = eqb-true _ _ e in (λ k. record { 0 = h k })), (λ e. eq-eqb _ _ (ap (λ x. x.0) e)))

pub New-any_name : {X F : Type 0} {g : Mut F (Bor X × Unit {0}) Bool} (name : X → Sym) (xs : List X) (i : ℕ) (x : X) → slice_get xs i ≡ Some x
    → {s : Iter X} → iter_rest s ≡ take i xs → {u : Iter X} {f : F} {r : Bool} → ChecksAny iter_steps g s f r u
    → ((y : Bor X) (b : Bool) (q : F) → Called g f (y, tt) b q → (q ≡ f) × (b ≡ ((name y.now).0 == (name x).0))) → Decides (not r) (New (map name xs) i)
New-any_name name xs i x here = New-any name (λ y. (name y).0 == (name x).0) xs i x here (λ y. same_Sym (name y) (name x))

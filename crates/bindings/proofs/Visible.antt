-- The last variable of a list that passes a test, and the test that is a look-up's.
use Rattle.std.proofs.Common.{◌≡◌, ◌≢◌, ℕ, zero, suc, add-zero, zero-add, ◌+◌, ◌-◌, ◌<◌, ◌≤◌, Bool, true, false, Decides, ◌==◌, ◌⊎◌, inl, inr, List, [], ◌∷◌, ◌++◌, length, get_or, Some, None, Option, MatchOption, Contains, if◌then◌else◌, sym, refl, ap, ◌∙◌, arith}
use Rattle.std.proofs.lemmas.Bool.Decides.{Decides-and, nat_tests}
use Rattle.std.proofs.lemmas.List.Folds.{Any-from_list_any, list_any-from_Any, list_any-append}
use Rattle.std.proofs.lemmas.Option.{same_Some, none-some, unwrap_or-slice_get, get_or_from_slice_get, slice_get_within, slice_get-get_or}
use Rattle.std.proofs.lemmas.List.Elements.{Contains-append_left, Contains-append_right, Contains-push, Contains-get_or}
use Rattle.std.proofs.lemmas.Bool.{eqb-true, eq-eqb, false_from_ne_true}
use Rattle.std.proofs.lemmas.List.{get_or_push, length_push}
use Rattle.std.specs.List.{slice_get, list_any}
use Rattle.std.specs.Option.{option_or}
use Rattle.records.specs.declared.ids.Sym.{Sym}
use Rattle.records.specs.declared.ids.VarId.{VarId}
use Rattle.records.specs.declared.result.BoundVar.{BoundVar}
use Rattle.records.specs.declared.result.Scope.{Scope}
use Rattle.bindings.specs.Bound.{Bound, rule_vars, last_var, is_visible, innermost, lookup}

-- none from number n on passes
abbrev pub NonePass : (BoundVar → Bool) → ℕ → List BoundVar → Type 0
NonePass p n vs = (k : ℕ) (v : BoundVar) → n ≤ k → slice_get vs k ≡ Some v → p v ≡ false

-- the i-th passes, and none after it does
pub record IsLast (p : BoundVar → Bool) (vs : List BoundVar) (i : ℕ) (v : BoundVar) : Type 0 where
  pub there : slice_get vs i ≡ Some v
  pub passes : p v ≡ true
  pub last : NonePass p (i + 1) vs

abbrev pub Tells : (BoundVar → Bool) → ℕ → List BoundVar → Option (VarId × BoundVar) → Type 0
Tells p n vs r = MatchOption r (NonePass p 0 vs) (λ m. (i : ℕ) × (m.0.0 ≡ n + i) × IsLast p vs i m.1)

or_if : {A : Type 0} (t : Bool) (x : A) (r o : Option A) → option_or (if t then Some x else r) o ≡ (if t then Some x else option_or r o)
or_if true x r o = refl
or_if false x r o = refl

pub at : {m n : ℕ} (v : BoundVar) → m ≡ n → ◌≡◌ {A = Option (VarId × BoundVar)} (Some (record { 0 = m }, v)) (Some (record { 0 = n }, v))
at v e = λ i. Some (record { 0 = e i }, v)

module _ (p : BoundVar → Bool) where
  none_tail : (m n : ℕ) (v : BoundVar) (vs : List BoundVar) → m ≤ n + 1 → NonePass p m (v ∷ vs) → NonePass p n vs
  none_tail m n v vs one h k w le e = h (suc k) w (omega arith) e

  none_cons : (m n : ℕ) (v : BoundVar) (vs : List BoundVar) → n + 1 ≤ m → NonePass p n vs → NonePass p m (v ∷ vs)
  none_cons m n v vs one h zero w le e = absurd (omega arith)
  none_cons m n v vs one h (suc k) w le e = h k w (omega arith) e

  none_all : (v : BoundVar) (vs : List BoundVar) → p v ≡ false → NonePass p 0 vs → NonePass p 0 (v ∷ vs)
  none_all v vs f h zero w le e = rw (same_Some v w e) at f
  none_all v vs f h (suc k) w le e = h k w (omega arith) e

  pub last_var_push : (n : ℕ) (vs : List BoundVar) (v : BoundVar) → last_var p n (vs ++ v ∷ []) ≡ (if p v then Some (record { 0 = n + length vs }, v) else last_var p n vs)
  last_var_push n [] v = rw add-zero refl
  last_var_push n (w ∷ vs) v =
      let long : suc n + length vs ≡ n + length (w ∷ vs) = grind arith in
      ap (λ r. option_or r (if p w then Some (record { 0 = n }, w) else None)) (last_var_push (suc n) vs v) ∙ or_if (p v) _ _ _
      ∙ ap (λ o. if p v then o else last_var p n (w ∷ vs)) (at v long)

  tells_step : (n : ℕ) (v : BoundVar) (vs : List BoundVar) (r : Option (VarId × BoundVar)) (t : Bool) → p v ≡ t → Tells p (suc n) vs r
      → Tells p n (v ∷ vs) (option_or r (if t then Some (record { 0 = n }, v) else None))
  tells_step n v vs (Some m) t is (i, is_at, l) = (suc i, omega arith, record { there = l.there; passes = l.passes; last = none_cons _ (i + 1) v vs (omega arith) l.last })
  tells_step n v vs None true is none = (0, omega arith, record { there = refl; passes = is; last = none_cons _ 0 v vs (omega arith) none })
  tells_step n v vs None false is none = none_all v vs is none

  pub last_var_tells : (n : ℕ) (vs : List BoundVar) → Tells p n vs (last_var p n vs)
  last_var_tells n [] = λ k v le e. absurd (none-some v e)
  last_var_tells n (v ∷ vs) = tells_step n v vs _ (p v) refl (last_var_tells (suc n) vs)

  pub last_var_none : (n : ℕ) (vs : List BoundVar) → NonePass p 0 vs → last_var p n vs ≡ None
  last_var_none n [] h = refl
  last_var_none n (v ∷ vs) h =
      rw (last_var_none (suc n) vs (λ k w le e. h (suc k) w (omega arith) e), h 0 v (omega arith) refl) refl

  pub last_var_some : (n : ℕ) (vs : List BoundVar) (i : ℕ) (v : BoundVar) → IsLast p vs i v → last_var p n vs ≡ Some (record { 0 = n + i }, v)
  last_var_some n [] i v h = absurd (none-some v h.there)
  last_var_some n (w ∷ vs) zero v h =
      let same = same_Some w v h.there in
      rw (last_var_none (suc n) vs (none_tail _ 0 w vs (omega arith) h.last), same, h.passes) (at v (omega arith))
  last_var_some n (w ∷ vs) (suc i) v h =
      let next : IsLast p vs i v = record { there = h.there; passes = h.passes; last = none_tail _ (i + 1) w vs (omega arith) h.last } in
      rw (last_var_some (suc n) vs i v next) (at v (omega arith))

-- what does not pass behind the others changes nothing
pub last_var_front : (p : BoundVar → Bool) (n : ℕ) (us vs : List BoundVar) → NonePass p 0 vs → last_var p n (us ++ vs) ≡ last_var p n us
last_var_front p n [] vs h = last_var_none p n vs h
last_var_front p n (u ∷ us) vs h = rw (last_var_front p (suc n) us vs h) refl

pub last_var_same : (p q : BoundVar → Bool) (n : ℕ) (vs : List BoundVar) → ((v : BoundVar) → Contains vs v → p v ≡ q v) → last_var p n vs ≡ last_var q n vs
last_var_same p q n [] h = refl
last_var_same p q n (v ∷ vs) h =
    let rest = last_var_same p q (suc n) vs (λ w c. h w (Contains-append_right (v ∷ []) vs w c)) in
    rw (rest, h v (Contains-append_left (v ∷ []) vs v (Contains-push [] v))) refl

same_name : (s t : Sym) → Decides (s.0 == t.0) (s ≡ t)
same_name s t = ((λ e. let h = eqb-true _ _ e in (λ k. record { 0 = h k })), (λ e. eq-eqb _ _ (ap (λ x. x.0) e)))

same_scope : (s t : Scope) → Decides (s.0 == t.0) (s ≡ t)
same_scope s t = ((λ e. let h = eqb-true _ _ e in (λ k. record { 0 = h k })), (λ e. eq-eqb _ _ (ap (λ x. x.0) e)))

is_open_decides : (scopes : List Scope) (s : Scope) → Decides (list_any (λ t. t.0 == s.0) scopes) (Contains scopes s)
is_open_decides scopes s = (to, from)
  where
    to : list_any (λ t. t.0 == s.0) scopes ≡ true → Contains scopes s
    to e =
        let (k, t, within, is, passes) = Any-from_list_any (λ t. t.0 == s.0) scopes e in
        let same = (same_scope t s).0 passes in
        (k, within, rw same at is)

    from : Contains scopes s → list_any (λ t. t.0 == s.0) scopes ≡ true
    from (k, within, is) = list_any-from_Any (λ t. t.0 == s.0) scopes (k, s, within, is, (same_scope s s).1 refl)

-- what the look-up's test tests
pub is_visible_decides : (name : Sym) (scopes : List Scope) (v : BoundVar) → Decides (is_visible name scopes v) ((v.name ≡ name) × Contains scopes v.scope)
is_visible_decides name scopes v = Decides-and _ _ (same_name v.name name) (is_open_decides scopes v.scope)

-- the innermost open scope is open, if one is
pub innermost_open : (scopes : List Scope) → 0 < length scopes → Contains scopes (innermost scopes)
innermost_open scopes h =
    let last = length scopes - 1 in
    let within : last < length scopes = omega arith in
    let is : innermost scopes ≡ get_or scopes last (record { 0 = 0 }) = unwrap_or-slice_get scopes last (record { 0 = 0 }) in
    rw is (Contains-get_or scopes last _ within)

-- the same of what a search by places found
pub none_found : (p : BoundVar → Bool) (vs : List BoundVar) → ((k : ℕ) (d : BoundVar) → k < length vs → p (get_or vs k d) ≡ false) → last_var p 0 vs ≡ None
none_found p vs h = last_var_none p 0 vs (λ k v le e. rw (get_or_from_slice_get vs k v v e) at (h k v (slice_get_within vs k v e)))

pub one_found : (p : BoundVar → Bool) (vs : List BoundVar) (i : ℕ) → i < length vs → ((d : BoundVar) → p (get_or vs i d) ≡ true)
    → ((k : ℕ) (d : BoundVar) → i < k → k < length vs → p (get_or vs k d) ≡ false) → (d : BoundVar) → last_var p 0 vs ≡ Some (record { 0 = i }, get_or vs i d)
one_found p vs i within here none d =
    last_var_some p 0 vs i (get_or vs i d) (record {
      there = slice_get-get_or vs i d within;
      passes = here d;
      last = λ k v le e. rw (get_or_from_slice_get vs k v v e) at (none k v (omega arith) (slice_get_within vs k v e));
    }) ∙ at (get_or vs i d) (zero-add i)

pub lookup_is : (b : Bound) (name : Sym) (vs : List BoundVar) (scopes : List Scope) → vs ≡ rule_vars b → scopes ≡ b.in_scope.items → last_var (is_visible name scopes) 0 vs ≡ lookup name b
unfolding lookup
lookup_is b name vs scopes e f = λ i. last_var (is_visible name (f i)) 0 (e i)

-- the innermost scope is an open one, or scope 0
pub innermost_cases : (scopes : List Scope) → Contains scopes (innermost scopes) ⊎ (innermost scopes ≡ record { 0 = 0 })
innermost_cases [] = inr refl
innermost_cases (s ∷ scopes) = inl (innermost_open (s ∷ scopes) (grind arith))

-- the innermost scope is the one behind the others
pub innermost_push : (scopes : List Scope) (s : Scope) → innermost (scopes ++ s ∷ []) ≡ s
innermost_push scopes s = unwrap_or-slice_get (scopes ++ s ∷ []) _ (record { 0 = 0 }) ∙ get_or_push scopes s (record { 0 = 0 }) _ (omega (arith, length_push scopes s))

-- a variable with another name is not visible
pub other_hidden : (name : Sym) (scopes : List Scope) (v : BoundVar) → name ≢ v.name → is_visible name scopes v ≡ false
other_hidden name scopes v differs = false_from_ne_true _ (λ t. differs (sym ((is_visible_decides name scopes v).0 t).0))

-- one more scope makes no variable visible whose scope it is not
pub more_scopes : (name : Sym) (scopes : List Scope) (s : Scope) (v : BoundVar) → v.scope.0 < s.0 → is_visible name (scopes ++ s ∷ []) v ≡ is_visible name scopes v
more_scopes name scopes s v below = rw (list_any-append (λ t. t.0 == v.scope.0) scopes (s ∷ [])) (grind (arith, nat_tests))

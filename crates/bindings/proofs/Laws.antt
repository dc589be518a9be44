-- What callers rely on of scopes and look-ups. The definitions may change: these laws are what stays.
use Rattle.std.proofs.Common.{◌≡◌, ◌≢◌, ℕ, zero-add, ◌+◌, ◌-◌, ◌<◌, ◌≤◌, false, ◌⊎◌, inl, inr, List, [], ◌∷◌, ◌++◌, length, take, drop, Some, None, Option, Ok, Err, Result, IfOk, IfErr, MatchOption, MatchResult, Contains, sym, refl, ap, ◌∙◌, arith}
use Rattle.std.proofs.lemmas.Bool.{both_ways, false_from_ne_true}
use Rattle.std.proofs.Math.Seq.{drop-length}
use Rattle.std.proofs.lemmas.List.{append-nil, take_all, drop-append-le, take_at, length-drop, length_push, take-append-drop}
use Rattle.std.proofs.lemmas.List.Elements.{Contains-push_cases, Contains-append_left}
use Rattle.std.proofs.lemmas.Option.{get_or_from_slice_get, slice_get_within}
use Rattle.table.specs.Contents.{outcome, cut, extended}
use Rattle.table.proofs.Outcomes.{one_of_two}
use Rattle.records.specs.declared.ids.Sym.{Sym}
use Rattle.records.specs.declared.ids.TypeId.{TypeId}
use Rattle.records.specs.declared.ids.VarId.{VarId}
use Rattle.records.specs.declared.refusal.Refusal.{Refusal}
use Rattle.records.specs.declared.refusal.Refusal.TheVariants as refusal
use Rattle.records.specs.declared.refusal.TableId.TheVariants as table
use Rattle.records.specs.declared.result.BoundVar.{BoundVar}
use Rattle.records.specs.declared.result.Scope.{Scope}
use Rattle.bindings.specs.Bound.{Bound, rule_vars, var_count, cleared, end_rule, drop_rule, entered, enter_scope, exit_scope, begin_rule, innermost, new_var, push_var, add_var, is_visible, last_var, lookup}
use Rattle.bindings.specs.Facts.{NoneVisible, IsFound, Grows, IsNumbered}
use Rattle.bindings.proofs.Visible.{last_var_push, last_var_tells, last_var_none, last_var_some, NonePass, last_var_same, last_var_front, is_visible_decides, innermost_open, innermost_push, innermost_cases, other_hidden, more_scopes, at, Tells}

-- a part of a list has only its items
in_front : {X : Type 0} (n : ℕ) (xs : List X) (x : X) → Contains (take n xs) x → Contains xs x
in_front n xs x c = let both = Contains-append_left (take n xs) (drop n xs) x c in rw (take-append-drop n xs) at both

-- what a look-up answers
module _ (name : Sym) (b : Bound) where
  told : (r : Option (VarId × BoundVar)) → Tells (is_visible name b.in_scope.items) 0 (rule_vars b) r → MatchOption r (NoneVisible name b 0) (λ m. IsFound name b m.0.0 m.1)
  told None none = λ k v le e seen. both_ways _ (none k v le e) ((is_visible_decides name b.in_scope.items v).1 (seen.named, seen.in_scope))
  told (Some m) (i, is, l) =
      let n : m.0.0 ≡ i = is ∙ zero-add i in
      let (named, in_scope) = (is_visible_decides name b.in_scope.items m.1).0 l.passes in
      rw n (record {
        within = omega (arith, slice_get_within (rule_vars b) i m.1 l.there, length-drop b.first b.seen.items);
        there = l.there;
        visible = record { named = named; in_scope = in_scope };
        last = λ k v le e seen. both_ways _ (l.last k v le e) ((is_visible_decides name b.in_scope.items v).1 (seen.named, seen.in_scope));
      })

  pub lookup-finds : MatchOption (lookup name b) (NoneVisible name b 0) (λ m. IsFound name b m.0.0 m.1)
  unfolding lookup
  lookup-finds = told _ (last_var_tells (is_visible name b.in_scope.items) 0 (rule_vars b))

  hidden : (n : ℕ) → NoneVisible name b n → NonePass (is_visible name b.in_scope.items) n (rule_vars b)
  hidden n none k v le e =
      let tells = is_visible_decides name b.in_scope.items v in
      false_from_ne_true _ (λ t. none k v le e (record { named = (tells.0 t).0; in_scope = (tells.0 t).1 }))

  -- and nothing else may be its answer
  pub lookup-none : NoneVisible name b 0 → lookup name b ≡ None
  unfolding lookup
  lookup-none none = last_var_none (is_visible name b.in_scope.items) 0 (rule_vars b) (hidden 0 none)

  pub lookup-some : (n : ℕ) (v : BoundVar) → IsFound name b n v → lookup name b ≡ Some (record { 0 = n }, v)
  unfolding lookup
  lookup-some n v found =
      last_var_some (is_visible name b.in_scope.items) 0 (rule_vars b) n v (record {
        there = found.there;
        passes = (is_visible_decides name b.in_scope.items v).1 (found.visible.named, found.visible.in_scope);
        last = hidden (n + 1) found.last;
      }) ∙ at v (zero-add n)

-- adding a variable, whatever comes of it
module _ (name : Sym) (ty : TypeId) (b : Bound) where
  added : Bound
  added = record b { seen = extended (new_var name ty b ∷ []) b.seen }

  module _ (c : Bound) (r : Result VarId Refusal) (step : outcome c r ≡ add_var name ty b) where
    add_var-cases : ((c ≡ added) × (r ≡ Ok (record { 0 = var_count b }))) ⊎ ((c ≡ b) × (r ≡ Err (refusal.Full table.Variables)))
    unfolding add_var push_var added
    add_var-cases = elim (one_of_two _ _ b c _ _ r step) [ inl (t, e, q) ↦ inl (e, q) | inr (t, e, q) ↦ inr (e, q) ]

    -- scopes stay as they are
    pub add_var-scopes : (c.in_scope ≡ b.in_scope) × (c.next_scope ≡ b.next_scope) × (c.first ≡ b.first)
    unfolding added
    add_var-scopes = elim add_var-cases [ inl (e, q) ↦ rw e (refl, refl, refl) | inr (e, q) ↦ rw e (refl, refl, refl) ]

    -- what is new, or why nothing is
    pub add_var-adds : MatchResult r (λ n. (n.0 ≡ var_count b) × (c.seen.items ≡ b.seen.items ++ new_var name ty b ∷ [])) (λ e. (e ≡ refusal.Full table.Variables) × (c ≡ b))
    unfolding added
    add_var-adds = elim add_var-cases [ inl (e, q) ↦ rw (e, q) (refl, refl) | inr (e, q) ↦ rw (e, q) (refl, refl) ]

    pub add_var-grows : Grows b.seen.items c.seen.items
    unfolding added
    add_var-grows = elim add_var-cases [ inl (e, q) ↦ rw e (take_at b.seen.items _ _ refl) | inr (e, q) ↦ rw e (take_all _ b.seen.items (omega arith)) ]

  module _ (within : b.first ≤ length b.seen.items) where
    added-vars : rule_vars added ≡ rule_vars b ++ new_var name ty b ∷ []
    unfolding added
    added-vars = drop-append-le b.first b.seen.items _ within

    added-lookup : (other : Sym) → lookup other added ≡ last_var (is_visible other b.in_scope.items) 0 (rule_vars b ++ new_var name ty b ∷ [])
    unfolding added lookup
    added-lookup other = ap (last_var (is_visible other b.in_scope.items) 0) added-vars

    added-finds : 0 < length b.in_scope.items → lookup name added ≡ Some (record { 0 = var_count b }, new_var name ty b)
    added-finds some =
        let p = is_visible name b.in_scope.items in
        let seen = (is_visible_decides name b.in_scope.items (new_var name ty b)).1 (refl, innermost_open b.in_scope.items some) in
        let number : 0 + length (rule_vars b) ≡ var_count b = zero-add _ ∙ length-drop b.first b.seen.items in
        added-lookup name ∙ last_var_push p 0 (rule_vars b) (new_var name ty b) ∙ rw seen (at (new_var name ty b) number)

    added-others : (other : Sym) → other ≢ name → lookup other added ≡ lookup other b
    unfolding lookup
    added-others other differs =
        added-lookup other ∙ last_var_push (is_visible other b.in_scope.items) 0 (rule_vars b) (new_var name ty b)
        ∙ rw (other_hidden other b.in_scope.items (new_var name ty b) differs) refl

  added-numbered : IsNumbered b → IsNumbered added
  unfolding added
  added-numbered h = record {
    within = omega (arith, h.within, length_push b.seen.items (new_var name ty b));
    begun = h.begun;
    vars = λ v c. elim (Contains-push_cases (rule_vars b) (new_var name ty b) v (rw (added-vars h.within) at c)) [
      | inl old ↦ h.vars v old
      | inr new ↦ rw (sym new) (elim (innermost_cases b.in_scope.items) [
        | inl open' ↦ h.scopes _ open'
        | inr none ↦ rw none h.begun
      ])
    ];
    scopes = h.scopes;
  }

  module _ (c : Bound) (r : Result VarId Refusal) (step : outcome c r ≡ add_var name ty b) where
    -- the name means the new variable
    pub add_var-finds : b.first ≤ length b.seen.items → 0 < length b.in_scope.items → IfOk r (λ n. lookup name c ≡ Some (n, new_var name ty b))
    add_var-finds within some = elim (add_var-cases c r step) [ inl (e, q) ↦ rw (e, q) (added-finds within some) | inr (e, q) ↦ rw q tt ]

    -- other names mean what they did
    pub add_var-others : b.first ≤ length b.seen.items → (other : Sym) → other ≢ name → lookup other c ≡ lookup other b
    add_var-others within other differs = elim (add_var-cases c r step) [ inl (e, q) ↦ rw e (added-others within other differs) | inr (e, q) ↦ rw e refl ]

    pub add_var-numbered : IsNumbered b → IsNumbered c
    add_var-numbered h = elim (add_var-cases c r step) [ inl (e, q) ↦ rw e (added-numbered h) | inr (e, q) ↦ rw e h ]

-- opening a scope, whatever comes of it
module _ (b : Bound) where
  entered-lookup : IsNumbered b → (name : Sym) → lookup name (entered b) ≡ lookup name b
  unfolding lookup
  entered-lookup h name =
      last_var_same (is_visible name (entered b).in_scope.items) (is_visible name b.in_scope.items) 0 (rule_vars b)
      (λ v c. more_scopes name b.in_scope.items (record { 0 = b.next_scope }) v (h.vars v c))

  entered-numbered : IsNumbered b → IsNumbered (entered b)
  entered-numbered h = record {
    within = h.within;
    begun = omega (arith, h.begun);
    vars = λ v c. omega (arith, h.vars v c);
    scopes = λ s c. elim (Contains-push_cases b.in_scope.items (record { 0 = b.next_scope }) s c) [
      | inl old ↦ omega (arith, h.scopes s old)
      | inr new ↦ omega (arith, ap (λ s. s.0) new)
    ];
  }

  module _ (c : Bound) (r : Result (Unit {0}) Refusal) (step : outcome c r ≡ enter_scope b) where
    enter_scope-cases : ((c ≡ entered b) × (r ≡ Ok tt)) ⊎ ((c ≡ b) × (r ≡ Err (refusal.Full table.Scopes)))
    unfolding enter_scope
    enter_scope-cases = elim (one_of_two _ _ b c _ _ r step) [ inl (t, e, q) ↦ inl (e, q) | inr (t, e, q) ↦ inr (e, q) ]

    -- variables stay as they are
    pub enter_scope-vars : (c.seen ≡ b.seen) × (c.first ≡ b.first)
    enter_scope-vars = elim enter_scope-cases [ inl (e, q) ↦ rw e (refl, refl) | inr (e, q) ↦ rw e (refl, refl) ]

    -- a refusal changes nothing
    pub enter_scope-refused : IfErr r (λ e. (e ≡ refusal.Full table.Scopes) × (c ≡ b))
    enter_scope-refused = elim enter_scope-cases [ inl (e, q) ↦ rw q tt | inr (e, q) ↦ rw (e, q) (refl, refl) ]

    -- a scope is open then
    pub enter_scope-opens : IfOk r (λ _. 0 < length c.in_scope.items)
    enter_scope-opens = elim enter_scope-cases [ inl (e, q) ↦ rw (e, q) (omega (arith, length_push b.in_scope.items (record { 0 = b.next_scope }))) | inr (e, q) ↦ rw q tt ]

    -- it is the innermost then, under a number that the rule had not used
    pub enter_scope-innermost : IfOk r (λ _. innermost c.in_scope.items ≡ record { 0 = b.next_scope })
    enter_scope-innermost = elim enter_scope-cases [ inl (e, q) ↦ rw (e, q) (innermost_push b.in_scope.items (record { 0 = b.next_scope })) | inr (e, q) ↦ rw q tt ]

    -- closing the scope gives the open scopes back, whatever variables came in the meantime
    pub enter_scope-exit : (d : Bound) → d.in_scope ≡ c.in_scope → IfOk r (λ _. (exit_scope d).in_scope ≡ b.in_scope)
    unfolding exit_scope
    enter_scope-exit d same = elim enter_scope-cases [
      | inl (e, q) ↦
          let last : Scope = record { 0 = b.next_scope } in
          let left = take_at b.in_scope.items (last ∷ []) (length (b.in_scope.items ++ last ∷ []) - 1) (omega (arith, length_push b.in_scope.items last)) in
          rw q (rw same (rw e (λ i. record { items = left i; limit = b.in_scope.limit })))
      | inr (e, q) ↦ rw q tt
    ]

    -- names mean what they did
    pub enter_scope-lookup : IsNumbered b → (name : Sym) → lookup name c ≡ lookup name b
    enter_scope-lookup h name = elim enter_scope-cases [ inl (e, q) ↦ rw e (entered-lookup h name) | inr (e, q) ↦ rw e refl ]

    pub enter_scope-numbered : IsNumbered b → IsNumbered c
    enter_scope-numbered h = elim enter_scope-cases [ inl (e, q) ↦ rw e (entered-numbered h) | inr (e, q) ↦ rw e h ]

-- closing a scope
module _ (b : Bound) where
  pub exit_scope-vars : ((exit_scope b).seen ≡ b.seen) × ((exit_scope b).first ≡ b.first)
  unfolding exit_scope
  exit_scope-vars = (refl, refl)

  pub exit_scope-numbered : IsNumbered b → IsNumbered (exit_scope b)
  unfolding exit_scope
  exit_scope-numbered h = record { within = h.within; begun = h.begun; vars = h.vars; scopes = λ s c. h.scopes s (in_front _ b.in_scope.items s c) }

-- a variable of a scope that is opened later is not visible
later_hidden : (b : Bound) → IsNumbered b → (name : Sym) (v : BoundVar) → b.next_scope ≤ v.scope.0 → is_visible name b.in_scope.items v ≡ false
later_hidden b h name v later = false_from_ne_true _ (λ t. omega (arith, later, h.scopes v.scope ((is_visible_decides name b.in_scope.items v).0 t).1))

-- A let: its variables, and those of lets in it, have the scope that it opens or a later one. Once that scope is closed, each name means what it did.
module _ (b c : Bound) (opened : outcome c (Ok tt) ≡ enter_scope b) (h : IsNumbered b) where
  module _ (d : Bound) (same : d.in_scope ≡ c.in_scope) (vs : List BoundVar) (more : rule_vars d ≡ rule_vars b ++ vs) (later : (v : BoundVar) → Contains vs v → b.next_scope ≤ v.scope.0) where
    pub scope-closed : (name : Sym) → lookup name (exit_scope d) ≡ lookup name b
    unfolding lookup exit_scope
    scope-closed name =
        let p = is_visible name b.in_scope.items in
        let closed = ap (λ s. s.items) (enter_scope-exit b c (Ok tt) opened d same) in
        let none : NonePass p 0 vs = λ k v le e. later_hidden b h name v (later v (k, slice_get_within vs k v e, get_or_from_slice_get vs k v v e)) in
        rw (closed, more) (last_var_front p 0 (rule_vars b) vs none)

  -- a let of one variable
  pub scope-closed-one : (var : Sym) (ty : TypeId) (d : Bound) (r : Result VarId Refusal) → outcome d r ≡ add_var var ty c → (name : Sym) → lookup name (exit_scope d) ≡ lookup name b
  scope-closed-one var ty d r step name =
      let (seen, first) = enter_scope-vars b c (Ok tt) opened in
      let front : rule_vars c ≡ rule_vars b = rw (seen, first) refl in
      let (same, _, _) = add_var-scopes var ty c d r step in
      let within = (enter_scope-numbered b c (Ok tt) opened h).within in
      let scope = enter_scope-innermost b c (Ok tt) opened in
      elim (add_var-cases var ty c d r step) [
        | inl (e, q) ↦
            let more : rule_vars d ≡ rule_vars b ++ new_var var ty c ∷ [] = rw e (added-vars var ty c within) ∙ ap (λ vs. vs ++ new_var var ty c ∷ []) front in
            scope-closed d same (new_var var ty c ∷ []) more (λ v there. elim (Contains-push_cases [] (new_var var ty c) v there) [
              | inl (k, none, _) ↦ absurd (omega (arith, none))
              | inr new ↦ omega (arith, ap (λ w. w.scope.0) new, ap (λ s. s.0) scope)
            ]) name
        | inr (e, q) ↦ scope-closed d same [] (rw e front ∙ sym (append-nil (rule_vars b))) (λ v (k, none, _). absurd (omega (arith, none))) name
      ]

-- the beginning of a rule, whatever comes of it
module _ (b c : Bound) (r : Result (Unit {0}) Refusal) (step : outcome c r ≡ begin_rule b) where
  begin_rule-enters : outcome c r ≡ enter_scope (end_rule b)
  unfolding begin_rule
  begin_rule-enters = step

  -- the rule has no variables yet, and the others stay
  pub begin_rule-vars : (c.seen ≡ b.seen) × (c.first ≡ length b.seen.items)
  unfolding end_rule
  begin_rule-vars = enter_scope-vars (end_rule b) c r begin_rule-enters

  pub begin_rule-opens : IfOk r (λ _. 0 < length c.in_scope.items)
  begin_rule-opens = enter_scope-opens (end_rule b) c r begin_rule-enters

  -- no name means anything
  pub begin_rule-unbound : (name : Sym) → lookup name c ≡ None
  unfolding lookup
  begin_rule-unbound name =
      let (seen, first) = begin_rule-vars in
      let none : rule_vars c ≡ [] = rw (seen, first) (drop-length b.seen.items) in
      ap (last_var (is_visible name c.in_scope.items) 0) none

  pub begin_rule-numbered : IfOk r (λ _. IsNumbered c)
  unfolding end_rule
  begin_rule-numbered = elim (enter_scope-cases (end_rule b) c r begin_rule-enters) [
    | inl (e, q) ↦
        let none = drop-length b.seen.items in
        rw (e, q) (record {
          within = omega arith;
          begun = omega arith;
          vars = λ v (k, within, _). absurd (omega (arith, within, ap length none));
          scopes = λ s c. elim (Contains-push_cases [] (record { 0 = 0 }) s c) [
            | inl (k, within, _) ↦ absurd (omega (arith, within))
            | inr new ↦ omega (arith, ap (λ s. s.0) new)
          ];
        })
    | inr (e, q) ↦ rw q tt
  ]

-- the same by what the two steps of a beginning are
pub begun_unbound : (b e c : Bound) (r : Result (Unit {0}) Refusal) → e ≡ end_rule b → outcome c r ≡ enter_scope e → (name : Sym) → lookup name c ≡ None
unfolding begin_rule
begun_unbound b e c r ended opened = begin_rule-unbound b c r (opened ∙ ap enter_scope ended)

-- the end of a rule, and of all
module _ (b : Bound) where
  pub end_rule-vars : ((end_rule b).seen ≡ b.seen) × ((end_rule b).first ≡ length b.seen.items)
  unfolding end_rule
  end_rule-vars = (refl, refl)

  pub drop_rule-vars : ((drop_rule b).seen ≡ cut b.first b.seen) × ((drop_rule b).first ≡ b.first)
  unfolding drop_rule
  drop_rule-vars = (refl, refl)

  pub cleared-vars : ((cleared b).seen ≡ cut 0 b.seen) × ((cleared b).first ≡ 0)
  unfolding cleared
  cleared-vars = (refl, refl)

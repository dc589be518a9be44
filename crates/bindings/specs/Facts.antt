-- What holds of a look-up, and of the states of a rule one after another.
use Rattle.std.specs.Prelude.{◌≡◌, ℕ, ◌+◌, ◌<◌, ◌≤◌, List, length, take, Some, Contains}
use Rattle.std.specs.List.{slice_get}
use Rattle.records.specs.declared.ids.Sym.{Sym}
use Rattle.records.specs.declared.result.BoundVar.{BoundVar}
use Rattle.records.specs.declared.result.Scope.{Scope}
use Rattle.bindings.specs.Bound.{Bound, rule_vars, var_count}

-- the variable has the name, and its scope is open
pub record IsVisible (name : Sym) (b : Bound) (v : BoundVar) : Type 0 where
  pub named : v.name ≡ name
  pub in_scope : Contains b.in_scope.items v.scope

-- no variable of the rule from number n on is visible under the name
abbrev pub NoneVisible : Sym → Bound → ℕ → Type 0
NoneVisible name b n = (k : ℕ) (v : BoundVar) → n ≤ k → slice_get (rule_vars b) k ≡ Some v → IsVisible name b v → ⊥

-- the rule's last variable that is visible under the name, with its number
pub record IsFound (name : Sym) (b : Bound) (n : ℕ) (v : BoundVar) : Type 0 where
  pub within : n < var_count b
  pub there : slice_get (rule_vars b) n ≡ Some v
  pub visible : IsVisible name b v
  pub last : NoneVisible name b (n + 1)

-- what there was stays in front
abbrev pub Grows : {X : Type 0} → List X → List X → Type 0
Grows xs ys = take (length xs) ys ≡ xs

-- The rule's variables and its open scopes have scope numbers that were given out: no scope that is opened later has one of them.
pub record IsNumbered (b : Bound) : Type 0 where
  pub within : b.first ≤ length b.seen.items
  pub begun : 0 < b.next_scope
  pub vars : (v : BoundVar) → Contains (rule_vars b) v → v.scope.0 < b.next_scope
  pub scopes : (s : Scope) → Contains b.in_scope.items s → s.0 < b.next_scope

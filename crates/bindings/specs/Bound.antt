-- The variables of a rule and the scopes that are open, and what the calls on them do.
use Rattle.std.specs.Prelude.{ℕ, suc, ◌+◌, ◌-◌, Bool, ◌&&◌, List, [], ◌∷◌, length, drop, Some, None, Option, ◌==◌, nat_lt, if◌then◌else◌, unwrap_or}
use Rattle.std.specs.List.{slice_get, list_any}
use Rattle.std.specs.Option.{option_or}
use Rattle.table.specs.Contents.{Contents, Outcome, done, refused, empty, cut, extended, has_room}
use Rattle.records.specs.declared.ids.Sym.{Sym}
use Rattle.records.specs.declared.ids.TypeId.{TypeId}
use Rattle.records.specs.declared.ids.VarId.{VarId}
use Rattle.records.specs.declared.refusal.Refusal.{Refusal}
use Rattle.records.specs.declared.refusal.Refusal.TheVariants as refusal
use Rattle.records.specs.declared.refusal.TableId.TheVariants as table
use Rattle.records.specs.declared.result.BoundVar.{BoundVar}
use Rattle.records.specs.declared.result.Scope.{Scope}
use Rattle.records.specs.declared.source.Part.{Part}

-- The variables of the kept rules, then those of the rule at hand, in the order in which they came;
-- the open scopes, the innermost last;
-- where the rule's variables begin;
-- the number of the rule's next scope.
pub record Bound : Type 0 where
  pub seen : Contents BoundVar
  pub in_scope : Contents Scope
  pub first : ℕ
  pub next_scope : ℕ

-- the rule's variables; a variable's number is its place here
abbrev pub rule_vars : Bound → List BoundVar
rule_vars b = drop b.first b.seen.items

-- how many there are
abbrev pub var_count : Bound → ℕ
var_count b = length b.seen.items - b.first

abbrev pub rule_part : Bound → Part
rule_part b = record { start = b.first; end = length b.seen.items }

-- nothing yet, under these limits
abbrev pub nothing_bound : ℕ → ℕ → Bound
nothing_bound variables scopes = record { seen = empty variables; in_scope = empty scopes; first = 0; next_scope = 0 }

unfoldable pub cleared : Bound → Bound
cleared b = record { seen = cut 0 b.seen; in_scope = cut 0 b.in_scope; first = 0; next_scope = 0 }

-- all variables stay, and the next rule's begin behind them
unfoldable pub end_rule : Bound → Bound
end_rule b = record { seen = b.seen; in_scope = cut 0 b.in_scope; first = length b.seen.items; next_scope = 0 }

-- the rule's variables go
unfoldable pub drop_rule : Bound → Bound
drop_rule b = record { seen = cut b.first b.seen; in_scope = cut 0 b.in_scope; first = b.first; next_scope = 0 }

-- one more open scope, with a number of its own
abbrev pub entered : Bound → Bound
entered b = record b { in_scope = extended (record { 0 = b.next_scope } ∷ []) b.in_scope; next_scope = b.next_scope + 1 }

-- a scope's number is below 2 ^ 32
unfoldable pub enter_scope : Bound → Outcome Bound (Unit {0}) Refusal
enter_scope b = if nat_lt b.next_scope 4294967295 && has_room b.in_scope then done (entered b) tt else refused b (refusal.Full table.Scopes)

-- the innermost open scope is closed, if there is one
unfoldable pub exit_scope : Bound → Bound
exit_scope b = record b { in_scope = cut (length b.in_scope.items - 1) b.in_scope }

-- no variables of its own yet, and its own scope open; where no scope may be, it is refused with none open
unfoldable pub begin_rule : Bound → Outcome Bound (Unit {0}) Refusal
begin_rule b = enter_scope (end_rule b)

-- the innermost open scope, or scope 0 where none is open
abbrev pub innermost : List Scope → Scope
innermost scopes = unwrap_or (slice_get scopes (length scopes - 1)) (record { 0 = 0 })

-- the variable behind the others, at the rule's next number; a rule has 1,024 at most
unfoldable pub push_var : BoundVar → Bound → Outcome Bound VarId Refusal
push_var v b =
    if nat_lt (var_count b) 1024 && has_room b.seen
    then done (record b { seen = extended (v ∷ []) b.seen }) (record { 0 = var_count b })
    else refused b (refusal.Full table.Variables)

-- the variable that is added under a name and with a type: in the innermost open scope
abbrev pub new_var : Sym → TypeId → Bound → BoundVar
new_var name ty b = record { name = name; ty = ty; scope = innermost b.in_scope.items }

unfoldable pub add_var : Sym → TypeId → Bound → Outcome Bound VarId Refusal
add_var name ty b = push_var (new_var name ty b) b

-- whether the variable has the name, and its scope is open
abbrev pub is_visible : Sym → List Scope → BoundVar → Bool
is_visible name scopes v = v.name.0 == name.0 && list_any (λ s. s.0 == v.scope.0) scopes

-- the last variable that passes, with its number, where the first one has the number n
abbrev pub last_var : (BoundVar → Bool) → ℕ → List BoundVar → Option (VarId × BoundVar)
last_var p n [] = None
last_var p n (v ∷ vs) = option_or (last_var p (suc n) vs) (if p v then Some (record { 0 = n }, v) else None)

-- the rule's last variable of that name in an open scope, with its number
unfoldable pub lookup : Sym → Bound → Option (VarId × BoundVar)
lookup name b = last_var (is_visible name b.in_scope.items) 0 (rule_vars b)

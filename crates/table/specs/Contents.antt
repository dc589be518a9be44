-- What a table is to a contract: its items as a list, and its limit.
use Rattle.std.specs.Prelude.{ℕ, ◌+◌, ◌≤◌, Bool, List, [], ◌∷◌, ◌++◌, length, take, Ok, Err, Result, nat_le, nat_lt, if◌then◌else◌}
use Rattle.table.specs.declared.Full.{Full}

pub record Contents (T : Type 0) : Type 0 where
  pub items : List T
  pub limit : ℕ

-- a table's memory: no more items than the limit, room for as many, and a limit below the maximum of its type
pub record IsWithin (len limit capacity max : ℕ) : Type 0 where
  pub few : len ≤ limit
  pub room : limit ≤ capacity
  pub bound : limit ≤ max

abbrev pub empty : {T : Type 0} → ℕ → Contents T
empty n = record { items = []; limit = n }

-- the first n items
abbrev pub cut : {T : Type 0} → ℕ → Contents T → Contents T
cut n t = record { items = take n t.items; limit = t.limit }

-- more items at the end
abbrev pub extended : {T : Type 0} → List T → Contents T → Contents T
extended xs t = record { items = t.items ++ xs; limit = t.limit }

-- whether there is a place for one more item
abbrev pub has_room : {T : Type 0} → Contents T → Bool
has_room t = nat_lt (length t.items) t.limit

-- what a call that may refuse leaves, and what it answers
pub data Outcome (S A E : Type 0) : Type 0 where
  done : S → A → Outcome S A E
  refused : S → E → Outcome S A E

abbrev pub outcome : {S A E : Type 0} → S → Result A E → Outcome S A E
outcome s (Ok a) = done s a
outcome s (Err e) = refused s e

-- one more item where there is a place for it, else nothing changes
abbrev pub put : {T : Type 0} → T → Contents T → Outcome (Contents T) (Unit {0}) Full
put x t = if has_room t then done (extended (x ∷ []) t) tt else refused t (record {})

-- all of the items where there is a place for each, else nothing changes
abbrev pub put_all : {T : Type 0} → List T → Contents T → Outcome (Contents T) (Unit {0}) Full
put_all xs t = if nat_le (length t.items + length xs) t.limit then done (extended xs t) tt else refused t (record {})

-- Names: parts of the text.
use Rattle.std.specs.Prelude.{ℕ, ◌+◌, ◌<◌, ◌≤◌, List, [], ◌∷◌, length, codes, ◌≢◌}
use Rattle.std.specs.List.{slice_get}
use Rattle.records.specs.declared.source.Name.{Name}

-- the name has 1 to 255 bytes, and they lie in the text
pub record Inside (text : List ℕ) (n : Name) : Type 0 where
  pub some : 0 < n.len
  pub few : n.len ≤ 255
  pub within : n.start + n.len ≤ length text

-- no item before the i-th is the same
abbrev pub New : {X : Type 0} → List X → ℕ → Type 0
New xs i = (j : ℕ) → j < i → slice_get xs j ≢ slice_get xs i

-- the names of the built-in types, which are the first symbols and name the first types
abbrev pub builtin_names : List (List ℕ)
builtin_names =
    codes "bool" ∷ codes "u8" ∷ codes "u16" ∷ codes "u32" ∷ codes "u64" ∷ codes "u128" ∷ codes "usize"
    ∷ codes "i8" ∷ codes "i16" ∷ codes "i32" ∷ codes "i64" ∷ codes "i128" ∷ codes "isize" ∷ []

-- Trees, and the list of records that lays them out: a root stands behind all that is below it.
use Rattle.std.specs.Prelude.{◌≡◌, ℕ, ◌+◌, Bool, true, false, List, [], ◌∷◌, ◌++◌, length}

-- Trees one after another: `next f r g` has, after those of f, the tree with the root r over those of g.
pub data Forest (N : Type 0) : Type 0 where
  none : Forest N
  next : Forest N → N → Forest N → Forest N

abbrev pub flat : {N : Type 0} → Forest N → List N
flat none = []
flat (next f r g) = flat f ++ (flat g ++ r ∷ [])

-- What a record says of the tree whose root it is:
-- the size that it states;
-- whether it may stand over that many trees;
-- whether a tree with that root may stand right below it, by how many stand after it and whether none stands before it.
pub record Rules (N : Type 0) : Type 0 where
  pub size : N → ℕ
  pub counts : N → ℕ → Bool
  pub takes : N → N → ℕ → Bool → Bool

abbrev pub empty : {N : Type 0} → Forest N → Bool
empty none = true
empty (next f r g) = false

-- the trees may stand below r, where `after` more stand there after them
abbrev pub Below : {N : Type 0} → Rules N → N → ℕ → Forest N → Type 0
Below R r after none = R.counts r after ≡ true
Below R r after (next f c g) = (R.takes r c after (empty f) ≡ true) × Below R r (after + 1) f

-- each root states the size of its tree, and what is below it may stand there
abbrev pub Lawful : {N : Type 0} → Rules N → Forest N → Type 0
Lawful R none = Unit {0}
Lawful R (next f r g) = Lawful R f × Lawful R g × (R.size r ≡ length (flat g) + 1) × Below R r 0 g

-- the list lays out trees one after another
abbrev pub IsForest : {N : Type 0} → Rules N → List N → Type 0
IsForest {N} R xs = (f : Forest N) × (xs ≡ flat f) × Lawful R f

-- the list lays out one tree
abbrev pub IsTree : {N : Type 0} → Rules N → List N → Type 0
IsTree {N} R xs = (r : N) × (g : Forest N) × (xs ≡ flat (next none r g)) × Lawful R (next none r g)

-- Patterns as ISLE's abstract syntax has them, and the records that lay one out.
use Rattle.std.specs.Prelude.{ℕ, ℤ, ◌+◌, ◌<◌, Bool, List, [], ◌∷◌, ◌++◌, length}
use Rattle.records.specs.declared.source.Name.{Name}
use Rattle.records.specs.declared.source.Node.{Node}
use Rattle.records.specs.declared.source.Node.TheVariants as node
use Rattle.records.specs.declared.source.Pattern.TheVariants as pattern
use Rattle.records.specs.declared.source.Pos.{Pos}
use Rattle.records.specs.declared.source.Source.{Source}

-- where a node stands: the number of its record in the source list, and its place in the source files
pub record At : Type 0 where
  pub number : ℕ
  pub pos : Pos

mutual
  pub data PatternTree : Type 0 where
    var : At → Name → PatternTree
    -- the name stands for what the pattern matches
    bind_pattern : At → Name → PatternTree → PatternTree
    const_bool : At → Bool → PatternTree
    const_int : At → ℤ → PatternTree
    const_prim : At → Name → PatternTree
    term : At → Name → PatternTrees → PatternTree
    wildcard : At → PatternTree
    «and» : At → PatternTrees → PatternTree
    -- an argument of the template that the pattern stands in
    macro_arg : At → ℕ → PatternTree

  pub data PatternTrees : Type 0 where
    none : PatternTrees
    more : PatternTree → PatternTrees → PatternTrees

-- a record of the source list, with its number there
abbrev pub Numbered : Type 0
Numbered = ℕ × Source

abbrev pub node_record : At → Node → ℕ → Numbered
node_record at node below = (at.number, record { node = node; size = below + 1; pos = at.pos })

-- a node stands behind all that is below it, and its record counts them and itself
abbrev pub rooted : At → Node → List Numbered → List Numbered
rooted at node below = below ++ node_record at node (length below) ∷ []

abbrev mutual
  pub pattern_records : PatternTree → List Numbered
  pattern_records (var at name) = rooted at (node.Pattern (pattern.Var name)) []
  pattern_records (bind_pattern at name p) = rooted at (node.Pattern (pattern.BindPattern name)) (pattern_records p)
  pattern_records (const_bool at val) = rooted at (node.Pattern (pattern.ConstBool val)) []
  pattern_records (const_int at val) = rooted at (node.Pattern (pattern.ConstInt val)) []
  pattern_records (const_prim at name) = rooted at (node.Pattern (pattern.ConstPrim name)) []
  pattern_records (term at name args) = rooted at (node.Pattern (pattern.Term name)) (patterns_records args)
  pattern_records (wildcard at) = rooted at (node.Pattern pattern.Wildcard) []
  pattern_records («and» at ps) = rooted at (node.Pattern pattern.And) (patterns_records ps)
  pattern_records (macro_arg at index) = rooted at (node.Pattern (pattern.MacroArg index)) []

  pub patterns_records : PatternTrees → List Numbered
  patterns_records none = []
  patterns_records (more p ps) = pattern_records p ++ patterns_records ps

-- each macro argument is one of the first `arity`; below 0 there are none
abbrev mutual
  pub MacrosBelow : ℕ → PatternTree → Type 0
  MacrosBelow arity (var at name) = Unit {0}
  MacrosBelow arity (bind_pattern at name p) = MacrosBelow arity p
  MacrosBelow arity (const_bool at val) = Unit {0}
  MacrosBelow arity (const_int at val) = Unit {0}
  MacrosBelow arity (const_prim at name) = Unit {0}
  MacrosBelow arity (term at name args) = AllMacrosBelow arity args
  MacrosBelow arity (wildcard at) = Unit {0}
  MacrosBelow arity («and» at ps) = AllMacrosBelow arity ps
  MacrosBelow arity (macro_arg at index) = index < arity

  pub AllMacrosBelow : ℕ → PatternTrees → Type 0
  AllMacrosBelow arity none = Unit {0}
  AllMacrosBelow arity (more p ps) = MacrosBelow arity p × AllMacrosBelow arity ps

abbrev pub pattern_list : PatternTrees → List PatternTree
pattern_list none = []
pattern_list (more p ps) = p ∷ pattern_list ps

-- the patterns right below a pattern
abbrev pub subpatterns : PatternTree → List PatternTree
subpatterns (var at name) = []
subpatterns (bind_pattern at name p) = p ∷ []
subpatterns (const_bool at val) = []
subpatterns (const_int at val) = []
subpatterns (const_prim at name) = []
subpatterns (term at name args) = pattern_list args
subpatterns (wildcard at) = []
subpatterns («and» at ps) = pattern_list ps
subpatterns (macro_arg at index) = []

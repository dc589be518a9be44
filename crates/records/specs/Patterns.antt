-- How many patterns may stand below a pattern.
use Rattle.std.specs.Prelude.{ℕ, Bool, true, ◌&&◌, ◌==◌, nat_lt}
use Rattle.records.specs.declared.source.Pattern.{Pattern}
use Rattle.records.specs.declared.source.Pattern.TheVariants as pattern

-- whether a pattern may stand over n patterns, in a template of that arity; a definition is a template without arguments
abbrev pub pattern_counts : ℕ → Pattern → ℕ → Bool
pattern_counts arity (pattern.Var var) n = n == 0
pattern_counts arity (pattern.BindPattern var) n = n == 1
pattern_counts arity (pattern.ConstBool val) n = n == 0
pattern_counts arity (pattern.ConstInt val) n = n == 0
pattern_counts arity (pattern.ConstPrim val) n = n == 0
pattern_counts arity (pattern.Term sym) n = true
pattern_counts arity pattern.Wildcard n = n == 0
pattern_counts arity pattern.And n = true
pattern_counts arity (pattern.MacroArg index) n = nat_lt index arity && n == 0

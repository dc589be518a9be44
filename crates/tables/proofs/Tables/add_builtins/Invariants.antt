use Rattle.std.proofs.Common.{◌≡◌, drop}
use Rattle.tables.specs.Names.{builtin_names}
use Rattle.tables.specs.Steps.{add_builtins}
use Rattle.tables.proofs.Tables.add_builtins.Given as goal

-- what is left, from here, gives what the whole gives from the start
abbrev pub invariant-loop-i : goal.invariant-loop-i
invariant-loop-i l = add_builtins 0 builtin_names l.initial.self ≡ add_builtins l.i (drop l.i builtin_names) l.self

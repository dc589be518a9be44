use Rattle.std.proofs.Common.{take}
use Rattle.tree.specs.Layout.{IsForest}
use Rattle.tree.proofs.lawful.first_bad.Given as goal

abbrev pub invariant-loop-i : goal.invariant-loop-i
invariant-loop-i g l = IsForest (g.G.Grammar.rules l.grammar) (take l.i l.part)

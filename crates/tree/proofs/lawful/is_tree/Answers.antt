use Rattle.std.proofs.Common.{arith}
use Rattle.tree.proofs.Forests.{tree_front}
use Rattle.tree.proofs.lawful.is_tree.Goals as goal

pub returns-else-is_none : goal.returns-else-is_none
returns-else-is_none g c = grind (arith, tree_front (g.G.Grammar.rules c.args.grammar.now) c.args.part.now)

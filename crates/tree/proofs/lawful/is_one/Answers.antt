use Rattle.std.proofs.Common.{arith}
use Rattle.tree.proofs.Forests.{tree_size, rooted}
use Rattle.tree.proofs.lawful.is_one.Goals as goal

pub returns : goal.returns
returns g c =
    let R = g.G.Grammar.rules c.args.grammar.now in
    let xs = c.args.trees.now in
    grind (arith, rooted R xs c.requires, tree_size R xs)

use Rattle.definition.specs.Syntax.{children}
use Rattle.definition.proofs.source_tree.SourceTree.records_of_child.Goals as goal

pub returns-clause-piece : goal.returns-clause-piece
returns-clause-piece c = λ t laid. c.nth.ensures.trees c.args.self.now.first (children t) (c.below.ensures.trees t laid)

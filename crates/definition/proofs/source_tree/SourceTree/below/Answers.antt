use Rattle.definition.proofs.Behind.{rooted_at}
use Rattle.definition.proofs.source_tree.SourceTree.below.Goals as goal

pub returns-clause-trees : goal.returns-clause-trees
returns-clause-trees c = λ t laid. (rooted_at _ _ t laid).below

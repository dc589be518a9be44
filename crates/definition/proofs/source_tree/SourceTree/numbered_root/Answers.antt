use Rattle.definition.proofs.Behind.{root_is}
use Rattle.definition.proofs.source_tree.SourceTree.numbered_root.Goals as goal

pub returns : goal.returns
returns c = λ t laid. root_is _ _ t _ laid

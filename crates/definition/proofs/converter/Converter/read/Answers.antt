use Rattle.definition.proofs.Shapes.{shape}
use Rattle.definition.proofs.converter.Converter.read.Goals as goal

pub from_records-requires : goal.from_records-requires
from_records-requires c = rw c.of.ensures (shape _ c.in-None.ensures.1)

use Rattle.std.proofs.Common.{ap}
use Rattle.table.specs.Contents.{outcome, refused}
use Rattle.tables.proofs.Chains.{fails}
use Rattle.elaborate.specs.Converters.{Converts, unlawful, lawful}
use Rattle.elaborate.proofs.Single.{single}
use Rattle.elaborate.proofs.Keeping.{converts_keeps, kept}
use Rattle.elaborate.proofs.converters.convert_part.Goals as goal

pub returns-in_err-definition : goal.returns-in_err-definition
returns-in_err-definition c =
    let v = c.args.tables.now in
    let (i, e, bad) = rw c.as_slice.ensures.items at c.in_err-definition.ensures in
    let m : Converts c.args.part v (outcome v c.from_residual.result) =
    unlawful i bad (fails c.from_residual.result c.from_residual.ensures.1 (ap (refused v) e)) in
    let k = kept v v _ (converts_keeps _ _ _ m) in
    record { meaning = m; only = λ t h. single _ v t _ h m; unchanged = k.0; env = k.1 }

pub returns : goal.returns
returns c =
    let v = c.args.tables.now in
    let w = c.convert.new.tables in
    let m : Converts c.args.part v (outcome w c.convert.result) =
    lawful c.in_ok-definition.definition (rw c.as_slice.ensures.items at c.in_ok-definition.ensures) c.convert.ensures in
    let k = kept v w _ (converts_keeps _ _ _ m) in
    record { meaning = m; only = λ t h. single _ v t _ h m; unchanged = k.0; env = k.1 }

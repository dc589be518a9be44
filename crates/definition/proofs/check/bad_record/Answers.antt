use Rattle.std.proofs.Common.{refl}
use Rattle.definition.specs.Lawful.{broken}
use Rattle.definition.proofs.check.bad_record.Goals as goal

pub returns-in-Some : goal.returns-in-Some
returns-in-Some c =
    let (within, before, bad) = rw c.of-records.ensures at c.in-Some.ensures in
    broken c.in-Some.i refl within before bad

-- The list of faults: what is wrong with a definition is reported at its place, and the elaboration goes on.
use Rattle.table.specs.Contents.{Contents, put}
use Rattle.records.specs.declared.fault.Cause.{Cause}
use Rattle.records.specs.declared.fault.Fault.{Fault}
use Rattle.records.specs.declared.refusal.TableId.TheVariants as table
use Rattle.records.specs.declared.source.Pos.{Pos}
use Rattle.tables.specs.Steps.{Step, onto}
use Rattle.tables.specs.declared.Tables.{Tables}

abbrev pub with_faults : Tables → Contents Fault → Tables
with_faults v s = record v { faults = s }

-- one more fault; a full list refuses it
abbrev pub report : Cause → Pos → Step (Unit {0})
report cause pos v = onto table.Faults (with_faults v) (put (record { cause = cause; pos = pos }) v.faults)

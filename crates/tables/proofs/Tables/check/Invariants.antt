use Rattle.std.proofs.Common.{ℕ, ◌<◌}
use Rattle.records.specs.Numbers.{table_number}
use Rattle.records.specs.declared.refusal.TableId.{TableId}
use Rattle.tables.specs.Lawful.{Keeps}
use Rattle.tables.specs.Tables.{env}
use Rattle.tables.proofs.Tables.check.Given as goal

abbrev pub invariant-loop-table : goal.invariant-loop-table
invariant-loop-table l = (t : TableId) → table_number t < l.table-index → (j : ℕ) → Keeps (env l.self) t j

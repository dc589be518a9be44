use Rattle.std.proofs.Common.{sym, subst}
use Rattle.tables.specs.Lawful.{Lawful}
use Rattle.tables.specs.Tables.{env}
use Rattle.elaborate.proofs.opening.open.Goals as goal

-- what is taken back is no part of the environment
pub invariant_of-result : goal.invariant_of-result
invariant_of-result c = record { lawful = ∣◌∣₁ (subst (λ v. Lawful (env v)) (sym c.clear_results.ensures) c.in-Ok.ensures) }

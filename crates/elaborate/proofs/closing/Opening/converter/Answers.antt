use Rattle.std.proofs.Common.{sym, subst}
use Rattle.tables.specs.Lawful.{Lawful}
use Rattle.elaborate.proofs.closing.Opening.converter.Goals as goal

-- the call leaves the environment as it was
pub invariant_of-self : goal.invariant_of-self
invariant_of-self c = record { lawful = subst (λ e. ∥ Lawful e ∥₁) (sym c.convert_part.ensures.env) c.args.self.now.lawful }

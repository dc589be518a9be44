use Rattle.std.proofs.Common.{ℕ, rules, tests}
use Rattle.std.proofs.lemmas.Iterator.{first_from_Range}
use Rattle.tables.specs.Lawful.{Keeps}
use Rattle.tables.specs.Tables.{env}
use Rattle.tables.proofs.Tables.first_bad.Goals as goal

pub returns : goal.returns
returns c =
    let Good : ℕ → Type 0 = Keeps (env c.args.self.now) c.args.table in
    let found = first_from_Range _ _ _ _ (λ i. Good i → ⊥) Good c.find.ensures.ran (λ x q k. search (rules, tests)) (λ x q k. search (rules, tests)) in
    search rules

use Rattle.std.proofs.Common.{◌≡◌, sym, ◌∙◌, arith}
use Rattle.std.proofs.lemmas.Grind.{common_steps}
use Rattle.bindings.proofs.Laws.{lookup-finds}
use Rattle.bindings.proofs.Visible.{none_found, one_found, lookup_is}
use Rattle.bindings.proofs.Bindings.lookup.Goals as goal

pub returns-in_err-number-clause-value : goal.returns-in_err-number-clause-value
returns-in_err-number-clause-value c =
    let scopes : c.as_slice.result.now ≡ c.args.self.now.in_scope.items = grind (arith, common_steps) in
    c.from_residual.ensures ∙ sym (none_found _ _ c.in_err-number.ensures) ∙ lookup_is c.args.self.now c.args.name _ _ c.rule_vars-vars.ensures.value scopes

pub returns-in_err-number-clause-finds : goal.returns-in_err-number-clause-finds
returns-in_err-number-clause-finds c = rw (returns-in_err-number-clause-value c) (lookup-finds c.args.name c.args.self.now)

pub returns-clause-value : goal.returns-clause-value
returns-clause-value c =
    let scopes : c.as_slice.result.now ≡ c.args.self.now.in_scope.items = grind (arith, common_steps) in
    sym (one_found _ _ c.in_ok-number.number c.in_ok-number.ensures.0 c.in_ok-number.ensures.1 c.in_ok-number.ensures.2 _)
    ∙ lookup_is c.args.self.now c.args.name _ _ c.rule_vars-vars.ensures.value scopes

pub returns-clause-finds : goal.returns-clause-finds
returns-clause-finds c = let found = rw (sym (returns-clause-value c)) at (lookup-finds c.args.name c.args.self.now) in found

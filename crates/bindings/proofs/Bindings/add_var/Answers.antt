use Rattle.std.proofs.Common.{◌≡◌, ◌∙◌, arith}
use Rattle.std.proofs.lemmas.Grind.{common_steps}
use Rattle.bindings.specs.Bound.{innermost, push_var, add_var}
use Rattle.bindings.proofs.Laws.{add_var-grows, add_var-finds, add_var-others}
use Rattle.bindings.proofs.Bindings.add_var.Goals as goal

pub returns-clause-value : goal.returns-clause-value
unfolding add_var
returns-clause-value c =
    let scope : c.innermost-scope.result ≡ innermost c.args.self.now.in_scope.items = grind (arith, common_steps) in
    c.push_var.ensures ∙ (λ i. push_var (record { name = c.args.name; ty = c.args.ty; scope = scope i }) c.args.self.now)

pub returns-clause-grows : goal.returns-clause-grows
returns-clause-grows c = add_var-grows c.args.name c.args.ty c.args.self.now _ c.push_var.result (returns-clause-value c)

pub returns-clause-finds : goal.returns-clause-finds
returns-clause-finds c = add_var-finds c.args.name c.args.ty c.args.self.now _ c.push_var.result (returns-clause-value c) (grind (arith, common_steps))

pub returns-clause-others : goal.returns-clause-others
returns-clause-others c = add_var-others c.args.name c.args.ty c.args.self.now _ c.push_var.result (returns-clause-value c) (grind (arith, common_steps))

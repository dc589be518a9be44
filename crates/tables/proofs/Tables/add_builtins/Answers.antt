use Rattle.std.proofs.Common.{◌≡◌, suc, ◌+◌, [], sym, ◌∙◌, add-one, arith}
use Rattle.std.proofs.lemmas.List.{at_drop_more}
use Rattle.tables.specs.Names.{builtin_names}
use Rattle.tables.specs.Steps.{add_builtins}
use Rattle.tables.proofs.Chains.{then, stop, fails}
use Rattle.tables.proofs.Tables.add_builtins.Goals as goal

pub returns-in_err-add_builtin : goal.returns-in_err-add_builtin
returns-in_err-add_builtin c =
    let i = c.loop-i.i in
    let next = at_drop_more (λ names. add_builtins i names c.loop-i.self) builtin_names i [] (omega arith) in
    fails c.from_residual.result c.from_residual.ensures.1 (stop _ _ _ c.in_err-add_builtin.ensures) ∙ sym (c.loop-i.invariant ∙ next)

pub loop-i-preserved : goal.loop-i-preserved
loop-i-preserved c =
    let i = c.loop-i.i in
    let next = at_drop_more (λ names. add_builtins i names c.loop-i.self) builtin_names i [] (omega arith) in
    let one : i + 1 ≡ suc i = add-one i in
    c.loop-i.invariant ∙ next ∙ sym (then _ _ _ c.in_ok-add_builtin.ensures (rw one))

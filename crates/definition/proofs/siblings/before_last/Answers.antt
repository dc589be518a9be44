use Rattle.std.proofs.Common.{take, ap, ◌∙◌, arith}
use Rattle.definition.proofs.Behind.{before_root, none_left, on_none}
use Rattle.definition.proofs.siblings.before_last.Goals as goal

pub returns-in_err-size-clause-trees : goal.returns-in_err-size-clause-trees
returns-in_err-size-clause-trees c = λ n ts laid. on_none _ _ c.from_residual.ensures (none_left n c.args.trees.now ts laid (omega (arith, c.in_err-size.ensures)))

pub returns-then-size-eq0-clause-trees : goal.returns-then-size-eq0-clause-trees
returns-then-size-eq0-clause-trees c = λ n ts laid.
    let last = c.in_ok-size.ensures.item in
    let b = before_root n c.args.trees.now c.in_ok-size.field-0.now ts last.3.0 last.1 laid in
    absurd (omega (arith, b.some))

pub returns-in_err-before-clause-trees : goal.returns-in_err-before-clause-trees
returns-in_err-before-clause-trees c = λ n ts laid.
    let last = c.in_ok-size.ensures.item in
    let b = before_root n c.args.trees.now c.in_ok-size.field-0.now ts last.3.0 last.1 laid in
    absurd (omega (arith, b.few, c.in_err-before.ensures))

pub returns-clause-trees : goal.returns-clause-trees
returns-clause-trees c = λ n ts laid.
    let last = c.in_ok-size.ensures.item in
    let b = before_root n c.args.trees.now c.in_ok-size.field-0.now ts last.3.0 last.1 laid in
    (b.before, b.last, b.all, ap (λ k. take k c.args.trees.now) (c.in_ok-before.ensures.1 ∙ b.at))

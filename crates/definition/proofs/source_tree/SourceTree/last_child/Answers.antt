use Rattle.std.proofs.Common.{sym, subst, ◌∙◌, arith}
use Rattle.std.proofs.lemmas.Option.{none-some, same_Some}
use Rattle.definition.specs.Syntax.{children, LaysOut}
use Rattle.definition.proofs.Behind.{last_piece, match_map}
use Rattle.definition.proofs.source_tree.SourceTree.last_child.Goals as goal

pub returns : goal.returns
returns c = λ t laid.
    let count = c.child_count.ensures t laid in
    let (ss, s, more, at) = last_piece (children t) c.in_ok-checked_sub.field-0 (omega (arith, count, c.in_ok-checked_sub.ensures)) in
    match_map _ c.child.result (λ none. absurd (none-some s (sym none ∙ at))) (λ p (u, is, laid). (ss, s, more, subst (λ x. LaysOut p.first p.records.now x) (same_Some u s (sym is ∙ at)) laid)) (c.child.ensures t laid)

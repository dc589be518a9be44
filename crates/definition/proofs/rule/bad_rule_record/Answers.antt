use Rattle.std.proofs.Common.{sym, ◌∙◌}
use Rattle.definition.proofs.Behind.{match_map}
use Rattle.definition.proofs.OneTree.{one_rule}
use Rattle.definition.proofs.ReadTrees.{rule_of}
use Rattle.definition.proofs.Single.{lawful_has_none}
use Rattle.definition.proofs.WriteTrees.{rule_is_lawful}
use Rattle.definition.proofs.rule.bad_rule_record.Goals as goal

pub returns : goal.returns
returns c =
    let source = c.args.source.now in
    let p = c.args.part in
    match_map _ c.bad_record.result
    (λ (within, tree). let (r, laid, closed) = rule_of p.start _ tree in (r, (record { within = within; laid_out = laid; no_macros = closed }, λ s l. one_rule s r (sym l.laid_out ∙ laid))))
    (λ i bad. (bad, λ r l. lawful_has_none _ source p (l.within, rule_is_lawful _ _ r l.laid_out l.no_macros) i bad)) c.bad_record.ensures

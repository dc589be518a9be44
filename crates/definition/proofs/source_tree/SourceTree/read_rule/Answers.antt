use Rattle.std.proofs.Common.{◌-◌, length, drop, ap, arith}
use Rattle.std.proofs.lemmas.List.{length-take}
use Rattle.definition.proofs.Behind.{rooted_at}
use Rattle.definition.specs.Syntax.{of_rule, LaysOut}
use Rattle.definition.proofs.source_tree.SourceTree.read_rule.Goals as goal

pub invariant_of-result : goal.invariant_of-result
invariant_of-result c =
    let source = c.args.source.now in
    let p = c.args.part in
    let (r, (lays, one)) = c.in-None.ensures in
    let laid : LaysOut p.start c.of.result.now (of_rule r) = rw c.of.ensures lays.laid_out in
    let whole = ap length c.of.ensures in
    record {
      some = (rooted_at p.start c.of.result.now (of_rule r) laid).some;
      within = omega (arith, whole, length-take (p.end - p.start) (drop p.start source));
      laid_out = ∣ (of_rule r, laid) ∣₁;
    }

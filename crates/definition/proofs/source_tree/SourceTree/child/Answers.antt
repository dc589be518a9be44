use Rattle.std.proofs.Common.{arith}
use Rattle.std.proofs.Math.Logic.{∥∥₁_map}
use Rattle.definition.proofs.source_tree.SourceTree.child.Goals as goal

pub invariant_of-result : goal.invariant_of-result
invariant_of-result c =
    let (some, few) = c.in_ok-start.ensures.within in
    let whole = c.args.self.now.within in
    record {
      some = some;
      within = omega arith;
      laid_out = ∥∥₁_map c.args.self.now.laid_out (λ (t, laid). let (s, at, records) = c.in_ok-start.ensures.piece t laid in (s, records));
    }

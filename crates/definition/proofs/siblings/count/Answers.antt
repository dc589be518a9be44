use Rattle.std.proofs.Common.{length, ap, arith}
use Rattle.std.proofs.lemmas.List.{length_push}
use Rattle.definition.proofs.Behind.{last_of}
use Rattle.definition.proofs.siblings.count.Goals as goal

pub loop-before-preserved : goal.loop-before-preserved
loop-before-preserved c =
    let shorter = c.in-Some.ensures.shorter in
    record {
      few = omega arith;
      left = λ n ts laid.
          let (us, rest, count) = c.loop-before.invariant.left n ts laid in
          let (vs, t, more, cut) = c.in-Some.ensures.trees n us rest in
          let last = last_of n c.loop-before.rest.now vs t (rw more at rest) in
          (vs, rw cut last.before, omega (arith, count, ap length more, length_push vs t));
    }

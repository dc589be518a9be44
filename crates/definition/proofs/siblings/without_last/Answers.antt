use Rattle.std.proofs.Common.{[], ◌∷◌, ◌++◌, length, take, sym, refl, ap, ◌∙◌, arith}
use Rattle.std.proofs.lemmas.List.{append-nil, append_assoc, take_all}
use Rattle.std.proofs.lemmas.List.FromFn.{length-enumerate_from}
use Rattle.std.specs.List.{flat_map}
use Rattle.definition.specs.Syntax.{syntax_records}
use Rattle.definition.proofs.Behind.{front_of, shorter_front, on_none}
use Rattle.definition.proofs.siblings.without_last.Goals as goal

pub loop-init : goal.loop-init
loop-init c = record { shorter = omega arith; left = λ n ts laid. (ts, [], sym (append-nil ts), refl, sym (take_all _ c.args.trees.now (omega (arith, sym (length-enumerate_from n c.args.trees.now) ∙ ap length laid)))) }

pub returns-in_err-rest-clause-trees : goal.returns-in_err-rest-clause-trees
returns-in_err-rest-clause-trees c = λ n ts laid.
    let (us, vs, all, count, cut) = c.loop.invariant.left n ts laid in
    on_none _ _ c.from_residual.ensures (omega (arith, c.loop-test.true, count, ap length (all ∙ ap (λ ws. ws ++ vs) (c.in_err-rest.ensures.trees n us (rw (sym cut) at (front_of n c.args.trees.now us vs (laid ∙ ap (flat_map syntax_records) all)))))))

pub loop-preserved : goal.loop-preserved
loop-preserved c =
    let before = c.in_ok-rest.ensures.shorter in
    record {
      shorter = omega arith;
      left = λ n ts laid.
          let (us, vs, all, count, cut) = c.loop.invariant.left n ts laid in
          let here = sym cut in
          let (ws, t, more, next) = c.in_ok-rest.ensures.trees n us (rw here at (front_of n c.args.trees.now us vs (laid ∙ ap (flat_map syntax_records) all))) in (
            ws,
            t ∷ vs,
            all ∙ ap (λ xs. xs ++ vs) more ∙ append_assoc ws (t ∷ []) vs,
            omega (arith, count),
            next ∙ ap (take (length (flat_map syntax_records ws))) cut ∙ shorter_front c.args.trees.now us ws t more,
          );
    }

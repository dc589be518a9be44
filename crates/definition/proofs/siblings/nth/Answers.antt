use Rattle.std.proofs.Common.{◌≡◌, length, sym, ap, ◌∙◌, arith}
use Rattle.std.proofs.lemmas.List.{length-append, length_push}
use Rattle.std.proofs.lemmas.Option.{slice_get_past}
use Rattle.std.specs.List.{flat_map}
use Rattle.definition.specs.Syntax.{syntax_records}
use Rattle.definition.proofs.Behind.{front_of, found, on_none}
use Rattle.definition.proofs.siblings.nth.Goals as goal

pub returns-in_err-checked_sub-clause-trees : goal.returns-in_err-checked_sub-clause-trees
returns-in_err-checked_sub-clause-trees c = λ n ts laid.
    on_none _ _ c.from_residual.ensures (slice_get_past ts c.args.k (omega (arith, c.count.ensures n ts laid, c.in_err-checked_sub.ensures)))

pub returns-in_err-after-clause-trees : goal.returns-in_err-after-clause-trees
returns-in_err-after-clause-trees c = λ n ts laid.
    on_none _ _ c.from_residual-in_err-after.ensures (slice_get_past ts c.args.k (omega (arith, c.count.ensures n ts laid, c.in_ok-checked_sub.ensures, c.in_err-after.ensures)))

pub returns-in_err-up_to-clause-trees : goal.returns-in_err-up_to-clause-trees
returns-in_err-up_to-clause-trees c = λ n ts laid.
    absurd (omega (arith, c.in_err-up_to.ensures.trees n ts laid, c.count.ensures n ts laid, c.in_ok-checked_sub.ensures, c.in_ok-after.ensures))

pub returns-in_err-start-clause-trees : goal.returns-in_err-start-clause-trees
returns-in_err-start-clause-trees c = λ n ts laid.
    let (us, vs, all, count, cut) = c.in_ok-up_to.ensures.trees n ts laid in
    let none = c.in_err-start.ensures.trees n us (rw (sym cut) at (front_of n c.args.trees.now us vs (laid ∙ ap (flat_map syntax_records) all))) in
    absurd (omega (arith, count, ap length none, ap length all, length-append us vs, c.count.ensures n ts laid, c.in_ok-checked_sub.ensures, c.in_ok-after.ensures))

pub returns-clause-trees : goal.returns-clause-trees
returns-clause-trees c = λ n ts laid.
    let (us, vs, all, count, cut) = c.in_ok-up_to.ensures.trees n ts laid in
    let front = rw (sym cut) at (front_of n c.args.trees.now us vs (laid ∙ ap (flat_map syntax_records) all)) in
    let (ws, t, more, next) = c.in_ok-start.ensures.trees n us front in
    let number : length ws ≡ c.args.k = omega (arith, count, ap length all, length-append us vs, ap length more, length_push ws t, c.count.ensures n ts laid, c.in_ok-checked_sub.ensures, c.in_ok-after.ensures) in
    let (at, records) = found n c.args.trees.now c.in_ok-up_to.up_to.now c.in_ok-start.field-0.now ts us vs ws t c.args.k laid all more cut next number in
    (t, at, records)

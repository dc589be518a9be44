use Rattle.std.proofs.Common.{Ok, ap, ◌∙◌, arith}
use borrow.Author.Differences.{ints}
use Rattle.std.proofs.lemmas.Str.Pattern.{strip_prefix_char}
use Rattle.std.proofs.lemmas.Option.{MatchOption-at_some, MatchOption-at_none}
use Rattle.std.proofs.lemmas.Result.{err_from_is_err_and}
use Rattle.words.specs.Numbers.{negated, positive}
use Rattle.words.proofs.Values.{with_minus, without_minus}
use Rattle.words.proofs.numerals.integer.Goals as goal

pub returns-in_err-n-in-Some : goal.returns-in_err-n-in-Some
returns-in_err-n-in-Some c =
    let minus = MatchOption-at_some _ _ _ c.in-Some.is (strip_prefix_char 45 c.args.text.now _ c.strip_prefix.ensures.cases (omega arith)) in
    let p = err_from_is_err_and c.from_residual.result c.from_residual.ensures.1 in
    rw (p.1, p.2) (ap negated c.in_err-n-in-Some.ensures.value ∙ with_minus _ _ minus)

pub returns-in_err-number-in-None : goal.returns-in_err-number-in-None
returns-in_err-number-in-None c =
    let plain = MatchOption-at_none _ _ c.in-None.is (strip_prefix_char 45 c.args.text.now _ c.strip_prefix.ensures.cases (omega arith)) in
    let p = err_from_is_err_and c.from_residual-in_err-number-in-None.result c.from_residual-in_err-number-in-None.ensures.1 in
    rw (p.1, p.2) (ap positive c.in_err-number-in-None.ensures.value ∙ without_minus _ plain)

pub returns-in_ok-n-in-Some : goal.returns-in_ok-n-in-Some
returns-in_ok-n-in-Some c =
    let minus = MatchOption-at_some _ _ _ c.in-Some.is (strip_prefix_char 45 c.args.text.now _ c.strip_prefix.ensures.cases (omega arith)) in
    ap Ok (omega (arith, ints, c.in_ok-n-in-Some.ensures.bound)) ∙ ap negated c.in_ok-n-in-Some.ensures.value ∙ with_minus _ _ minus

pub returns-in_ok-number-in-None : goal.returns-in_ok-number-in-None
returns-in_ok-number-in-None c =
    let plain = MatchOption-at_none _ _ c.in-None.is (strip_prefix_char 45 c.args.text.now _ c.strip_prefix.ensures.cases (omega arith)) in
    ap Ok (omega (arith, ints, c.in_ok-number-in-None.ensures.bound)) ∙ ap positive c.in_ok-number-in-None.ensures.value ∙ without_minus _ plain

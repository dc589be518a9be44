use Rattle.std.proofs.Common.{rules, tests, not, refl, ap, ◌∙◌, arith}
use Rattle.std.proofs.lemmas.Bool.{both_ways}
use Rattle.tables.proofs.News.{New-any_name}
use Rattle.tables.proofs.Tables.is_good_term.Goals as goal

pub returns-then-any : goal.returns-then-any
returns-then-any c =
    let new = New-any_name (λ r. r.name) _ _ _ c.requires (rw c.as_slice.ensures.items at c.iter.ensures.rest) c.any.ensures.ran (λ x b q k. search (rules, tests)) in
    ((λ t. absurd (both_ways _ refl t)), (λ good. absurd (both_ways _ refl (rw c.if-any.true at (new.1 good.new)))))

pub returns : goal.returns
returns c =
    let new = New-any_name (λ r. r.name) _ _ _ c.requires (rw c.as_slice.ensures.items at c.iter.ensures.rest) c.any.ensures.ran (λ x b q k. search (rules, tests)) in
    let few = c.len.ensures ∙ c.args.term.now.arg_tys.ok.0 in (
      (λ t. record {
        named = c.if-not-has_record.ensures.0 refl;
        few = omega (arith, few);
        args = rw c.deref.ensures.value at (c.if-not-are_types.ensures.0 refl);
        ret = c.if-not-has_record-2.ensures.0 refl;
        new = new.0 (ap not c.if-any.false);
        template = c.has_good_template.ensures.0 t;
      }),
      (λ good. c.has_good_template.ensures.1 good.template),
    )

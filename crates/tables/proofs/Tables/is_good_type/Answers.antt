use Rattle.std.proofs.Common.{rules, tests, refl}
use Rattle.tables.proofs.News.{New-any_name}
use Rattle.tables.proofs.Tables.is_good_type.Goals as goal

pub returns : goal.returns
returns c =
    let new = New-any_name (λ r. r.name) _ _ _ c.requires (rw c.as_slice.ensures.items at c.iter.ensures.rest) c.any.ensures.ran (λ x b q k. search (rules, tests)) in
    ((λ t. record { builtin = c.if-not-is_builtin.ensures.0 refl; named = c.if-not-has_record.ensures.0 refl; new = new.0 t }), (λ good. new.1 good.new))

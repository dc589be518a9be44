use Rattle.std.proofs.Common.{sym}
use Rattle.words.proofs.Values.{not_numeral, read, too_large, far_too_large}
use Rattle.words.proofs.numerals.number.Goals as goal

pub returns-then-not-is_numeral-clause-value : goal.returns-then-not-is_numeral-clause-value
returns-then-not-is_numeral-clause-value c = not_numeral _ _ (sym c.if-not-is_numeral.ensures)

pub returns-in-Ok-clause-value : goal.returns-in-Ok-clause-value
returns-in-Ok-clause-value c = read _ _ _ c.parse.ensures.value.0 (sym c.if-not-is_numeral.ensures) _ c.in-Ok.is c.if-n-max.true

pub returns-in_default-clause-value : goal.returns-in_default-clause-value
returns-in_default-clause-value c = too_large _ _ _ c.parse.ensures.value.0 (sym c.if-not-is_numeral.ensures) _ c.in-Ok.is c.if-n-max.false

pub returns-in_default-2-clause-value : goal.returns-in_default-2-clause-value
returns-in_default-2-clause-value c = far_too_large _ _ _ c.parse.ensures.value.0 (sym c.if-not-is_numeral.ensures) _ c.in_default.is c.ranges.max.fits

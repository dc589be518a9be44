use Rattle.std.proofs.Common.{rules}
use Rattle.std.proofs.lemmas.List.{at_drop_more, at_drop_all}
use Rattle.case.specs.Kinds.{flags, flags_on}
use Rattle.case.proofs.kinds.TermFlagsFromWord.from_word.Goals as goal

pub returns-in_err-flags : goal.returns-in_err-flags
unfolding flags flags_on
returns-in_err-flags c = search (rules, at_drop_more (flags_on c.loop-letter.flags) c.as_bytes-letter-items.result.now c.loop-letter.letter-index)

pub loop-letter-preserved : goal.loop-letter-preserved
unfolding flags_on
loop-letter-preserved c = search (rules, at_drop_more (flags_on c.loop-letter.flags) c.as_bytes-letter-items.result.now c.loop-letter.letter-index)

pub returns : goal.returns
unfolding flags flags_on
returns c = search (rules, at_drop_all (flags_on c.loop-letter.flags) c.as_bytes-letter-items.result.now c.loop-letter.letter-index)

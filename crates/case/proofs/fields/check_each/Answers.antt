use Rattle.std.proofs.Common.{rules}
use Rattle.std.proofs.lemmas.List.{at_drop_more, at_drop_all}
use Rattle.case.specs.Fields.{each}
use Rattle.case.proofs.fields.check_each.Goals as goal

pub returns-in_err-from_word : goal.returns-in_err-from_word
unfolding each
returns-in_err-from_word g c = search (rules, at_drop_more (each g.T.FromWord.reading) c.args.words.now c.loop-word.word-index)

pub loop-word-preserved : goal.loop-word-preserved
unfolding each
loop-word-preserved g c = search (rules, at_drop_more (each g.T.FromWord.reading) c.args.words.now c.loop-word.word-index)

pub returns : goal.returns
unfolding each
returns g c = search (rules, at_drop_all (each g.T.FromWord.reading) c.args.words.now c.loop-word.word-index)

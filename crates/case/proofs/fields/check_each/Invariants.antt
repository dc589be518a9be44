use Rattle.std.proofs.Common.{◌≡◌, drop}
use Rattle.case.specs.Fields.{each}
use Rattle.case.proofs.fields.check_each.Given as goal

abbrev pub invariant-loop-word : goal.invariant-loop-word
invariant-loop-word g l = each g.T.FromWord.reading (drop l.word-index l.words) ≡ each g.T.FromWord.reading l.words

use Rattle.std.proofs.Common.{◌≡◌, drop}
use Rattle.case.specs.Kinds.{flags_on, no_flags}
use Rattle.case.proofs.kinds.TermFlagsFromWord.from_word.Given as goal

abbrev pub invariant-loop-letter : goal.invariant-loop-letter
invariant-loop-letter l = flags_on l.flags (drop l.letter-index l.letter-items) ≡ flags_on no_flags l.letter-items

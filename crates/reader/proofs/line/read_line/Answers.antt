use Rattle.std.proofs.Common.{refl, rules}
use Rattle.reader.specs.Lines.{something, misread, no_memory}
use Rattle.reader.proofs.line.read_line.Goals as goal

pub returns-in_err-words : goal.returns-in_err-words
returns-in_err-words c = no_memory (search rules) (search rules) c.in_err-words.field-0.0 (search rules)

pub returns-in_err-item : goal.returns-in_err-item
returns-in_err-item c = misread (search rules) (search rules) c.in_ok-words.words.items (search rules) c.in_err-item.field-0.0 (search rules) (search rules)

pub returns : goal.returns
returns c = something (search rules) (search rules) _ refl (search rules) (search rules) refl

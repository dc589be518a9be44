-- What a line says, by the word that it begins with.
use Rattle.std.specs.Prelude.{List, Ok, Result}
use Rattle.words.specs.declared.cutting.Word.{Word}
use Rattle.items.specs.declared.faults.Malformed.{Malformed}
use Rattle.items.specs.declared.items.Item.{Item}
use Rattle.items.specs.declared.items.Item.TheVariants as items
use Rattle.case.specs.declared.kinds.Keyword.{Keyword}
use Rattle.case.specs.declared.kinds.Keyword.TheVariants as key
use Rattle.case.specs.Fields.{bind, word, filled}
use Rattle.case.specs.Kinds.{keyword}
use Rattle.case.specs.Lines.{limit_line, expand_line, symbol_line, type_line, const_line, term_line, host_line, row_line, code_line, make_line, lit_line, sign_line, lone, part_at, run_line}
use Rattle.case.specs.Sources.{source_line}

abbrev pub line : List Word → Keyword → Result Item Malformed
line ws key.Limit = limit_line ws
line ws key.Expand = expand_line ws
line ws key.Symbol = symbol_line ws
line ws key.«Type» = type_line ws
line ws key.Const = const_line ws
line ws key.Term = term_line ws
line ws key.Source = source_line ws
line ws key.Host = host_line ws
line ws key.Row = row_line ws
line ws key.Code = code_line ws
line ws key.Make = make_line ws
line ws key.Lit = lit_line ws
line ws key.Sign = sign_line ws
line ws key.Open = lone items.Open ws
line ws key.Converter = bind (part_at ws) (λ p. Ok (items.Converter p))
line ws key.Close = lone items.Close ws
line ws key.Rule = bind (part_at ws) (λ p. Ok (items.Rule p))
line ws key.Finish = lone items.Finish ws
line ws key.Run = run_line ws
line ws key.Dump = lone items.Dump ws

-- no word is empty, and the first says what the line is
abbrev pub item : List Word → Result Item Malformed
item ws = bind (filled ws) (λ _. bind (keyword (word ws 0)) (λ k. line ws k))

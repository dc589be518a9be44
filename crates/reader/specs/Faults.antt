-- What is printed of a line that is not read or not performed.
use Rattle.std.specs.Prelude.{ℕ, ◌++◌, List, Option, codes, decimal}
use Rattle.std.specs.Option.{option_map}
use Rattle.items.specs.Faults.{malformed_text}
use Rattle.reader.specs.declared.faults.BadLine.{BadLine}
use Rattle.reader.specs.declared.faults.Unread.{Unread}
use Rattle.reader.specs.declared.faults.Unread.TheVariants as unread

abbrev pub unread_text : Unread → List ℕ
unread_text (unread.NoMemory e) = codes "no memory"
unread_text (unread.Malformed m) = malformed_text m

-- line N: WHY
abbrev pub bad_line_text : {E : Type 0} → (E → Option (List ℕ)) → BadLine E → Option (List ℕ)
bad_line_text text b = option_map (λ why. codes "line " ++ decimal b.line ++ codes ": " ++ why) (text b.why)

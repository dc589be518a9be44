-- What a fault of a number is in a case file, and what is printed of a malformed line.
use Rattle.std.specs.Prelude.{ℕ, List, codes}
use Rattle.words.specs.declared.numerals.NumberFault.{NumberFault}
use Rattle.words.specs.declared.numerals.NumberFault.TheVariants as fault
use Rattle.items.specs.declared.faults.Malformed.{Malformed}
use Rattle.items.specs.declared.faults.Malformed.TheVariants as malformed

abbrev pub number_fault : NumberFault → Malformed
number_fault fault.NotANumber = malformed.NotANumber
number_fault fault.DoesNotFit = malformed.DoesNotFit

abbrev pub malformed_text : Malformed → List ℕ
malformed_text malformed.Unprintable = codes "a character that is not printable ASCII"
malformed_text malformed.EmptyWord = codes "an empty word"
malformed_text malformed.UnknownLine = codes "no line begins so"
malformed_text malformed.UnknownWord = codes "an unknown tag, kind or flag"
malformed_text malformed.MissingWord = codes "a word is missing"
malformed_text malformed.SurplusWord = codes "a word too many"
malformed_text malformed.NotANumber = codes "not a number"
malformed_text malformed.DoesNotFit = codes "a number that does not fit"
malformed_text malformed.FarName = codes "a name beyond 32 bits"
malformed_text malformed.AfterCall = codes "an environment line behind the first call"
malformed_text malformed.NoHost = codes "no host here that takes this row"

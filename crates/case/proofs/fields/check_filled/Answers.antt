use Rattle.std.proofs.Common.{◌≡◌, length, ◌==◌, rules}
use borrow.Author.Tests.{tests}
use Rattle.std.specs.List.{list_any}
use Rattle.std.proofs.lemmas.Iterator.{YieldsList-from_slice}
use Rattle.std.proofs.lemmas.Iterator.Search.{any_from_yields_List}
use Rattle.words.specs.declared.cutting.Word.{Word}
use Rattle.case.specs.Fields.{filled}
use Rattle.case.proofs.fields.check_filled.Goals as goal

pub returns : goal.returns
unfolding filled
returns c =
    let some : c.any.result ≡ list_any (λ (w : Word). length w.text.now == 0) c.args.words.now = any_from_yields_List (λ w. length w.text.now == 0) _ _ c.any.result c.any.ensures.ran (YieldsList-from_slice c.args.words.now cc) (λ x b q k. search (rules, tests)) in
    search rules

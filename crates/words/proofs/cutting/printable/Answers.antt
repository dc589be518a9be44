use Rattle.std.proofs.Common.{◌≡◌, ℕ, List, Ok, Err, Result, Bor, MatchOption, rules}
use Rattle.std.specs.Result.{MatchResult, result_ok}
use Rattle.std.specs.Str.{IsUtf8}
use Rattle.std.proofs.lemmas.Str.{IsUtf8-from_ascii}
use Rattle.words.specs.Cut.{Printable}
use Rattle.words.proofs.Cuts.{ascii}
use Rattle.words.proofs.cutting.printable.Goals as goal

-- printable bytes are text
shown : {E : Type 0} (Q : E → Type 0) (line : List ℕ) (r : Result (Bor (List ℕ)) E) → Printable line → MatchResult r (λ s. (s.now ≡ line) × IsUtf8 line) (λ e. (IsUtf8 line → ⊥) × Q e) → MatchOption (result_ok r) (Printable line → ⊥) (λ s. Printable line × (s.now ≡ line))
shown Q line (Ok s) p h = (p, h.0)
shown Q line (Err e) p h = absurd (h.0 (IsUtf8-from_ascii _ (ascii _ p)))

pub returns : goal.returns
returns c =
    let p : Printable c.args.line.now = search rules in
    rw c.ok.ensures.value (shown _ c.args.line.now c.from_utf8.result p c.from_utf8.ensures.cases)

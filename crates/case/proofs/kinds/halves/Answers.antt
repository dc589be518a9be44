use Rattle.std.proofs.Common.{◌≡◌, ℕ, ◌<◌, true, false, List, length, Some, None, Option, Bor, MatchOption, ap, ◌∙◌, arith}
use Rattle.std.specs.List.{list_any, position_or_len, before_first, after_first}
use Rattle.std.specs.Option.{ok_or}
use Rattle.std.proofs.lemmas.List.Folds.{list_any_none, list_any_at}
use Rattle.std.proofs.lemmas.List.Sums.{fails_before_first, passes_at_first}
use Rattle.std.proofs.lemmas.Str.Pattern.{split_once_first}
use Rattle.items.specs.declared.faults.Malformed.TheVariants.{UnknownWord}
use Rattle.case.specs.Kinds.{is_colon, at_colon, parts_seen}
use Rattle.case.proofs.kinds.halves.Goals as goal

none_is : (t : List ℕ) → position_or_len is_colon t ≡ length t → list_any is_colon t ≡ false
none_is t e = list_any_none is_colon t (λ k d h. fails_before_first is_colon t k d (omega arith))

some_is : (t : List ℕ) → position_or_len is_colon t < length t → list_any is_colon t ≡ true
some_is t lt = list_any_at is_colon t _ 0 lt (passes_at_first is_colon t 0 lt)

cut : (t : List ℕ) (halves : Option (Bor (List ℕ) × Bor (List ℕ))) → MatchOption halves (position_or_len is_colon t ≡ length t) (λ p. (position_or_len is_colon t < length t) × (p.0.now ≡ before_first is_colon t) × (p.1.now ≡ after_first is_colon t)) → parts_seen (ok_or halves UnknownWord) ≡ at_colon t
unfolding at_colon
cut t None none = rw (none_is t none)
cut t (Some p) here = rw (some_is t here.0, here.1, here.2)

pub returns : goal.returns
returns c = ap parts_seen c.ok_or.ensures.value ∙ cut _ _ (split_once_first 58 c.args.text.now c.split_once.result c.split_once.ensures.cases (omega arith))

use Rattle.std.proofs.Common.{◌≡◌, [], ◌∷◌, ◌++◌, ◌+◌, List, map, length, is_ok, ap, ◌∙◌, arith, rules}
use Rattle.std.proofs.ResultArms.{chosen}
use Rattle.std.proofs.lemmas.List.{map_push, length_push}
use Rattle.std.proofs.lemmas.Iterator.Splits.{YieldsList-from_str_split}
use Rattle.std.proofs.lemmas.Iterator.Consumers.{YieldsList-turn, YieldsList-end}
use Rattle.words.specs.Cut.{cut, seen}
use Rattle.words.specs.declared.cutting.Word.{Word}
use Rattle.words.proofs.Cuts.{pieces, whole, one_more, less_room, none_left}
use Rattle.words.proofs.cutting.words.Goals as goal

pub loop-text-init : goal.loop-text-init
loop-text-init c = record { room_left = omega (arith, whole c.args.line.now); all_placed = search rules }

pub overflow_add-start-in-loop-text : goal.overflow_add-start-in-loop-text
overflow_add-start-in-loop-text c =
    let turn = YieldsList-turn (YieldsList-from_str_split 32 c.args.line.now (omega arith) (cc) (cc) (cc)) c.loop-text.yielded _ c.loop-text.yielded_by _ _ c.in-Some.text c.in-Some.is c.next.ensures.steps in
    omega (arith, less_room _ _ _ turn, c.loop-text.invariant.room_left)

pub loop-text-preserved : goal.loop-text-preserved
loop-text-preserved c =
    let turn = YieldsList-turn (YieldsList-from_str_split 32 c.args.line.now (omega arith) (cc) (cc) (cc)) c.loop-text.yielded _ c.loop-text.yielded_by _ _ c.in-Some.text c.in-Some.is c.next.ensures.steps in
    let pushed = chosen {X = List Word} _ _ _ _ c.push.ensures.items (ap is_ok c.in_ok-push.was) in
    let next : length (c.loop-text.yielded ++ c.in-Some.text ∷ []) ≡ length c.loop-text.yielded + 1 = length_push c.loop-text.yielded c.in-Some.text in
    rw next (record {
      room_left = omega (arith, less_room _ _ _ turn, c.loop-text.invariant.room_left);
      all_placed = one_more _ _ _ _ _ _ _ (ap (map seen) pushed ∙ map_push seen _ _) turn c.loop-text.invariant.all_placed;
    })

pub returns : goal.returns
unfolding cut
returns c =
    let all = YieldsList-end (YieldsList-from_str_split 32 c.args.line.now (omega arith) (cc) (cc) (cc)) c.loop-text.yielded _ c.loop-text.yielded_by _ _ c.in-None.is c.next.ensures.steps in
    none_left _ _ (length c.loop-text.yielded) (pieces c.args.line.now) _ (omega (arith, all.1)) c.loop-text.invariant.all_placed

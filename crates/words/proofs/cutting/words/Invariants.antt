use Rattle.std.proofs.Common.{◌≡◌, ◌+◌, ◌++◌, map, length, drop, vec_items}
use Rattle.words.specs.Cut.{placed, seen}
use Rattle.words.proofs.Cuts.{pieces, room}
use Rattle.words.proofs.cutting.words.Given as goal

abbrev pub invariant-loop-text : goal.invariant-loop-text
invariant-loop-text l =
    record {
      room_left : l.start + room (drop (length l.yielded) (pieces l.line)) ≡ length l.line + 1;
      all_placed : map seen (vec_items l.words) ++ placed l.start (drop (length l.yielded) (pieces l.line)) ≡ placed 0 (pieces l.line);
    }

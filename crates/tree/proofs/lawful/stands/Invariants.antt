use Rattle.std.proofs.Common.{◌+◌, ◌-◌, ◌≤◌, ◌↔◌, [], ◌∷◌, ◌++◌, length, take}
use Rattle.tree.specs.Layout.{IsForest}
use Rattle.tree.proofs.Walks.{MayStand}
use Rattle.tree.proofs.lawful.stands.Given as goal

abbrev pub invariant-loop-child : goal.invariant-loop-child
invariant-loop-child g l =
    let R = g.G.Grammar.rules l.grammar in
    let front = take (length l.trees - l.below) l.trees in
    record {
      few : l.after + length l.rest ≤ length l.trees;
      laid : IsForest R (front ++ l.rest);
      same : IsForest R (l.trees ++ l.root ∷ []) ↔ (IsForest R front × MayStand R l.root l.after l.rest);
    }

abbrev pub decreases-loop-child : goal.decreases-loop-child
decreases-loop-child g l = length l.rest

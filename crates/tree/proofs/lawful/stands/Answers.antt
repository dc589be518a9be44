use Rattle.std.proofs.Common.{◌-◌, length, take, drop, arith}
use Rattle.std.proofs.lemmas.List.{take_rest, take-append-drop, length-drop, length-take, append-nil, nil_from_length}
use Rattle.tree.specs.Layout.{none}
use Rattle.tree.proofs.Walks.{size_fits, root_iff, nothing_below, last_below, one_more}
use Rattle.tree.proofs.lawful.stands.Goals as goal

pub returns-in_default : goal.returns-in_default
returns-in_default g c = grind (arith, size_fits (g.G.Grammar.rules c.args.grammar.now) c.args.root.now c.args.trees.now)

pub returns-then-below-trees : goal.returns-then-below-trees
returns-then-below-trees g c = grind (arith, size_fits (g.G.Grammar.rules c.args.grammar.now) c.args.root.now c.args.trees.now)

pub loop-child-init : goal.loop-child-init
loop-child-init g c =
    let R = g.G.Grammar.rules c.args.grammar.now in
    let xs = c.args.trees.now in
    let k = length xs - c.in-Some.below in
    let there = take-append-drop k xs in
    let iff = root_iff R c.args.root.now (take k xs) (drop k xs) (omega (arith, c.in-Some.ensures, length-drop k xs)) in
    rw take_rest (record { few = omega (arith, length-drop k xs); laid = rw there c.requires; same = rw there at iff })

pub returns-then-width-rest : goal.returns-then-width-rest
returns-then-width-rest g c =
    let R = g.G.Grammar.rules c.args.grammar.now in
    let last = c.in-Some-last.ensures.item in
    grind (arith, last_below R c.args.root.now c.loop-child.rest.now last.3.0 c.in-Some-last.child.now last.1 c.loop-child.after)

pub loop-child-smaller : goal.loop-child-smaller
loop-child-smaller g c =
    let rest = c.loop-child.rest.now in
    let last = c.in-Some-last.ensures.item in
    let more = one_more (g.G.Grammar.rules c.args.grammar.now) c.args.root.now rest last.3.0 c.in-Some-last.child.now last.1 _ c.loop-child.invariant.laid (omega (arith, c.size-width.ensures)) in
    omega (arith, more.0, c.size-width.ensures, length-take (length rest - c.size-width.result) rest)

pub loop-child-preserved : goal.loop-child-preserved
loop-child-preserved g c =
    let R = g.G.Grammar.rules c.args.grammar.now in
    let root = c.args.root.now in
    let rest = c.loop-child.rest.now in
    let child = c.in-Some-last.child.now in
    let last = c.in-Some-last.ensures.item in
    let (some, laid, back) = one_more R root rest last.3.0 child last.1 _ c.loop-child.invariant.laid (omega (arith, c.size-width.ensures)) in
    rw c.size-width.ensures (record {
      few = omega (arith, some, length-take (length rest - R.size child) rest);
      laid = laid;
      same = grind (arith, back, last_below R root rest last.3.0 child last.1 c.loop-child.after);
    })

pub returns : goal.returns
returns g c =
    let laid = c.loop-child.invariant.laid in
    let same = c.loop-child.invariant.same in
    let bare = nil_from_length c.loop-child.rest.now (omega (arith, c.in_default-last.ensures)) in
    rw c.counts.ensures (
      (λ t. same.1 (rw (bare, append-nil) at laid, (none, bare, tt, t))),
      (λ f. nothing_below (g.G.Grammar.rules c.args.grammar.now) c.args.root.now c.loop-child.after (rw bare at (same.0 f).1)),
    )

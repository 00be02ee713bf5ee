use mathlib.Core.Path.{◌≡◌, sym, ap, subst, ◌∙◌}
use mathlib.Core.Bool.{not}
use Prim.Native.Nat.{◌+◌, ◌-◌}
use native.Mathlib.Omega.{arith}
use Rattle.voice.specs.Voice.{voice_of}
use Rattle.units.specs.Asked.{Numbered}
use Rattle.units.proofs.WalkLaws.{walking-number}
use Rattle.pairs.proofs.PairLaws.{found_first, found_none, found-missing, found-next, found-empty}
use Rattle.pairs.proofs.all_found.Goals as goal

pub returns-then-count-eq0 : goal.returns-then-count-eq0
returns-then-count-eq0 c = sym (found-empty (voice_of c.args.file.now) c.args.by.fold c.args.sheet.now c.args.by.places c.requires.1 c.if-count-eq0.true)

pub sample-sampled-requires : goal.sample-sampled-requires
sample-sampled-requires c = (c.requires.1, omega arith)

pub first_pair-walk-requires : goal.first_pair-walk-requires
first_pair-walk-requires c = (c.requires.1, omega arith)

pub loop-number-init : goal.loop-number-init
loop-number-init c =
    let p = c.first_pair-walk.ensures in
    (p.0.0, (found_first _ _ _ _ c.first_pair-walk.result p.1, p.0.1))

pub next_pair-walk-requires : goal.next_pair-walk-requires
next_pair-walk-requires c = (c.loop-number.invariant.0, omega (arith, c.loop-number.invariant.1.1))

pub find_tried-tried-requires : goal.find_tried-tried-requires
find_tried-tried-requires c =
    let n = c.next_pair-walk.ensures.0 in
    let i = c.loop-number.invariant in
    let count = c.args.by.places.segments.count in
    let e : count - c.next_pair-walk.result.remaining ≡ c.loop-number.number + 1 = omega (arith, n.1, i.1.1) in
    let k = subst (Numbered c.args.sheet.now c.next_pair-walk.result.left) e (walking-number _ _ c.next_pair-walk.result n.0) in
    (c.requires.0, (c.requires.1, (c.sample-sampled.ensures, (i.0.reached.named, (n.0.reached.named, k)))))

pub returns-then-is_none : goal.returns-then-is_none
returns-then-is_none c =
    let a = c.args in
    let i = c.loop-number.invariant in
    sym (i.1.0 ∙ found-missing (voice_of a.file.now) a.by.fold a.sheet.now _ c.loop-number.walk c.next_pair-walk.result c.next_pair-walk.ensures.1 _ c.find_tried-tried.ensures (c.is_none.ensures ∙ ap not c.if-is_none.true))

pub loop-number-preserved : goal.loop-number-preserved
loop-number-preserved c =
    let a = c.args in
    let i = c.loop-number.invariant in
    let n = c.next_pair-walk.ensures in
    (n.0.0, (i.1.0 ∙ found-next (voice_of a.file.now) a.by.fold a.sheet.now _ c.loop-number.walk c.next_pair-walk.result n.1 _ c.find_tried-tried.ensures (c.is_none.ensures ∙ ap not c.if-is_none.false), omega (arith, n.0.1, i.1.1)))

pub returns : goal.returns
returns c =
    let a = c.args in
    let i = c.loop-number.invariant in
    sym (i.1.0 ∙ found_none (voice_of a.file.now) a.by.fold a.sheet.now _ c.loop-number.walk (omega (arith, i.1.1)))

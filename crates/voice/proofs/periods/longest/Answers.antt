use native.Mathlib.Omega.{arith}
use mathlib.Core.Path.{◌≡◌, refl, sym, ap, ◌∙◌}
use native.Mathlib.Numerals.{add-one}
use Rattle.voice.specs.Voice.{voice_of}
use Rattle.voice.specs.Periods.{longest}
use Rattle.voice.proofs.periods.longest.Goals as goal

pub next_longer-p-requires : goal.next_longer-p-requires
unfolding longest
next_longer-p-requires c = (c.requires, (omega arith, refl))

pub loop-p-init : goal.loop-p-init
loop-p-init c = (c.next_longer-p.ensures.1.1, (c.next_longer-p.ensures.0, omega arith))

pub gap-requires : goal.gap-requires
gap-requires c = (c.requires, c.loop-p-test.true)

pub next_longer-p-requires-in-loop-p : goal.next_longer-p-requires-in-loop-p
unfolding longest
next_longer-p-requires-in-loop-p c =
    let l = c.loop-p in
    let m = c.max-most.ensures in
    (c.requires, (omega arith, rw (add-one l.p) (m ∙ rw (c.gap.ensures.0, sym l.invariant.1.0))))

pub loop-p-smaller : goal.loop-p-smaller
loop-p-smaller c = let e = c.next_longer-p-in-loop-p.ensures.1.0 in omega arith

pub loop-p-preserved : goal.loop-p-preserved
loop-p-preserved c =
    let m = c.max-most.ensures in
    let g = c.gap.ensures.1 in
    let i = c.loop-p.invariant.1.1 in
    (c.next_longer-p-in-loop-p.ensures.1.1, (c.next_longer-p-in-loop-p.ensures.0, omega (arith, m, g, i)))

pub returns : goal.returns
returns c =
    let l = c.loop-p in
    let e : l.p ≡ c.args.d.header.frames = omega arith in
    (sym l.invariant.1.0 ∙ ap (longest (voice_of c.args.file.now)) e, l.invariant.1.1)

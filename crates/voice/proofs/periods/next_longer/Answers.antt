use native.Mathlib.Omega.{arith}
use mathlib.Core.Path.{◌≡◌, sym, ap, ◌∙◌}
use native.Mathlib.Numerals.{add-one}
use Rattle.voice.specs.Voice.{voice_of}
use Rattle.voice.specs.Periods.{offset, longest}
use Rattle.voice.proofs.PeriodLaws.{longest-stays}
use Rattle.voice.proofs.OpenLaws.{offset-rises}
use Rattle.voice.proofs.periods.next_longer.Goals as goal

pub offset-begin-requires : goal.offset-begin-requires
offset-begin-requires c = (c.requires.0, c.requires.1.0)

pub loop-p-init : goal.loop-p-init
loop-p-init c = (c.offset-begin.ensures.0, sym c.requires.1.1)

pub offset-end-requires : goal.offset-end-requires
offset-end-requires c = (c.requires.0, omega arith)

pub overflow_sub-end : goal.overflow_sub-end
overflow_sub-end c =
    let l = c.loop-p in
    let e = c.offset-end.ensures.0 ∙ ap (offset (voice_of c.args.file.now)) (add-one l.p) in
    let r = offset-rises c.args.file.now c.args.d c.requires.0 l.p c.loop-p-test.true in
    omega (arith, e, r, l.invariant.0)

pub returns-then-most-end : goal.returns-then-most-end
returns-then-most-end c = (c.loop-p.invariant.1, (omega arith, omega arith))

pub loop-p-preserved : goal.loop-p-preserved
loop-p-preserved c =
    let v = voice_of c.args.file.now in
    let l = c.loop-p in
    let e = c.offset-end.ensures.0 ∙ ap (offset v) (add-one l.p) in
    let n = longest-stays v l.p c.args.most l.invariant.1 (omega (arith, e, l.invariant.0, c.if-most-end.false)) in
    (c.offset-end.ensures.0, rw (add-one l.p) n)

pub returns : goal.returns
returns c =
    let e : c.loop-p.p ≡ c.args.d.header.frames = omega arith in
    (ap (longest (voice_of c.args.file.now)) (sym e) ∙ c.loop-p.invariant.1, (omega arith, omega arith))

use Rattle.std.proofs.Common.{◌≡◌, ◌+◌, ◌-◌, sym, refl, ◌∙◌, arith}
use Rattle.voice.specs.Voice.{voice_of}
use Rattle.voice.specs.Periods.{samples_of}
use Rattle.marks.proofs.UnitLaws.{unit-none, unit-full, unit-past, unit-more}
use Rattle.marks.proofs.natural.check_unit_marks.Goals as goal

pub loop-p-init : goal.loop-p-init
loop-p-init c = (refl, c.requires.2)

pub returns-then-allowed-eq0 : goal.returns-then-allowed-eq0
returns-then-allowed-eq0 c = let l = c.loop-p in (sym (unit-full _ _ _ _ _ (omega arith) c.if-allowed-eq0.true) ∙ l.invariant.0, tt)

pub period_samples-end-requires : goal.period_samples-end-requires
period_samples-end-requires c = (c.requires.0, omega arith)

pub returns-then-end-gt-LIMIT : goal.returns-then-end-gt-LIMIT
returns-then-end-gt-LIMIT c = let l = c.loop-p in
    let e = c.period_samples-end.ensures.0 in
    (sym (unit-past _ _ _ _ _ (omega arith) (omega arith) (omega arith)) ∙ l.invariant.0, tt)

pub loop-p-preserved : goal.loop-p-preserved
loop-p-preserved c = let file = c.args.file.now in
    let s = c.period_samples-end in
    let e : s.result ≡ samples_of (voice_of file) c.loop-p.p = s.ensures.0 in
    let n : c.args.last - c.loop-p.p - 1 ≡ c.args.last - (c.loop-p.p + 1) = omega arith in
    let m = unit-more (voice_of file) c.loop-p.end c.loop-p.p (c.args.last - c.loop-p.p) c.loop-p.allowed (omega arith) (omega arith) (omega arith) in
    (rw (e, ← n) (sym m ∙ c.loop-p.invariant.0), omega arith)

pub returns : goal.returns
returns c = let l = c.loop-p in (sym (unit-none _ _ _ _ _ (omega arith)) ∙ l.invariant.0, l.invariant.1)

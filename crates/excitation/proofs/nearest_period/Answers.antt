use Rattle.voice.proofs.OpenLaws.{frames-some}
use native.Mathlib.Omega.{arith}
use mathlib.Core.Path.{◌≡◌, refl, sym, ap, ◌∙◌}
use Prim.Native.Nat.{◌+◌, ◌-◌}
use lib.Ieee.{Float, binary32, add, of_bits}
use Rattle.float.specs.Distance.{nearer}
use Rattle.voice.specs.Voice.{voice_of}
use Rattle.excitation.specs.Nearest.{f32_of, nearest_from, nearest_period}
use Rattle.excitation.proofs.WindowLaws.{nearest-here, nearest-next, nearest-last}
use Rattle.excitation.proofs.nearest_period.Goals as goal

pub loop-p-init : goal.loop-p-init
loop-p-init c = (c.requires.1.0, refl)

pub period_samples-requires : goal.period_samples-requires
period_samples-requires c = (c.requires.0, omega (arith, c.requires.1.1))

pub overflow_cast-period_samples : goal.overflow_cast-period_samples
overflow_cast-period_samples c = let h = c.period_samples.ensures.1 in omega (arith, h)

pub returns-then-is_nearer : goal.returns-then-is_nearer
unfolding nearest_period of_bits
returns-then-is_nearer c =
    let l = c.loop-p in
    let v = voice_of c.args.file.now in
    let e = c.u32_to_f32.ensures ∙ ap f32_of c.period_samples.ensures.0 in
    let q = sym (c.is_nearer.ensures ∙ ap (λ (x : Float). nearer c.args.place c.loop-p.start (add binary32 c.loop-p.start x)) e) ∙ c.if-is_nearer.true in
    (sym (nearest-here v c.args.place l.start l.p c.args.unit.last_period c.loop-p-test.true q) ∙ l.invariant.1, omega (arith, c.requires.1.1))

pub loop-p-preserved : goal.loop-p-preserved
loop-p-preserved c =
    let l = c.loop-p in
    let v = voice_of c.args.file.now in
    let last = c.args.unit.last_period in
    let e = c.u32_to_f32.ensures ∙ ap f32_of c.period_samples.ensures.0 in
    let q = sym (c.is_nearer.ensures ∙ ap (λ (x : Float). nearer c.args.place c.loop-p.start (add binary32 c.loop-p.start x)) e) ∙ c.if-is_nearer.false in
    (omega arith, ap (λ (x : Float). nearest_from v c.args.place (add binary32 l.start x) (l.p + 1) (last - (l.p + 1))) e ∙ nearest-next v c.args.place l.start l.p last c.loop-p-test.true q ∙ l.invariant.1)

pub returns : goal.returns
unfolding nearest_period of_bits
returns c =
    let l = c.loop-p in
    let a = c.args in
    let v = voice_of a.file.now in
    let some = frames-some a.file.now a.d c.requires.0 in
    let same : c.saturating_sub.result ≡ l.p - 1 = omega (arith, c.saturating_sub.ensures, c.loop-p-test.false, l.invariant.0) in
    let found = sym (nearest-last v a.place l.start l.p a.unit.last_period c.loop-p-test.false) ∙ l.invariant.1 in
    (same ∙ found, omega (arith, c.saturating_sub.ensures, c.requires.1.1, some))

use native.Mathlib.Omega.{arith}
use mathlib.Core.Path.{◌≡◌, sym, ap, subst, ◌∙◌}
use Prim.Native.Nat.{ℕ, ◌+◌, ◌-◌, ◌*◌, ◌≤◌}
use Rattle.voice.specs.Voice.{voice_of}
use Rattle.voice.specs.Periods.{samples_of, samples_from}
use Rattle.excitation.proofs.WindowLaws.{samples-more, swapped}
use Rattle.excitation.proofs.samples_from.Goals as goal

pub loop-p-init : goal.loop-p-init
unfolding samples_from
loop-p-init c =
    let e : c.args.to - c.args.to ≡ 0 = omega arith in
    (c.requires.1.0, (omega arith, (rw e, omega arith)))

pub period_samples-sum-requires : goal.period_samples-sum-requires
period_samples-sum-requires c = (c.requires.0, omega (arith, c.requires.1.1.0))

pub overflow_add-sum : goal.overflow_add-sum
overflow_add-sum c = let h = c.period_samples-sum.ensures.1 in omega (arith, h, c.requires.1.1.1)

pub loop-p-preserved : goal.loop-p-preserved
loop-p-preserved c =
    let l = c.loop-p in
    let v = voice_of c.args.file.now in
    let to = c.args.to in
    let k : l.p - 1 + 1 ≡ l.p = omega arith in
    let m : l.sum + c.period_samples-sum.result ≡ samples_from v (l.p - 1) (to - (l.p - 1)) =
    ap (λ (x : ℕ). l.sum + x) c.period_samples-sum.ensures.0
    ∙ swapped l.sum (samples_of v (l.p - 1))
    ∙ ap (λ (x : ℕ). samples_of v (l.p - 1) + x) (l.invariant.1.1.0 ∙ ap (λ (n : ℕ). samples_from v n (to - n)) (sym k))
    ∙ samples-more v (l.p - 1) to (omega arith) in
    (omega arith, (omega arith, (m, omega (arith, c.period_samples-sum.ensures.1))))

pub returns : goal.returns
returns c =
    let l = c.loop-p in
    let e : l.p ≡ c.args.from = omega arith in
    let v = voice_of c.args.file.now in
    (l.invariant.1.1.0 ∙ ap (λ (n : ℕ). samples_from v n (c.args.to - n)) e, subst (λ (n : ℕ). l.sum ≤ 16777215 * (c.args.to - n)) e l.invariant.1.1.1)

use Prim.Native.Nat.{◌-◌, ◌*◌}
use Rattle.base.specs.Buffers.{flat}
use Rattle.base.specs.Bytes.{bytes_of}
use Rattle.marks.specs.NaturalMarks.{marks_of_periods}
use mathlib.Core.Path.{sym, ap, subst, ◌∙◌}
use native.Mathlib.Omega.{arith}
use mathlib.Core.List.{[]}
use Prim.Native.Nat.{ℕ, ◌≤◌}
use lib.ListN.{length}
use lib.Seq.{length-sets}
use Rattle.voice.specs.Voice.{voice_of}
use Rattle.marks.specs.Checking.{LowPlace}
use Rattle.marks.proofs.JoinLaws.{natural-passed}
use Rattle.probe_call.proofs.store_natural.Goals as goal

pub store_unit_marks-requires : goal.store_unit_marks-requires
store_unit_marks-requires c =
    let e = natural-passed (voice_of c.args.file.now) c.args.place c.args.left c.args.unit [] _ _ (sym c.check_unit_marks.ensures.0 ∙ c.in_ok-end.was) in
    let low = subst LowPlace c.in_ok-end.was c.check_unit_marks.ensures.1 in
    record { opens = c.requires.0; within = c.requires.1.0.within; low = subst (λ (n : ℕ). n ≤ 16777215) e.next low; room = omega (arith, c.if-marks-index.false, c.requires.1.1.1) }

pub returns : goal.returns
returns c =
    let e = natural-passed (voice_of c.args.file.now) c.args.place c.args.left c.args.unit [] _ _ (sym c.check_unit_marks.ensures.0 ∙ c.in_ok-end.was) in
    let low = subst LowPlace c.in_ok-end.was c.check_unit_marks.ensures.1 in
    let u = c.args.unit in
    let vs = flat (bytes_of 4) (marks_of_periods (voice_of c.args.file.now) c.args.place u.first_period (u.last_period - u.first_period)) in
    (ap length c.store_unit_marks.ensures.1 ∙ length-sets c.args.marks.now (4 * (65536 - c.args.left)) vs, (low, omega (arith, e.counted)))

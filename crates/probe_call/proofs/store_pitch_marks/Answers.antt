use Rattle.marks.specs.Checking.{Bounded}
use mathlib.Core.Path.{sym, subst, ◌∙◌}
use native.Mathlib.Omega.{arith}
use Rattle.sheet.specs.Sheet.{sheet_of}
use Rattle.marks.specs.PitchMarks.{pitch_marks}
use Rattle.marks.proofs.CheckLaws.{checked-made}
use Rattle.probe_call.proofs.store_pitch_marks.Goals as goal

pub store_marks-requires : goal.store_marks-requires
store_marks-requires c =
    let m = pitch_marks c.args.rate (sheet_of c.args.sheet.now).targets in
    let e = checked-made 16777215 m _ (sym c.check_marks.ensures.0 ∙ c.in-Ok.is) in
    record { places = c.requires; spoken = e.0; room = omega (arith, c.if-marks-count.false) }

pub overflow_cast-result : goal.overflow_cast-result
overflow_cast-result c =
    let few = (subst Bounded c.in-Ok.is c.check_marks.ensures.1).0 in
    omega (arith, few)

pub overflow_mul-result : goal.overflow_mul-result
overflow_mul-result c =
    let few = (subst Bounded c.in-Ok.is c.check_marks.ensures.1).0 in
    omega (arith, few)

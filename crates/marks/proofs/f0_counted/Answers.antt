use Rattle.std.proofs.Common.{◌≡◌, refl, ◌∙◌}
use lib.Ieee.{Float}
use Rattle.sheet.specs.declared.Value.{Value}
use Rattle.sheet.specs.declared.Value.TheVariants.{Int, Float as FloatValue, Absent}
use Rattle.sheet.specs.Sheet.{as_f32}
use Rattle.marks.specs.PitchMarks.{f0_counted}
use Rattle.marks.proofs.f0_counted.Goals as goal

-- a value that is not absent is written
written : (last : Float) (v : Value) → (v ≡ Absent → ⊥) → as_f32 v ≡ f0_counted last v
unfolding f0_counted
written last (Int i) h = refl
written last (FloatValue x) h = refl
written last Absent h = absurd (h refl)

pub returns-in-Absent : goal.returns-in-Absent
unfolding f0_counted
returns-in-Absent c = rw c.in-Absent.is

pub returns-in_default : goal.returns-in_default
returns-in_default c = c.f32_to_f64_with_nan.ensures ∙ c.as_f32.ensures ∙ written _ _ c.in_default.not-Absent

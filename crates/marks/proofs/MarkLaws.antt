-- The marks of a call head those of a longer one, and are those of a voice with the same periods.
use Rattle.std.specs.Prelude.{None, Option, Some}
use Rattle.std.proofs.Common.{◌≡◌, ℕ, zero, suc, ◌+◌, ◌≤◌, List, [], ◌∷◌, ◌++◌, refl, ap, arith}
use lib.Ieee.{Float}
use Rattle.base.specs.Lists.{Heads}
use Rattle.base.proofs.ListLaws.{heads-nil, heads-after, heads-cons}
use Rattle.refusal.specs.declared.Refusal.{Refusal}
use Rattle.voice.specs.Voice.{Voice}
use Rattle.voice.specs.Periods.{samples_of}
use Rattle.voice.proofs.PeriodLaws.{Agree, samples_from-same}
use Rattle.sheet.specs.declared.Target.{Target}
use Rattle.units.specs.declared.Unit.{Unit}
use Rattle.units.proofs.UnitLaws.{Within, nil, cons}
use Rattle.marks.specs.PitchMarks.{position_counted, f0_counted, Made, Stage, climb_to, stage_after, then_marks, marks_from, pitch_marks, first_stage}
use Rattle.marks.specs.NaturalMarks.{period_count, marks_of_periods, place_after_unit, natural_marks, natural_units}

-- ---- the modified join: more targets

then-heads : (r : Option Refusal) (ms : List ℕ) (m n : Made) → (then_marks r ms m).refusal ≡ None → (m.refusal ≡ None → Heads m.marks n.marks)
    → Heads (then_marks r ms m).marks (then_marks r ms n).marks
then-heads None ms m n e h = heads-after ms (h e)
then-heads (Some r) ms m n e h = let z : ◌≡◌ {A = ℕ} 0 1 = cc in absurd (omega arith)

from-append : (rate : Float) (s : Stage) (ts us : List Target) → (marks_from rate s ts).refusal ≡ None → Heads (marks_from rate s ts).marks (marks_from rate s (ts ++ us)).marks
unfolding marks_from
from-append rate s [] us e = heads-nil _
from-append rate s (t ∷ ts) us e =
    let position = position_counted t in
    let f0 = f0_counted s.f0 t.f0 in
    let c = climb_to rate s position f0 in
    let s₁ = stage_after c position f0 in
    then-heads c.refusal c.marks (marks_from rate s₁ ts) (marks_from rate s₁ (ts ++ us)) e (from-append rate s₁ ts us)

pub marks-append : (rate : ℕ) (ts us : List Target) → (pitch_marks rate ts).refusal ≡ None → Heads (pitch_marks rate ts).marks (pitch_marks rate (ts ++ us)).marks
unfolding pitch_marks
marks-append rate ts us e = from-append _ first_stage ts us e

-- ---- the simple join: more units

pub units-append : (v : Voice) (place : ℕ) (us vs : List Unit) → Heads (natural_units v place us) (natural_units v place (us ++ vs))
unfolding natural_units
units-append v place [] vs = heads-nil _
units-append v place (u ∷ us) vs = heads-cons _ (units-append v (place_after_unit v place u) us vs)

pub natural-append : (v : Voice) (place : ℕ) (us vs : List Unit) → Heads (natural_marks v place us) (natural_marks v place (us ++ vs))
unfolding natural_marks
natural-append v place [] vs = heads-nil _
natural-append v place (u ∷ us) vs = heads-after (marks_of_periods v place u.first_period (period_count u)) (natural-append v (place_after_unit v place u) us vs)

-- ---- another voice with the same periods

module _ (v w : Voice) (n : ℕ) (g : Agree v w n) where
  periods-same : (place p k : ℕ) → p + k ≤ n → marks_of_periods w place p k ≡ marks_of_periods v place p k
  unfolding marks_of_periods
  periods-same place p zero h = refl
  periods-same place p (suc k) h =
      let a = g.samples p (omega arith) in
      rw a (ap (λ (l : List ℕ). (place + samples_of v p) ∷ l) (periods-same (place + samples_of v p) (suc p) k (omega arith)))

  pub units-same : (place : ℕ) (us : List Unit) → Within n us → natural_units w place us ≡ natural_units v place us
  unfolding natural_units
  units-same place [] i = refl
  units-same place (u ∷ us) (cons l m i) =
      let a = samples_from-same v w n g u.first_period (period_count u) (omega arith) in
      rw (a, units-same (place_after_unit v place u) us i)

  pub natural-same : (place : ℕ) (us : List Unit) → Within n us → natural_marks w place us ≡ natural_marks v place us
  unfolding natural_marks
  natural-same place [] i = refl
  natural-same place (u ∷ us) (cons l m i) =
      let a = samples_from-same v w n g u.first_period (period_count u) (omega arith) in
      let b = periods-same place u.first_period (period_count u) (omega arith) in
      rw (a, b, natural-same (place_after_unit v place u) us i)

pub units-within : (v : Voice) (n place : ℕ) (us : List Unit) → Within n us → Within n (natural_units v place us)
unfolding natural_units
units-within v n place [] i = nil
units-within v n place (u ∷ us) (cons l m i) = cons l m (units-within v n (place_after_unit v place u) us i)

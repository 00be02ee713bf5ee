-- Marks do not fall; the simple join's end where its units do.
use Rattle.std.specs.Prelude.{None, Option, Some}
use Rattle.std.proofs.Common.{◌≡◌, ℕ, zero, suc, ◌+◌, ◌^◌, ◌<◌, ◌≤◌, Bool, true, false, ◌&&◌, leb, List, [], ◌∷◌, ◌++◌, pos, sym, refl, ap, ◌∙◌, subst, zero-le, arith}
use lib.Ieee.{Float, binary64, mul, lt, ne, fits, of_int, to_unsigned}
use lib.Ieee.Back.{round_whole}
use lib.Ieee.Exact.{HasValue}
use Rattle.base.proofs.ListLaws.{and_right}
use Rattle.refusal.specs.declared.Refusal.{Refusal}
use Rattle.refusal.specs.declared.Refusal.TheVariants.{BadSlope, PastLimit, TooManyMarks}
use Rattle.voice.specs.Voice.{Voice}
use Rattle.voice.specs.Periods.{samples_of, samples_from}
use Rattle.sheet.specs.declared.Target.{Target}
use Rattle.sheet.specs.Sheet.{is_finite}
use Rattle.units.specs.declared.Unit.{Unit}
use Rattle.units.specs.Units.{limit}
use Rattle.marks.specs.PitchMarks.{position_counted, f0_counted, Made, Contour, f0_at, goes_on, next_time, mark_at, Climb, ends, with_mark, climb, Stage, slope_of, contour_to, climb_to, stage_after, then_marks, marks_from, first_stage, pitch_marks}
use Rattle.marks.specs.NaturalMarks.{period_count, marks_of_periods, place_after_unit, natural_marks}
use Rattle.marks.specs.Checking.{last_of}
use Rattle.marks.specs.Rising.{Rising}
use Rattle.marks.proofs.TimeLaws.{Time, at, period-time, later-time, mark-mono}

rising-from : (l m : ℕ) (ms : List ℕ) → l ≤ m → Rising m ms → Rising l ms
rising-from l m [] h r = tt
rising-from l m (n ∷ ns) h r = (let a = r.0 in omega arith, r.1)

rising-append : (m : ℕ) (ms ns : List ℕ) → Rising m ms → Rising (last_of m ms) ns → Rising m (ms ++ ns)
unfolding last_of
rising-append m [] ns r s = s
rising-append m (n ∷ ms) ns r s = (r.0, rising-append n ms ns r.1 s)

-- ---- the simple join

periods-rise : (v : Voice) (place p n : ℕ) → Rising place (marks_of_periods v place p n) × (last_of place (marks_of_periods v place p n) ≡ place + samples_from v p n)
unfolding marks_of_periods samples_from last_of
periods-rise v place p zero = (tt, omega arith)
periods-rise v place p (suc n) =
    let r = periods-rise v (place + samples_of v p) (suc p) n in
    let e = r.1 in
    ((omega arith, r.0), omega arith)

pub natural-rises : (v : Voice) (place : ℕ) (us : List Unit) → Rising place (natural_marks v place us)
unfolding natural_marks
natural-rises v place [] = tt
natural-rises v place (u ∷ us) =
    let r = periods-rise v place u.first_period (period_count u) in
    rising-append place (marks_of_periods v place u.first_period (period_count u)) _ r.0 (subst (λ (m : ℕ). Rising m (natural_marks v (place_after_unit v place u) us)) (sym r.1) (natural-rises v (place_after_unit v place u) us))

-- the last mark is the place after the last unit: unit by unit

last-append : (m : ℕ) (ms ns : List ℕ) → last_of m (ms ++ ns) ≡ last_of (last_of m ms) ns
unfolding last_of
last-append m [] ns = refl
last-append m (n ∷ ms) ns = last-append n ms ns

pub natural-last : (v : Voice) (place : ℕ) (u : Unit) (us : List Unit) → last_of place (natural_marks v place (u ∷ us)) ≡ last_of (place_after_unit v place u) (natural_marks v (place_after_unit v place u) us)
unfolding natural_marks
natural-last v place u us =
    last-append place (marks_of_periods v place u.first_period (period_count u)) (natural_marks v (place_after_unit v place u) us)
    ∙ ap (λ (m : ℕ). last_of m (natural_marks v (place_after_unit v place u) us)) (periods-rise v place u.first_period (period_count u)).1

-- ---- the modified join, at a rate of n samples per second

abbrev mark_of : Float → Float → ℕ
mark_of rate time = to_unsigned 64 (mul binary64 rate time)

module _ (rate : Float) (n : ℕ) (v : HasValue rate false n 1) (some-rate : 0 < n) where
  -- the marks up to a target rise from the mark at the time before them to the one at the time after them
  record Risen (time : Float) (c : Climb) : Type 0 where
    rising : Rising (mark_of rate time) c.marks
    last : last_of (mark_of rate time) c.marks ≡ mark_of rate c.time
    timely : Time c.time

  stays : (time : Float) (r : Option Refusal) (left : ℕ) → Time time → Risen time (ends r time left)
  unfolding last_of
  stays time r left t = record { rising = tt; last = refl; timely = t }

  either : (time : Float) (b : Bool) (x y : Climb) → Risen time x → (b ≡ true → Risen time y) → Risen time (elim b [ false ↦ x | true ↦ y ])
  either time true x y p q = q refl
  either time false x y p q = p

  module _ (c : Contour) (is : c.rate ≡ rate) where
    onward : (time : Float) → Time time → goes_on c time ≡ true → Time (next_time c time) × (mark_of rate time ≤ mark_of rate (next_time c time))
    unfolding goes_on next_time
    onward time t g =
        let l = later-time t (period-time (f0_at c time) (and_right (lt time c.position) _ g)) in
        (l.0, mark-mono rate n v some-rate t l.0 l.1)

    mark-is : (time : Float) → mark_at c time ≡ mark_of rate time
    unfolding mark_at
    mark-is time = rw is

    one_more : (time : Float) (k : Climb) → Time time → goes_on c time ≡ true → Risen (next_time c time) k → Risen time (with_mark (mark_at c (next_time c time)) k)
    unfolding last_of
    one_more time k t g r = rw mark-is (record { rising = ((onward time t g).1, r.rising); last = r.last; timely = r.timely })

    climb-rises : (left : ℕ) (time : Float) → Time time → Risen time (climb c left time)
    unfolding climb
    climb-rises zero time t = either time (goes_on c time) _ _ (stays time None 0 t) (λ g. stays time (Some TooManyMarks) 0 t)
    climb-rises (suc left) time t =
        either time (goes_on c time) _ _ (stays time None (suc left) t) (λ g.
        either time (leb (mark_at c (next_time c time)) limit) _ _ (stays time (Some PastLimit) (suc left) t) (λ l.
        one_more time _ t g (climb-rises left (next_time c time) (onward time t g).0)))

  target-rises : (s : Stage) (position f0 : Float) → Time s.time → Risen s.time (climb_to rate s position f0)
  unfolding climb_to
  target-rises s position f0 t =
      either s.time (ne s.time position && lt s.position position) _ _ (stays s.time None s.left t) (λ e.
      either s.time (is_finite (slope_of s position f0)) _ _ (stays s.time (Some BadSlope) s.left t) (λ f.
      climb-rises (contour_to rate s position f0) refl s.left s.time t))

  then-rises : (m : ℕ) (r : Option Refusal) (ms : List ℕ) (rest : Made) → Rising m ms → Rising (last_of m ms) rest.marks → Rising m (then_marks r ms rest).marks
  then-rises m None ms rest p q = rising-append m ms rest.marks p q
  then-rises m (Some r) ms rest p q = p

  from-rises : (s : Stage) (ts : List Target) → Time s.time → Rising (mark_of rate s.time) (marks_from rate s ts).marks
  unfolding marks_from
  from-rises s [] t = tt
  from-rises s (g ∷ ts) t =
      let position = position_counted g in
      let f0 = f0_counted s.f0 g.f0 in
      let c = climb_to rate s position f0 in
      let r = target-rises s position f0 t in
      let next = stage_after c position f0 in
      then-rises (mark_of rate s.time) c.refusal c.marks _ r.rising (subst (λ (m : ℕ). Rising m (marks_from rate next ts).marks) (sym r.last) (from-rises next ts r.timely))

-- document 01 has rates from 1 to 48,000
pub marks-rise : (rate : ℕ) → 0 < rate → rate ≤ 2 ^ 53 → (ts : List Target) → Rising 0 (pitch_marks rate ts).marks
unfolding pitch_marks of_int fits
marks-rise rate h l ts =
    let r = of_int binary64 (pos rate) in
    rising-from 0 (mark_of r first_stage.time) (marks_from r first_stage ts).marks zero-le (from-rises r rate (round_whole binary64 false rate l) h first_stage ts (at tt))

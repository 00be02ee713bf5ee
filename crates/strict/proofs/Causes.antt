-- 16 comes from a missing pair alone: what refuses a voice, a sheet or the marks has another number.
use Rattle.std.specs.Prelude.{None, Option, Some}
use mathlib.Core.Path.{◌≡◌, refl}
use mathlib.Core.Bool.{Bool, true, false, ◌&&◌, ◌||◌, not}
use mathlib.Core.List.{List, [], ◌∷◌}
use Prim.Native.Nat.{ℕ, zero, suc, ◌+◌, ◌-◌, ◌*◌}
use native.Mathlib.Omega.{arith}
use lib.Dec.{ltb, leb, eqb}
use lib.IntN.{pos}
use lib.Ieee.{Float, binary64, lt, ne, of_int}
use lib.ListN.{length, take, drop}
use Rattle.base.specs.Choice.{pick}
use Rattle.base.specs.Lists.{first_failing, or_next}
use Rattle.base.proofs.BoundLaws.{Each, nil, cons}
use Rattle.refusal.specs.declared.Refusal.{Refusal}
use Rattle.refusal.specs.declared.Refusal.TheVariants.{TooManyMarks, PastLimit, BadSlope, NotFinite, MissingPair, LongText}
use Rattle.refusal.specs.Number.{number_of, answer_of}
use Rattle.decimal.specs.Decimal.{text_value}
use Rattle.voice.specs.Voice.{Voice}
use Rattle.voice.specs.Opening.{opening_refusal}
use Rattle.sheet.specs.declared.Value.TheVariants.{Float as FloatValue}
use Rattle.sheet.specs.declared.Target.{Target}
use Rattle.sheet.specs.Sheet.{SegmentRead, Sheet, Got, fails, gets, ◌and_then◌, malformed_if, groups, number, count, printable, name, is_finite, finite, text, value_of, value, segment, target, repeated, counted, sheet_from, refusal_in, sheet_refusal}
use Rattle.units.specs.declared.Unit.{Unit}
use Rattle.units.specs.Selecting.{folded}
use Rattle.units.specs.Units.{units_of, limit, end_refusal}
use Rattle.marks.specs.PitchMarks.{Contour, Made, goes_on, next_time, mark_at, Climb, ends, with_mark, climb, Stage, first_stage, slope_of, contour_to, climb_to, stage_after, then_marks, position_counted, f0_counted, marks_from, pitch_marks}
use Rattle.marks.specs.NaturalMarks.{mark_refusal}
use Rattle.call.specs.declared.JoinType.{JoinType}
use Rattle.call.specs.declared.JoinType.TheVariants.{None, Simple, ModifiedLpc}
use Rattle.call.specs.declared.Settings.{Settings}
use Rattle.call.specs.Call.{simple_plan, modified_plan, plan_by, plan_of}
use Rattle.call.proofs.CallLaws.{two_segments}

-- another cause, if there is one
abbrev pub Other : Option Refusal → Type 0
Other u = answer_of u ≡ 16 → ⊥

pub not-other : Other (Some MissingPair) → ⊥
not-other h = h refl

either : (t : Bool) (a b : Option Refusal) → Other a → Other b → Other (pick t a b)
either true a b h k = h
either false a b h k = k

next : (a b : Option Refusal) → Other a → Other b → Other (or_next a b)
next None b h k = k
next (Some r) b h k = h

-- ---- the voice

failing : (cs : List (Bool × Refusal)) → Each (λ (c : Bool × Refusal). number_of c.1 ≡ 16 → ⊥) cs → Other (first_failing cs)
unfolding first_failing
failing [] nil = omega arith
failing (c ∷ cs) (cons h k) = either c.0 (first_failing cs) (Some c.1) (failing cs k) h

pub opening-other : (file : List ℕ) → Other (opening_refusal file)
unfolding opening_refusal
opening-other file =
    failing _ (cons (omega arith) (cons (omega arith) (cons (omega arith) (cons (omega arith) (cons (omega arith) (cons (omega arith) (cons (omega arith) nil)))))))

-- ---- the sheet

module _ {A : Type 0} where
  abbrev Fails : Got A → Type 0
  Fails g = Other (refusal_in g)

  malformed : (t : Bool) (g : Got A) → Fails g → Fails (malformed_if t g)
  malformed true g h = omega arith
  malformed false g h = h

then : {A B : Type 0} (g : Got A) (f : A → List ℕ → Got B) → Fails g → ((x : A) (bs : List ℕ) → Fails (f x bs)) → Fails (g and_then f)
unfolding ◌and_then◌
then (fails r) f h k = h
then (gets x bs) f h k = k x bs

groups-other : (n : ℕ) (first : Bool) (bs : List ℕ) → Fails (groups n first bs)
unfolding groups
groups-other zero first bs = omega arith
groups-other (suc n) first [] = omega arith
groups-other (suc n) first (b ∷ bs) = by (ltb b 128) (groups-other n false bs)
  where
    by : (t : Bool) → Fails (groups n false bs)
        → Fails {A = ℕ} (elim t [ true ↦ malformed_if (not first && eqb b 0) (gets b bs) | false ↦ groups n false bs and_then (λ m r. gets (b - 128 + 128 * m) r) ])
    by true h = malformed (not first && eqb b 0) (gets b bs) (omega arith)
    by false h = then (groups n false bs) (λ m r. gets (b - 128 + 128 * m) r) h (λ m r. omega arith)

number-other : (bs : List ℕ) → Fails (number bs)
number-other bs = groups-other 5 true bs

count-other : (bs : List ℕ) → Fails (count bs)
unfolding count
count-other bs = then (number bs) _ (number-other bs) (λ n r. malformed (ltb 4096 n) _ (omega arith))

name-other : (bs : List ℕ) → Fails (name bs)
unfolding name
name-other bs = then (number bs) _ (number-other bs) (λ n r. malformed (ltb 32 n || (ltb (length r) n || not (printable (take n r)))) (gets (take n r) (drop n r)) (omega arith))

finite-other : (x : Float) (r : List ℕ) → Fails (finite x r)
unfolding finite
finite-other x r = by (is_finite x)
  where
    by : (t : Bool) → Fails (pick t (gets (FloatValue x) r) (fails NotFinite))
    by true = omega arith
    by false = omega arith

text-other : (bs : List ℕ) → Fails (text bs)
unfolding text
text-other [] = omega arith
text-other (n ∷ bs) = by (ltb 12 n)
  where
    by : (t : Bool) → Fails (pick t (fails LongText) (malformed_if (ltb (length bs) n) (gets (FloatValue (text_value (take n bs))) (drop n bs))))
    by true = omega arith
    by false = malformed (ltb (length bs) n) _ (omega arith)

value-other : (bs : List ℕ) → Fails (value bs)
unfolding value value_of
value-other [] = omega arith
value-other (zero ∷ bs) = malformed (ltb (length bs) 4) _ (omega arith)
value-other (suc zero ∷ bs) = malformed (ltb (length bs) 4) _ (finite-other _ _)
value-other (suc (suc zero) ∷ bs) = omega arith
value-other (suc (suc (suc zero)) ∷ bs) = text-other bs
value-other (suc (suc (suc (suc k))) ∷ bs) = omega arith

segment-other : (n : ℕ) (bs : List ℕ) → Fails (segment n bs)
unfolding segment
segment-other n bs =
    then (name bs) _ (name-other bs) (λ nm r.
    then (value r) _ (value-other r) (λ end r₁.
    then (number r₁) _ (number-other r₁) (λ follower r₂.
    malformed (ltb n follower) _ (omega arith))))

target-other : (bs : List ℕ) → Fails (target bs)
unfolding target
target-other bs = then (value bs) _ (value-other bs) (λ p r. then (value r) _ (value-other r) (λ f r₁. omega arith))

module _ {A : Type 0} (one : List ℕ → Got A) (h : (bs : List ℕ) → Fails (one bs)) where
  repeated-other : (n : ℕ) (bs : List ℕ) → Fails (repeated one n bs)
  unfolding repeated
  repeated-other zero bs = omega arith
  repeated-other (suc n) bs = then (one bs) _ (h bs) (λ x r. then (repeated one n r) _ (repeated-other n r) (λ xs r₁. omega arith))

counted-other : {A : Type 0} (one : ℕ → List ℕ → Got A) → ((n : ℕ) (bs : List ℕ) → Fails (one n bs)) → (bs : List ℕ) → Fails (counted one bs)
counted-other one h bs =
    then (count bs) _ (count-other bs) (λ n r. then (repeated (one n) n r) _ (repeated-other (one n) (h n) n r) (λ xs r₁. omega arith))

pub sheet-other : (bs : List ℕ) → Other (sheet_refusal bs)
unfolding sheet_refusal sheet_from
sheet-other bs =
    then (counted segment bs) _ (counted-other segment segment-other bs) (λ segments r.
    then (counted (λ n. target) r) _ (counted-other (λ n. target) (λ n. target-other) r) (λ targets r₁.
    malformed (ltb 0 (length r₁)) _ (omega arith)))

-- ---- target ends and marks

ends-other : (us : List Unit) → Other (end_refusal us)
unfolding end_refusal
ends-other [] = omega arith
ends-other (u ∷ us) = either (leb u.target_end limit) (end_refusal us) (Some PastLimit) (ends-other us) (omega arith)

natural-other : (left : ℕ) (ms : List ℕ) → Other (mark_refusal left ms)
unfolding mark_refusal
natural-other left [] = omega arith
natural-other zero (m ∷ ms) = omega arith
natural-other (suc n) (m ∷ ms) = either (leb m limit) (mark_refusal n ms) (Some PastLimit) (natural-other n ms) (omega arith)

climb-other : (c : Contour) (n : ℕ) (time : Float) → Other (climb c n time).refusal
unfolding climb
climb-other c zero time = by (goes_on c time)
  where
    by : (t : Bool) → let x : Climb = elim t [ false ↦ ends None time 0 | true ↦ ends (Some TooManyMarks) time 0 ] in Other x.refusal
    by true = omega arith
    by false = omega arith
climb-other c (suc n) time = by (goes_on c time) (leb (mark_at c (next_time c time)) limit) (climb-other c n (next_time c time))
  where
    by : (t u : Bool) → Other (climb c n (next_time c time)).refusal
        → let x : Climb =
        elim t [
          | false ↦ ends None time (suc n)
          | true ↦ elim u [ false ↦ ends (Some PastLimit) time (suc n) | true ↦ with_mark (mark_at c (next_time c time)) (climb c n (next_time c time)) ]
        ] in
        Other x.refusal
    by false u h = omega arith
    by true false h = omega arith
    by true true h = h

to-other : (rate : Float) (s : Stage) (position f0 : Float) → Other (climb_to rate s position f0).refusal
unfolding climb_to
to-other rate s position f0 = by (ne s.time position && lt s.position position) (is_finite (slope_of s position f0)) (climb-other (contour_to rate s position f0) s.left s.time)
  where
    by : (t u : Bool) → Other (climb (contour_to rate s position f0) s.left s.time).refusal
        → let x : Climb =
        elim t [
          | false ↦ ends None s.time s.left
          | true ↦ elim u [ false ↦ ends (Some BadSlope) s.time s.left | true ↦ climb (contour_to rate s position f0) s.left s.time ]
        ] in
        Other x.refusal
    by false u h = omega arith
    by true false h = omega arith
    by true true h = h

then-marks : (r : Option Refusal) (ms : List ℕ) (rest : Made) → Other r → Other rest.refusal → Other (then_marks r ms rest).refusal
then-marks None ms rest h k = k
then-marks (Some r) ms rest h k = h

marks-other : (rate : Float) (s : Stage) (ts : List Target) → Other (marks_from rate s ts).refusal
unfolding marks_from
marks-other rate s [] = omega arith
marks-other rate s (t ∷ ts) =
    let position = position_counted t in
    let f0 = f0_counted s.f0 t.f0 in
    let c = climb_to rate s position f0 in
    then-marks c.refusal c.marks _ (to-other rate s position f0) (marks-other rate (stage_after c position f0) ts)

by-other : (j : JoinType) (v : Voice) (ss : List SegmentRead) (ts : List Target) → Other (plan_by j v ss ts).refusal
unfolding plan_by simple_plan modified_plan pitch_marks
by-other None v ss ts = omega arith
by-other Simple v ss ts = natural-other _ _
by-other ModifiedLpc v ss ts = next (end_refusal (units_of v ss)) (pitch_marks v.header.rate ts).refusal (ends-other (units_of v ss)) (marks-other (of_int binary64 (pos v.header.rate)) first_stage ts)

pub plan-other : (v : Voice) (s : Sheet) (o : Settings) → Other (plan_of v s o).refusal
unfolding plan_of
plan-other v s o = by (ltb (length s.segments) 2)
  where
    by : (t : Bool) → Other (two_segments t (plan_by o.join v (folded o.fold s.segments) s.targets)).refusal
    by true = omega arith
    by false = by-other o.join v (folded o.fold s.segments) s.targets

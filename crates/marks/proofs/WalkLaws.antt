-- What is still to come of the pitch marks, step by step.
use Rattle.std.specs.Prelude.{Err, None, Ok, Option, Result, Some}
use Rattle.std.proofs.Common.{◌≡◌, ℕ, zero, suc, ◌-◌, ◌<◌, ◌≤◌, Bool, true, false, ◌&&◌, ltb, leb, List, ◌∷◌, drop, pos, sym, refl, ap, ◌∙◌, subst, arith, ltb-false, ltb-true, leb-true}
use lib.Ieee.{Float, fin}
use Rattle.base.specs.Choice.{pick}
use Rattle.base.proofs.ListLaws.{and_left, and_right}
use Rattle.base.proofs.ResultLaws.{holding}
use Rattle.refusal.specs.declared.Refusal.{Refusal}
use Rattle.refusal.specs.declared.Refusal.TheVariants.{BadSlope, PastLimit, TooManyMarks}
use Rattle.sheet.specs.declared.Target.{Target}
use Rattle.sheet.specs.declared.Places.{Places}
use Rattle.sheet.specs.Sheet.{Got, fails, gets, target, is_finite, sheet_of}
use Rattle.sheet.specs.Answers.{reads, TargetSaid}
use Rattle.sheet.specs.Places.{is_read, answer_in, sheet_places}
use Rattle.sheet.proofs.WalkLaws.{Ahead, ahead-some, ahead_none, ahead_step}
use Rattle.sheet.proofs.ReadLaws.{sheet-ahead}
use Rattle.units.specs.Units.{limit}
use Rattle.marks.specs.declared.Walk.{Walk}
use Rattle.marks.specs.PitchMarks.{position_counted, f0_counted, Made, Contour, Climb, goes_on, next_time, mark_at, ends, with_mark, climb, slope_of, climb_to, stage_after, then_marks, marks_from, pitch_marks}
use Rattle.marks.specs.Walking.{contour_of, stage_of, on_way, climb_of, coming_to, read_targets, targets_ahead, coming, stops, Reads, fresh_walk, moved, is_ahead, aimed, Advanced, later, marked, beginning, Steps, IsNext}

-- ---- the targets ahead

read-ahead : (sheet : List ℕ) (w : Walk) → Reads sheet w → Ahead target sheet w.targets w.at (read_targets (targets_ahead sheet w))
read-ahead sheet w h = by (targets_ahead sheet w) refl h
  where
    by : (g : Got (List Target)) → targets_ahead sheet w ≡ g → is_read g ≡ true → Ahead target sheet w.targets w.at (read_targets g)
    by (gets ts bs) e h = record { rest = bs; is = e }
    by (fails r) e h = let z : ◌≡◌ {A = ℕ} 0 1 = cc in absurd (omega arith)

-- the walk whose targets ahead are known
ahead-is : (sheet : List ℕ) (w : Walk) (ts : List Target) → Ahead target sheet w.targets w.at ts → (coming sheet w ≡ coming_to w ts) × Reads sheet w
unfolding coming
ahead-is sheet w ts a = (ap (λ (g : Got (List Target)). coming_to w (read_targets g)) a.is, ap is_read a.is)

pub target-there : (sheet : List ℕ) (w : Walk) → Reads sheet w → 0 < w.targets → is_read (target (drop w.at sheet)) ≡ true
target-there sheet w h l = ahead-some target sheet w.targets w.at _ (λ e. omega arith) (read-ahead sheet w h)

pub fresh-coming : (sheet : List ℕ) (p : Places) (rate : ℕ) (w : Walk) → answer_in (sheet_places sheet) ≡ Ok p → w ≡ fresh_walk p rate
    → (coming sheet w ≡ pitch_marks rate (sheet_of sheet).targets) × Reads sheet w
unfolding coming_to climb_of pitch_marks
fresh-coming sheet p rate w e f =
    subst (λ (w : Walk). (coming sheet w ≡ pitch_marks rate (sheet_of sheet).targets) × Reads sheet w) (sym f)
    (ahead-is sheet (fresh_walk p rate) (sheet_of sheet).targets (sheet-ahead sheet p e).targets)

-- ---- at a target

climb-stop : (c : Contour) (n : ℕ) (time : Float) → goes_on c time ≡ false → climb c n time ≡ ends None time n
unfolding climb
climb-stop c zero time g = rw (g, climb)
climb-stop c (suc n) time g = rw (g, climb)

arrived : (w : Walk) → on_way w ≡ false → climb_of w ≡ ends None w.time w.left
unfolding climb_of
arrived w e = by w.climbs e
  where
    by : (t : Bool) → (t && goes_on (contour_of w) w.time) ≡ false → pick t (climb (contour_of w) w.left w.time) (ends None w.time w.left) ≡ ends None w.time w.left
    by true e = climb-stop (contour_of w) w.left w.time e
    by false e = refl

there : (w : Walk) (ts : List Target) → on_way w ≡ false → coming_to w ts ≡ marks_from w.rate (stage_of w) ts
unfolding coming_to
there w ts e = rw (arrived w e)

-- no target is left
pub coming-none : (sheet : List ℕ) (w : Walk) → Reads sheet w → on_way w ≡ false → w.targets ≡ 0 → coming sheet w ≡ stops None
unfolding marks_from
coming-none sheet w h e z =
    let a = read-ahead sheet w h in
    (ahead-is sheet w _ a).0 ∙ there w _ e ∙ ap (marks_from w.rate (stage_of w)) (ahead_none target sheet w.targets w.at _ z a)

-- ---- on to a target

module _ (w : Walk) (position f0 : Float) (next : ℕ) where
  -- the marks of the target
  abbrev up : Climb
  up = climb_to w.rate (stage_of w) position f0

  record Onward (n : Walk) : Type 0 where
    climbs : Bool
    slope : Float
    is : n ≡ moved w position f0 next climbs slope
    climb : climb_of (moved w position f0 next climbs slope) ≡ up

  Aims : Result Walk Refusal → Type 0
  Aims (Ok n) = Onward n
  Aims (Err r) = up ≡ ends (Some r) w.time w.left

  aims : Aims (aimed w position f0 next)
  unfolding Aims aimed climb_to climb_of
  aims = by (is_ahead w position) (is_finite slope) refl refl
    where
      slope : Float
      slope = slope_of (stage_of w) position f0

      by : (a b : Bool) → is_ahead w position ≡ a → is_finite slope ≡ b
          → Aims (pick a (pick b (Ok (moved w position f0 next true slope)) (Err BadSlope)) (Ok (moved w position f0 next false (fin false 0 (pos 0)))))
      by true true e f = record { climbs = true; slope = slope; is = refl; climb = rw (e, climb_to, f) }
      by true false e f = rw (e, climb_to, f)
      by false b e f = record { climbs = false; slope = fin false 0 (pos 0); is = refl; climb = rw (e, climb_to) }

-- the marks of a target, then those of the targets ts after it
abbrev after : Float → Float → Float → List Target → Climb → Made
after rate position f0 ts c = then_marks c.refusal c.marks (marks_from rate (stage_after c position f0) ts)

module _ (sheet : List ℕ) (w : Walk) (t : Target) (next : ℕ) where
  abbrev position : Float
  position = position_counted t

  abbrev pitch : Float
  pitch = f0_counted w.f0 t.f0

  on-to : (r : Result Walk Refusal) (ts : List Target) → Aims w position pitch next r → 0 < w.targets → Ahead target sheet (w.targets - 1) next ts
      → coming sheet w ≡ after w.rate position pitch ts (up w position pitch next) → Advanced sheet w r
  unfolding Aims coming_to
  on-to (Ok n) ts o l a e =
      let m = moved w position pitch next o.climbs o.slope in
      let c = ahead-is sheet m ts a in
      subst (λ (n : Walk). Advanced sheet w (Ok n)) (sym o.is) (c.0 ∙ ap (after w.rate position pitch ts) o.climb ∙ sym e, c.1, refl, omega arith)
  on-to (Err r) ts o l a e = e ∙ ap (after w.rate position pitch ts) o

  pub advanced : (r : Result Walk Refusal) → Reads sheet w → 0 < w.targets → on_way w ≡ false → TargetSaid sheet (reads t next) (target (drop w.at sheet))
      → r ≡ aimed w position pitch next → Advanced sheet w r
  unfolding marks_from
  advanced r h l e i q =
      let a = read-ahead sheet w h in
      let s = ahead_step target sheet w.targets w.at _ t next (λ z. omega arith) a i in
      subst (Advanced sheet w) (sym q)
      (on-to (aimed w position pitch next) s.items (aims w position pitch next) l s.ahead ((ahead-is sheet w _ a).0 ∙ ap (coming_to w) s.whole ∙ there w _ e))

-- ---- one mark

module _ (c : Contour) (time : Float) (g : goes_on c time ≡ true) where
  abbrev mark : ℕ
  mark = mark_at c (next_time c time)

  climb-full : (n : ℕ) → n ≤ 0 → climb c n time ≡ ends (Some TooManyMarks) time n
  unfolding climb
  climb-full zero e = rw (g, climb)
  climb-full (suc n) e = absurd (omega arith)

  climb-past : (n : ℕ) → 0 < n → leb mark limit ≡ false → climb c n time ≡ ends (Some PastLimit) time n
  unfolding climb
  climb-past zero e l = absurd (omega arith)
  climb-past (suc n) e l = rw (g, climb, l)

  climb-more : (n : ℕ) → 0 < n → leb mark limit ≡ true → climb c n time ≡ with_mark mark (climb c (n - 1) (next_time c time))
  unfolding climb
  climb-more zero e l = absurd (omega arith)
  climb-more (suc n) e l = let d : suc n - 1 ≡ n = omega arith in rw (g, climb, l, d)

then-mark : (r : Option Refusal) (m : ℕ) (ms : List ℕ) (rest : Made) → then_marks r (m ∷ ms) rest ≡ beginning m (then_marks r ms rest)
then-mark None m ms rest = refl
then-mark (Some r) m ms rest = refl

module _ (sheet : List ℕ) (w : Walk) (h : Reads sheet w) where
  abbrev targets : List Target
  targets = read_targets (targets_ahead sheet w)

  abbrev time : Float
  time = next_time (contour_of w) w.time

  on-way : (c : Climb) → w.climbs ≡ true → climb (contour_of w) w.left w.time ≡ c → coming sheet w ≡ after w.rate w.position w.f0 targets c
  unfolding coming coming_to climb_of
  on-way c t e = rw (t, e)

  on-later : w.climbs ≡ true → coming sheet (later w time) ≡ after w.rate w.position w.f0 targets (climb (contour_of w) (w.left - 1) time)
  unfolding coming coming_to climb_of
  on-later t = rw t

  -- a mark that was made, or the refusal in its place
  abbrev pub IsMarked : Result (ℕ × Walk) Refusal → Type 0
  IsMarked (Ok s) = Steps sheet w s.0 s.1
  IsMarked (Err r) = coming sheet w ≡ stops (Some r)

  marks-one : w.climbs ≡ true → goes_on (contour_of w) w.time ≡ true → IsMarked (marked w)
  unfolding marked
  marks-one t g = by (ltb 0 w.left) (leb (mark_at (contour_of w) time) limit) refl refl
    where
      m : ℕ
      m = mark_at (contour_of w) time

      by : (a b : Bool) → ltb 0 w.left ≡ a → leb m limit ≡ b
          → IsMarked (pick a (pick b (Ok (m, later w time)) (Err PastLimit)) (Err TooManyMarks))
      by true true e f =
          let l = ltb-true 0 w.left e in
          let c = climb (contour_of w) (w.left - 1) time in
          record {
            is = on-way _ t (climb-more (contour_of w) w.time g w.left l f) ∙ then-mark c.refusal m c.marks _ ∙ ap (beginning m) (sym (on-later t));
            ahead = h;
            counted = omega arith;
            low = leb-true m limit f;
          }
      by true false e f = on-way _ t (climb-past (contour_of w) w.time g w.left (ltb-true 0 w.left e) f)
      by false b e f = on-way _ t (climb-full (contour_of w) w.time g w.left (ltb-false 0 w.left e))

  pub marked-steps : on_way w ≡ true → IsMarked (marked w)
  marked-steps o = marks-one (and_left w.climbs (goes_on (contour_of w) w.time) o) (and_right w.climbs (goes_on (contour_of w) w.time) o)

-- the same step from a walk with the same to come
pub same-steps : (sheet : List ℕ) (w n : Walk) (m : ℕ) (x : Walk) → coming sheet n ≡ coming sheet w → n.left ≡ w.left → Steps sheet n m x → Steps sheet w m x
same-steps sheet w n m x e l i = record { is = sym e ∙ i.is; ahead = i.ahead; counted = i.counted ∙ l; low = i.low }

-- the next of what is still to come, by what it holds
pub came : {sheet : List ℕ} {w : Walk} {r : Result (Option (ℕ × Walk)) Refusal} {o : Option (ℕ × Walk)} {m : ℕ} {n : Walk}
    → IsNext sheet w r → r ≡ Ok o → o ≡ Some (m, n) → Steps sheet w m n
came {sheet = sheet} {w = w} i e f = subst (IsNext sheet w) (holding e f) i

-- The marks taken, step by step, and what follows for periods and lines where some steps at zero-size periods go to other units.
use mathlib.Core.Path.{◌≡◌, refl, sym, ap, ◌∙◌}
use mathlib.Core.Bool.{Bool, true, false, true≢false}
use mathlib.Core.List.{List, [], ◌∷◌, ◌++◌, map, map-append}
use Prim.Native.Nat.{ℕ, zero, suc, ◌+◌, ◌-◌, ◌*◌, ◌<◌}
use native.Mathlib.Omega.{arith}
use lib.IntN.{pos}
use lib.Ieee.{Float, fin}
use lib.ListN.{length, get_or}
use Rattle.base.specs.Buffers.{flat}
use Rattle.voice.specs.Voice.{Voice}
use Rattle.units.specs.declared.Unit.{Unit}
use Rattle.excitation.specs.Source.{source_of, centred}
use Rattle.excitation.specs.Nearest.{nearest_period, pace_of, place_after_size}
use Rattle.excitation.specs.Shares.{Share}
use Rattle.excitation.specs.Taken.{Period, period_of, periods_of_marks, periods_of_share, excitation_of, decoded_over}
use Rattle.excitation.proofs.SizedLaws.{length-centred}
use Rattle.lpc.specs.declared.ResynthType.{ResynthType}
use Rattle.lpc.specs.declared.ResynthType.TheVariants.{Fixed, Float as FloatType}
use Rattle.lpc.specs.Filter.{Filter, outputs, samples, periods_from}
use Rattle.lpc.specs.Fixed.{fixed_filter}
use Rattle.lpc.specs.Floating.{float_filter}
use Rattle.lpc.specs.State.{periods_by}
use Rattle.call.proofs.CallLaws.{part_of, sound_of}
use Rattle.reporting.specs.Report.{Line, lines_of_marks, lines_of_share}
use Rattle.reporting.specs.Claims.{halves}

-- ---- a mark that is taken: by a unit, at a place in it, after the mark before

pub record Step : Type 0 where
  pub unit : Unit
  pub place : Float
  pub before : ℕ
  pub mark : ℕ

abbrev pub step_at : Unit → Float → ℕ → ℕ → Step
step_at u place before mark = record { unit = u; place = place; before = before; mark = mark }

unfoldable pub steps : Unit → Float → Float → ℕ → List ℕ → List Step
steps u pace place mark [] = []
steps u pace place mark (m ∷ ms) = step_at u place mark m ∷ steps u pace (place_after_size place pace (m - mark)) m ms

-- the place that a unit starts at
abbrev pub start : Float
start = fin false 0 (pos 0)

unfoldable pub steps_of_share : Voice → Share → List Step
steps_of_share v s = steps s.unit (pace_of v s.unit s.end_before) start s.mark s.marks

-- its period and its line
abbrev pub period_in : Voice → Step → Period
period_in v s = period_of v (s.mark - s.before) (nearest_period v s.unit s.place)

abbrev pub line_in : Step → Line
line_in s = record { pair = s.unit.pair; half = s.unit.half; first = s.before; size = s.mark - s.before }

marks-periods : (v : Voice) (u : Unit) (pace place : Float) (mark : ℕ) (ms : List ℕ) → periods_of_marks v u pace place mark ms ≡ map (period_in v) (steps u pace place mark ms)
unfolding periods_of_marks steps
marks-periods v u pace place mark [] = refl
marks-periods v u pace place mark (m ∷ ms) = ap (λ (ps : List Period). period_of v (m - mark) (nearest_period v u place) ∷ ps) (marks-periods v u pace (place_after_size place pace (m - mark)) m ms)

marks-lines : (u : Unit) (pace place : Float) (mark : ℕ) (ms : List ℕ) → lines_of_marks u mark ms ≡ map line_in (steps u pace place mark ms)
unfolding lines_of_marks steps
marks-lines u pace place mark [] = refl
marks-lines u pace place mark (m ∷ ms) = ap (λ (ls : List Line). line_in (step_at u place mark m) ∷ ls) (marks-lines u pace (place_after_size place pace (m - mark)) m ms)

flat_map : {A B C : Type 0} (f : A → List C) (g : A → List B) (h : B → C) → ((x : A) → f x ≡ map h (g x)) → (xs : List A) → flat f xs ≡ map h (flat g xs)
unfolding flat
flat_map f g h e [] = refl
flat_map {C = C} f g h e (x ∷ xs) =
    ap (λ (l : List C). l ++ flat f xs) (e x) ∙ ap (λ (l : List C). map h (g x) ++ l) (flat_map f g h e xs) ∙ sym (map-append h (g x) (flat g xs))

module _ (v : Voice) (ss : List Share) where
  pub periods-steps : flat (periods_of_share v) ss ≡ map (period_in v) (flat (steps_of_share v) ss)
  unfolding periods_of_share steps_of_share
  periods-steps = flat_map (periods_of_share v) (steps_of_share v) (period_in v) (λ s. marks-periods v s.unit (pace_of v s.unit s.end_before) start s.mark s.marks) ss

  pub lines_steps : flat lines_of_share ss ≡ map line_in (flat (steps_of_share v) ss)
  unfolding lines_of_share steps_of_share
  lines_steps = flat_map lines_of_share (steps_of_share v) line_in (λ s. marks-lines s.unit (pace_of v s.unit s.end_before) start s.mark s.marks) ss

-- ---- two lists of steps: where a list says yes, of size zero, at one mark, and the first one's of a unit before; the same elsewhere

-- the number of a unit's half, of all halves: two a pair
abbrev pub number_of : Unit → ℕ
number_of u = 2 * u.pair + u.half

pub data Moves : List Bool → List Step → List Step → Type 0 where
  none : {bs : List Bool} → Moves bs [] []
  rest : {xs : List Step} → Moves [] xs xs
  same : {x : Step} {bs : List Bool} {xs ys : List Step} → Moves bs xs ys → Moves (false ∷ bs) (x ∷ xs) (x ∷ ys)
  moved : {u w : Unit} {x y : Float} {mark : ℕ} {bs : List Bool} {xs ys : List Step} → number_of u < number_of w → Moves bs xs ys
      → Moves (true ∷ bs) (step_at u x mark mark ∷ xs) (step_at w y mark mark ∷ ys)

-- ---- whatever is made of each step

module _ {A : Type 0} (f : Step → A) where
  pub moves-many : {bs : List Bool} {xs ys : List Step} → Moves bs xs ys → length (map f ys) ≡ length (map f xs)
  moves-many none = refl
  moves-many rest = refl
  moves-many (same p) = ap suc (moves-many p)
  moves-many (moved l p) = ap suc (moves-many p)

  pub moves-same : {bs : List Bool} {xs ys : List Step} → Moves bs xs ys → (d : A) (i : ℕ) → get_or bs i false ≡ false → get_or (map f ys) i d ≡ get_or (map f xs) i d
  moves-same none d i h = refl
  moves-same rest d i h = refl
  moves-same (same p) d zero h = refl
  moves-same (same p) d (suc i) h = moves-same p d i h
  moves-same (moved l p) d zero h = absurd (true≢false h)
  moves-same (moved l p) d (suc i) h = moves-same p d i h

  pub moves-map : {B : Type 0} (g : A → B) → ((u w : Unit) (x y : Float) (mark : ℕ) → g (f (step_at w y mark mark)) ≡ g (f (step_at u x mark mark)))
      → {bs : List Bool} {xs ys : List Step} → Moves bs xs ys → map g (map f ys) ≡ map g (map f xs)
  moves-map g e none = refl
  moves-map g e rest = refl
  moves-map {B} g e (same {x} p) = ap (λ (l : List B). g (f x) ∷ l) (moves-map g e p)
  moves-map {B} g e (moved {u} {w} {x} {y} {mark} l p) = rw (e u w x y mark) (ap (λ (l : List B). g (f (step_at u x mark mark)) ∷ l) (moves-map g e p))

  pub moves-empty : (g : A → ℕ) → ((u : Unit) (x : Float) (mark : ℕ) → g (f (step_at u x mark mark)) ≡ 0)
      → {bs : List Bool} {xs ys : List Step} → Moves bs xs ys → (i : ℕ) → get_or bs i false ≡ true → get_or (map g (map f ys)) i 0 ≡ 0
  moves-empty g e none i h = refl
  moves-empty g e rest i h = absurd (true≢false (sym h))
  moves-empty g e (same p) zero h = absurd (true≢false (sym h))
  moves-empty g e (same p) (suc i) h = moves-empty g e p i h
  moves-empty g e (moved {w = w} {y = y} {mark = mark} l p) zero h = e w y mark
  moves-empty g e (moved l p) (suc i) h = moves-empty g e p i h

-- ---- lines

pub moves-halves : {bs : List Bool} {xs ys : List Step} → Moves bs xs ys → (i : ℕ) → i < length (map line_in ys) → get_or bs i false ≡ true
    → get_or (halves (map line_in xs)) i 0 < get_or (halves (map line_in ys)) i 0
moves-halves none i h e = absurd (omega arith)
moves-halves rest i h e = absurd (true≢false (sym e))
moves-halves (same p) zero h e = absurd (true≢false (sym e))
moves-halves (same p) (suc i) h e = moves-halves p i (omega arith) e
moves-halves (moved l p) zero h e = l
moves-halves (moved l p) (suc i) h e = moves-halves p i (omega arith) e

-- ---- periods

module _ (v : Voice) where
  pub no_size : (u : Unit) (x : Float) (mark : ℕ) → (period_in v (step_at u x mark mark)).size ≡ 0
  unfolding period_of
  no_size u x mark = omega arith

  no_bytes : (u : Unit) (x : Float) (mark : ℕ) → (period_in v (step_at u x mark mark)).bytes ≡ []
  unfolding period_of
  no_bytes u x mark =
      let source = source_of v (nearest_period v u x) in
      let e : mark - mark ≡ 0 = omega arith in
      rw e (by (centred 0 source) (length-centred 0 source))
    where
      by : (l : List ℕ) → length l ≡ 0 → l ≡ []
      by [] e = refl
      by (x ∷ l) e = absurd (omega arith)

  abbrev periods : List Step → List Period
  periods xs = map (period_in v) xs

  pub moves-excitation : {bs : List Bool} {xs ys : List Step} → Moves bs xs ys → excitation_of (periods ys) ≡ excitation_of (periods xs)
  unfolding excitation_of flat
  moves-excitation none = refl
  moves-excitation rest = refl
  moves-excitation (same {x} p) = ap (λ (l : List ℕ). (period_in v x).bytes ++ l) (moves-excitation p)
  moves-excitation (moved {u} {w} {x} {y} {mark} l p) = rw (no_bytes u x mark, no_bytes w y mark) (moves-excitation p)

  pub moves-decoded : {bs : List Bool} {xs ys : List Step} → Moves bs xs ys → (front : List ℕ) → decoded_over v front (periods ys) ≡ decoded_over v front (periods xs)
  unfolding decoded_over
  moves-decoded none front = refl
  moves-decoded rest front = refl
  moves-decoded (same p) front = moves-decoded p _
  moves-decoded (moved {u} {w} {x} {y} {mark} l p) front = rw (no_size u x mark, no_size w y mark) (moves-decoded p front)

  filtered : {A : Type 0} (f : Filter A) {bs : List Bool} {xs ys : List Step} → Moves bs xs ys → (h : List A)
      → periods_from f h (map part_of (periods ys)) ≡ periods_from f h (map part_of (periods xs))
  unfolding periods_from samples outputs
  filtered f none h = refl
  filtered f rest h = refl
  filtered f (same {x} p) h = ap (λ (l : List (List ℕ)). samples f (period_in v x).row h (period_in v x).bytes ∷ l) (filtered f p _)
  filtered f (moved {u} {w} {x} {y} {mark} l p) h = rw (no_bytes u x mark, no_bytes w y mark) (ap (λ (l : List (List ℕ)). [] ∷ l) (filtered f p h))

  pub moves-samples : (t : ResynthType) (least range : Float) {bs : List Bool} {xs ys : List Step} → Moves bs xs ys → sound_of t least range (periods ys) ≡ sound_of t least range (periods xs)
  unfolding sound_of periods_by
  moves-samples Fixed least range p = filtered (fixed_filter least range) p []
  moves-samples FloatType least range p = filtered (float_filter least range) p []

-- The numbers that a call fills in are read back from its buffers: none is too great for its bytes.
use Rattle.std.specs.Prelude.{None}
use mathlib.Core.Path.{◌≡◌, refl, ap, ◌∙◌}
use mathlib.Core.Bool.{Bool, true, false}
use mathlib.Core.List.{List, [], ◌∷◌}
use Prim.Native.Nat.{ℕ, zero, suc, ◌*◌, ◌^◌}
use native.Mathlib.Omega.{arith}
use lib.Dec.{ltb}
use lib.ListN.{length, take, length-map}
use Rattle.base.specs.Buffers.{over, flat}
use Rattle.base.specs.Bytes.{Bytes, bytes_of, elements}
use Rattle.base.proofs.ListLaws.{next-none}
use Rattle.base.proofs.BoundLaws.{Each, nil, cons, Below, below-flat}
use Rattle.base.proofs.BufferLaws.{take-over, length-flat}
use Rattle.base.proofs.ByteLaws.{length-bytes_of, elements-flat}
use Rattle.voice.specs.Voice.{Voice, voice_of}
use Rattle.sheet.specs.declared.Target.{Target}
use Rattle.sheet.specs.Sheet.{SegmentRead, Sheet, sheet_of}
use Rattle.units.specs.Selecting.{folded}
use Rattle.units.specs.Units.{units_of}
use Rattle.marks.specs.PitchMarks.{most_marks}
use Rattle.marks.specs.NaturalMarks.{natural_marks}
use Rattle.marks.proofs.LimitLaws.{Low, refusal-low, marks-low}
use Rattle.excitation.specs.Taken.{Period, sizes_of, rows_of, excitation_of}
use Rattle.excitation.proofs.SizedLaws.{taken-sizes, taken-rows, rows-length}
use Rattle.lpc.proofs.FilterLaws as filter
use Rattle.call.specs.declared.JoinType.{JoinType}
use Rattle.call.specs.declared.JoinType.TheVariants.{None, Simple, ModifiedLpc}
use Rattle.call.specs.declared.Settings.{Settings}
use Rattle.call.specs.Call.{simple_plan, modified_plan, plan_by, plan_of, is_simple, periods_taken, parts_of, filter_in, periods_of}
use Rattle.call.specs.Buffers.{Buffers, filled, call_refusal, summary_of}
use Rattle.call.specs.Machine.{bytes_of_periods}
use Rattle.call.proofs.CheckLaws.{passed-all}
use Rattle.call.proofs.CallLaws.{two_segments, periods-sized}

-- ---- the marks

pub call-planned : (file sheet : List ℕ) (o : Settings) (b : Buffers) → call_refusal file sheet o b ≡ None → (plan_of (voice_of file) (sheet_of sheet) o).refusal ≡ None
unfolding call_refusal
call-planned file sheet o b e = (passed-all file sheet o (next-none _ _ e).0).plan

pub by-low : (j : JoinType) (v : Voice) (ss : List SegmentRead) (ts : List Target) → (plan_by j v ss ts).refusal ≡ None → Each Low (plan_by j v ss ts).marks
unfolding plan_by simple_plan modified_plan
by-low None v ss ts e = nil
by-low Simple v ss ts e = refusal-low most_marks (natural_marks v 0 (units_of v ss)) e
by-low ModifiedLpc v ss ts e = marks-low v.header.rate ts

pub plan-low : (v : Voice) (s : Sheet) (o : Settings) → (plan_of v s o).refusal ≡ None → Each Low (plan_of v s o).marks
unfolding plan_of
plan-low v s o e = by (ltb (length s.segments) 2) e
  where
    by : (t : Bool) → (two_segments t (plan_by o.join v (folded o.fold s.segments) s.targets)).refusal ≡ None
        → Each Low (two_segments t (plan_by o.join v (folded o.fold s.segments) s.targets)).marks
    by true e = nil
    by false e = by-low o.join v (folded o.fold s.segments) s.targets e

low_below : (ms : List ℕ) → Each Low ms → Below (256 ^ 4) ms
low_below [] nil i = omega arith
low_below (m ∷ ms) (cons l h) zero = omega arith
low_below (m ∷ ms) (cons l h) (suc i) = low_below ms h i

-- ---- the buffers, as far as the call filled them

-- the first n elements of k bytes each, of a buffer that was filled with those of ws
front : (k : ℕ) (ws d : List ℕ) (n : ℕ) → length ws ≡ n → take (k * n) (over (flat (bytes_of k) ws) d) ≡ flat (bytes_of k) ws
front k ws d n e = take-over (flat (bytes_of k) ws) d (k * n) (length-flat (bytes_of k) k (length-bytes_of k) ws ∙ ap (λ (m : ℕ). k * m) e)

module _ (v : Voice) (s : Sheet) (o : Settings) where
  abbrev ps : List Period
  ps = periods_taken v s o

  sizes-back : (plan_of v s o).refusal ≡ None → elements 4 (flat (bytes_of 4) (sizes_of ps)) ≡ sizes_of ps
  unfolding sizes_of periods_taken
  sizes-back e = elements-flat 4 (sizes_of ps) (omega arith) (taken-sizes (is_simple o.join) v (plan_of v s o).units (plan_of v s o).marks (plan-low v s o e))

  rows_back : Bytes v.lpc → elements 2 (flat (bytes_of 2) (rows_of ps)) ≡ rows_of ps
  unfolding rows_of periods_taken
  rows_back h = elements-flat 2 (rows_of ps) (omega arith) (taken-rows (is_simple o.join) v (plan_of v s o).units (plan_of v s o).marks h)

  sizes-count : length (sizes_of ps) ≡ length ps
  unfolding sizes_of
  sizes-count = length-map ps (λ (p : Period). p.size)

  rows-count : length (rows_of ps) ≡ length ps * v.header.order
  rows-count = rows-length v.header.order ps (periods-sized v s o) ∙ ap (λ (n : ℕ). n * v.header.order) sizes-count

  pub marks-front : (plan_of v s o).refusal ≡ None → (d : List ℕ) → elements 4 (take (4 * (summary_of v s o).marks) (over (filled v s o).marks d)) ≡ (plan_of v s o).marks
  unfolding summary_of filled
  marks-front e d =
      let ms = (plan_of v s o).marks in
      ap (elements 4) (front 4 ms d (length ms) refl) ∙ elements-flat 4 ms (omega arith) (low_below ms (plan-low v s o e))

  pub sizes-front : (plan_of v s o).refusal ≡ None → (d : List ℕ) → elements 4 (take (4 * (summary_of v s o).periods) (over (filled v s o).sizes d)) ≡ sizes_of ps
  unfolding summary_of filled
  sizes-front e d = ap (elements 4) (front 4 (sizes_of ps) d (length ps) sizes-count) ∙ sizes-back e

  pub rows-front : Bytes v.lpc → (d : List ℕ) → elements 2 (take (2 * ((summary_of v s o).periods * (summary_of v s o).order)) (over (filled v s o).rows d)) ≡ rows_of ps
  unfolding summary_of filled
  rows-front h d = ap (elements 2) (front 2 (rows_of ps) d (length ps * v.header.order) rows-count) ∙ rows_back h

  pub excitation-front : (d : List ℕ) → take (summary_of v s o).samples (over (filled v s o).excitation d) ≡ excitation_of ps
  unfolding summary_of filled
  excitation-front d = take-over (excitation_of ps) d (length (excitation_of ps)) refl

-- ---- the samples of a call, from the bytes that its pulls write

pub periods-low : (v : Voice) (s : Sheet) (o : Settings) → Each (Below 65536) (periods_of v s o)
unfolding periods_of
periods-low v s o = filter.by-low (filter_in o) v.header.coeff_min v.header.coeff_range (parts_of v (periods_taken v s o))

-- so the bytes of periods say their samples
pub periods-back : (ps : List (List ℕ)) → Each (Below 65536) ps → elements 2 (bytes_of_periods ps) ≡ flat (λ (p : List ℕ). p) ps
periods-back ps e = elements-flat 2 (flat (λ (p : List ℕ). p) ps) (omega arith) (below-flat 65536 (omega arith) (λ (p : List ℕ). p) ps e)

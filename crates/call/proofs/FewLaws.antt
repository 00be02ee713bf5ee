-- A call that is not refused has at most 65,536 periods, and fewer than 2 ^ 64 samples.
use Rattle.std.specs.Prelude.{None}
use mathlib.Core.Path.{◌≡◌}
use mathlib.Core.Bool.{Bool, true, false}
use mathlib.Core.List.{List, [], ◌∷◌}
use Prim.Native.Nat.{ℕ, suc, ◌*◌, ◌^◌, ◌≤◌, ◌<◌}
use native.Mathlib.Omega.{arith}
use lib.Dec.{ltb}
use lib.ListN.{length, length-map}
use Rattle.base.proofs.BoundLaws.{Below}
use Rattle.voice.specs.Voice.{Voice}
use Rattle.sheet.specs.declared.Target.{Target}
use Rattle.sheet.specs.Sheet.{SegmentRead, Sheet}
use Rattle.units.specs.Selecting.{folded}
use Rattle.units.specs.Units.{units_of}
use Rattle.marks.specs.PitchMarks.{most_marks}
use Rattle.marks.specs.NaturalMarks.{natural_marks}
use Rattle.marks.proofs.CountLaws.{marks-most, refusal-most}
use Rattle.excitation.specs.Taken.{Period, sizes_of, excitation_of, total}
use Rattle.excitation.proofs.CountLaws.{taken-most}
use Rattle.excitation.proofs.SizedLaws.{taken-sizes}
use Rattle.call.specs.declared.JoinType.{JoinType}
use Rattle.call.specs.declared.JoinType.TheVariants.{None, Simple, ModifiedLpc}
use Rattle.call.specs.declared.Settings.{Settings}
use Rattle.call.specs.Call.{simple_plan, modified_plan, plan_by, plan_of, is_simple, periods_taken}
use Rattle.call.proofs.CallLaws.{two_segments, taken-total}
use Rattle.call.proofs.FilledLaws.{plan-low}

-- ---- marks

by_most : (j : JoinType) (v : Voice) (ss : List SegmentRead) (ts : List Target) → (plan_by j v ss ts).refusal ≡ None → length (plan_by j v ss ts).marks ≤ most_marks
unfolding plan_by simple_plan modified_plan
by_most None v ss ts e = omega arith
by_most Simple v ss ts e = refusal-most most_marks (natural_marks v 0 (units_of v ss)) e
by_most ModifiedLpc v ss ts e = marks-most v.header.rate ts

pub plan-most : (v : Voice) (s : Sheet) (o : Settings) → (plan_of v s o).refusal ≡ None → length (plan_of v s o).marks ≤ most_marks
unfolding plan_of
plan-most v s o e = by (ltb (length s.segments) 2) e
  where
    by : (t : Bool) → (two_segments t (plan_by o.join v (folded o.fold s.segments) s.targets)).refusal ≡ None
        → length (two_segments t (plan_by o.join v (folded o.fold s.segments) s.targets)).marks ≤ most_marks
    by true e = omega arith
    by false e = by_most o.join v (folded o.fold s.segments) s.targets e

-- ---- periods and samples

total-most : (xs : List ℕ) → Below (2 ^ 32) xs → total xs ≤ length xs * 4294967296
total-most [] h = omega arith
total-most (x ∷ xs) h = let a = h 0 in let k = total-most xs (λ j. h (suc j)) in omega arith

module _ (v : Voice) (s : Sheet) (o : Settings) (e : (plan_of v s o).refusal ≡ None) where
  pub periods-few : length (periods_taken v s o) ≤ 65536
  unfolding periods_taken
  periods-few =
      let a = taken-most (is_simple o.join) v (plan_of v s o).units (plan_of v s o).marks in
      let b = plan-most v s o e in
      omega arith

  pub samples-few : length (excitation_of (periods_taken v s o)) < 2 ^ 64
  unfolding periods_taken sizes_of
  samples-few =
      let ps = periods_taken v s o in
      let t = taken-total v s o in
      let b = total-most (sizes_of ps) (taken-sizes (is_simple o.join) v (plan_of v s o).units (plan_of v s o).marks (plan-low v s o e)) in
      let n = length-map ps (λ (p : Period). p.size) in
      let f = periods-few in
      omega arith

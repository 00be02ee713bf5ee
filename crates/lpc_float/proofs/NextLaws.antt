-- An output from a row's values is the float filter's.
use Rattle.std.proofs.Common.{◌≡◌, ℕ, ◌*◌, ◌/◌, ◌<◌, ◌≤◌, List, map, length, get_or, refl, ap, ◌∙◌}
use lib.Ieee.{Float, nan, binary32, of_int, to_signed}
use Rattle.base.specs.Buffers.{over, upto}
use Rattle.base.specs.Bytes.{u16_at, elements}
use Rattle.base.specs.Words.{low}
use Rattle.ulaw.specs.Ulaw.{sample_of}
use Rattle.lpc.specs.Floating.{float_value, float_next, float_filter}
use Rattle.lpc.specs.Ring.{Ring, tap, ago}
use Rattle.lpc.specs.Sums.{summed, float_step}
use Rattle.lpc.proofs.FilterLaws.{float-causal}
use Rattle.lpc.proofs.RingLaws.{ago-default}
use Rattle.lpc.proofs.SumLaws.{row_read, float-summed}

module _ (least range : Float) (row : List ℕ) (order : ℕ) (values z : List Float) where
  pub next-is : length row ≡ 2 * order → values ≡ over (upto (λ k. float_value least range (u16_at row k)) (length row / 2)) z → (r : Ring Float) (x : ℕ) → r.place ≤ order → order < length r.history → summed float_step (of_int binary32 (sample_of x)) (upto (λ k. get_or values k nan) order) (λ k. get_or r.history (tap order r.place k) nan) 0 ≡ (float_filter least range).next (elements 2 row) (ago (float_filter least range) order r) x
  unfolding float_filter float_next
  next-is l e r x p h =
      let y : ℕ → Float = λ k. get_or r.history (tap order r.place k) nan in
      let start = of_int binary32 (sample_of x) in
      ap (λ (cs : List Float). summed float_step start cs y 0) (row_read (float_value least range) row order values z nan l e)
      ∙ float-summed start (map (float_value least range) (elements 2 row)) y 0
      ∙ float-causal least range (elements 2 row) y (ago (float_filter least range) order r) x (λ k m. ago-default (float_filter least range) order r nan p h k)

pub out-is : (least range y : Float) → (float_filter least range).out y ≡ low 16 (to_signed 15 y)
unfolding float_filter
out-is least range y = refl

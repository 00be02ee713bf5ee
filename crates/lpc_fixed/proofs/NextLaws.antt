-- An output from a row's values, as words, is the fixed filter's.
use Rattle.std.proofs.Common.{◌≡◌, ℕ, ◌*◌, ◌/◌, ◌%◌, ◌^◌, List, map, length, get_or, ℤ, pos, ◌*ℤ◌, sym, refl, ap, ◌∙◌}
use mathlib.Core.List.{map-map}
use lib.Ieee.{Float}
use Rattle.base.specs.Buffers.{over, upto}
use Rattle.base.specs.Bytes.{elements}
use Rattle.base.specs.Words.{low}
use Rattle.ulaw.specs.Ulaw.{sample_of}
use Rattle.lpc.specs.Fixed.{scaled_by, row_value, divided, fixed_next, fixed_filter}
use Rattle.lpc.specs.Ring.{Ring, tap, ago}
use Rattle.lpc.specs.Sums.{summed, fixed_step}
use Rattle.lpc.proofs.SumLaws.{row_read, fixed-summed}
use Rattle.lpc_fixed.specs.Values.{value_at}

-- the same values from the same scales
pub values_same : (min_q range_q m r : ℤ) (row z : List ℕ) (n : ℕ) → min_q ≡ m → range_q ≡ r → over (upto (value_at min_q range_q row) n) z ≡ over (upto (value_at m r row) n) z
values_same min_q range_q m r row z n e f = rw (e, f)

module _ (least range : Float) (row : List ℕ) (order : ℕ) (values z : List ℕ) where
  pub next-is : length row ≡ 2 * order → values ≡ over (upto (value_at (scaled_by 32768 least) (scaled_by 2048 range) row) (length row / 2)) z → (r : Ring ℕ) (x : ℕ) → divided (summed fixed_step (low 32 (sample_of x *ℤ pos 16384)) (upto (λ k. get_or values k 0) order) (λ k. get_or r.history (tap order r.place k) 0) 0) ≡ (fixed_filter least range).next (elements 2 row) (ago (fixed_filter least range) order r) x
  unfolding fixed_filter fixed_next
  next-is l e r x =
      let y = ago (fixed_filter least range) order r in
      let value = row_value (scaled_by 32768 least) (scaled_by 2048 range) in
      let start = low 32 (sample_of x *ℤ pos 16384) in
      let words : upto (λ k. get_or values k 0) order ≡ map (low 32) (map value (elements 2 row)) = row_read (λ q. low 32 (value q)) row order values z 0 l e ∙ sym (map-map (low 32) value (elements 2 row)) in
      ap (λ (cs : List ℕ). divided (summed fixed_step start cs y 0)) words ∙ ap divided (fixed-summed start (map value (elements 2 row)) y 0)

pub out-is : (least range : Float) (w : ℕ) → (fixed_filter least range).out w ≡ w % 2 ^ 16
unfolding fixed_filter
out-is least range w = refl

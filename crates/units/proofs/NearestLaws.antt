-- Target ends by document 02, A9: the sample nearest to the product, of two equally near ones the later. Assumes nothing.
use mathlib.Core.Path.{◌≡◌, sym}
use mathlib.Core.Bool.{Bool, false}
use Prim.Native.Nat.{ℕ, ◌-◌, ◌*◌, ◌^◌, ◌<◌}
use lib.Dec.{T, ltb, lit<, lit≤}
use lib.IntN.{pos}
use lib.Ieee.{Float, fin, binary32, lt, of_int, to_unsigned}
use lib.Ieee.Exact.{HasValue}
use lib.Ieee.Fits.{mul-fits}
use Rattle.float.specs.Nearest.{IsNearest}
use Rattle.float.proofs.NearestLaws.{to-nearest, below-zero, whole-stays, limit-alike}
use Rattle.units.specs.Units.{limit, product_of, samples_at}

-- at a time: a phone's end, or the middle between two
module _ (rate : ℕ) (time : Float) where
  -- 'to the nearest sample, an exact half going up', for a product of a / c samples
  pub end-nearest : (a c : ℕ) → 0 < c → HasValue (product_of rate time) false a c → a < (2 ^ 64 - 1) * c → IsNearest a c (samples_at rate time)
  unfolding samples_at
  end-nearest a c C h l = to-nearest 64 (product_of rate time) a c C h l

  -- 'below zero is still 0'
  pub end_below : T (lt (product_of rate time) (fin false 0 (pos 0))) → samples_at rate time ≡ 0
  unfolding samples_at
  end_below t = below-zero 64 (product_of rate time) t

  -- a product that is a whole number gives what it gave when it was truncated
  pub end_whole : (s : Bool) (n : ℕ) → HasValue (product_of rate time) s n 1 → samples_at rate time ≡ to_unsigned 64 (product_of rate time)
  unfolding samples_at
  end_whole s n h = sym (whole-stays 64 (product_of rate time) s n h)

  -- 'the limit of 16,777,215 is tested after rounding': it would refuse the same products before
  pub limit-before : ltb limit (samples_at rate time) ≡ lt (fin false limit (pos 0)) (product_of rate time)
  unfolding samples_at
  limit-before = limit-alike 64 limit (lit≤ tt) (lit< tt) (product_of rate time) (mul-fits binary32 time (of_int binary32 (pos rate)))

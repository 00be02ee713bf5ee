-- What a table by the code is below, a product in place of a test, and MIX at the fastest speed.
use mathlib.Core.Path.{◌≡◌}
use mathlib.Core.List.{List, [], ◌∷◌}
use Prim.Native.Nat.{ℕ, zero, suc, ◌+◌, ◌-◌, ◌*◌, ◌/◌, ◌%◌, ◌<◌, ◌≤◌}
use native.Mathlib.Omega.{arith}
use borrow.Author.Tests.{lt-ltb, le-ltb}
use lib.Dec.{T, ltb, ltb→lt}
use Rattle.base.specs.Choice.{pick}
use Rattle.base.specs.Tables.{passes}
use Rattle.base.proofs.CaseLaws.{by_order}
use Rattle.base.proofs.TableLaws.{at}
use Rattle.adpcm_scale.specs.Scale.{mix}

unfoldable pub codes : List ℕ
codes = 0 ∷ 1 ∷ 2 ∷ 3 ∷ 4 ∷ 5 ∷ 6 ∷ 7 ∷ 8 ∷ 9 ∷ 10 ∷ 11 ∷ 12 ∷ 13 ∷ 14 ∷ 15 ∷ []

-- a table by the code; `t` is `tt` where it is below n at each code
pub code_lt : (f : ℕ → ℕ) (n : ℕ) (t : T (passes (λ i x. ltb (f i) n) 0 codes)) (i : ℕ) → i < 16 → f i < n
unfolding codes
code_lt f n t i h = ltb→lt (f i) n (at (λ i x. ltb (f i) n) codes t i h)

-- ---- what a negative logarithm gives

pub unless : (q x : ℕ) → (1 - q) * x ≤ x
unless zero x = omega arith
unless (suc n) x = let z : 1 - suc n ≡ 0 = omega arith in rw z (omega arith)

pub unless-negative : (dql x : ℕ) → dql < 4096 → (1 - dql / 2048) * x ≡ pick (ltb dql 2048) x 0
unless-negative dql x h = by_order 2047 dql up down
  where
    up : 2047 < dql → (1 - dql / 2048) * x ≡ pick (ltb dql 2048) x 0
    up l = let z : 1 - dql / 2048 ≡ 0 = omega arith in rw (z, le-ltb dql 2048 (omega arith)) (omega arith)

    down : dql ≤ 2047 → (1 - dql / 2048) * x ≡ pick (ltb dql 2048) x 0
    down l = let o : 1 - dql / 2048 ≡ 1 = omega arith in rw (o, lt-ltb dql 2048 (omega arith)) (omega arith)

-- ---- the scale at the fastest speed

pub mix-fastest : (yu yl : ℕ) → yu < 8192 → yl < 524288 → mix 64 yu yl ≡ yu
unfolding mix
mix-fastest yu yl h k = by_order 8191 ((yu + 16384 - yl / 64) % 16384) up down
  where
    up : 8191 < (yu + 16384 - yl / 64) % 16384 → mix 64 yu yl ≡ yu
    up l = rw (le-ltb ((yu + 16384 - yl / 64) % 16384) 8192 (omega arith)) (omega arith)

    down : (yu + 16384 - yl / 64) % 16384 ≤ 8191 → mix 64 yu yl ≡ yu
    down l = rw (lt-ltb ((yu + 16384 - yl / 64) % 16384) 8192 (omega arith)) (omega arith)

-- How many powers of two are not above a number: none below 1, all from the highest on, and between these one more than the position of
-- the number's highest set bit.
use mathlib.Core.Path.{◌≡◌, refl, sym}
use mathlib.Core.Bool.{true, false, true≢false}
use mathlib.Core.List.{List, [], ◌∷◌, ◌++◌}
use mathlib.Core.Logic.{⊎_elim}
use Prim.Native.Nat.{ℕ, zero, suc, ◌+◌, ◌*◌, ◌^◌, ◌<◌, ◌≤◌}
use native.Mathlib.Nat.{pow-suc, eq-or-lt_of_le, le_of_suc-le-suc}
use native.Mathlib.Omega.{arith}
use borrow.Author.Tests.{le-leb, lt-leb, lt-ltb, leb-true, leb-false, ltb-true, ltb-false}
use lib.Count.{count_leading_zeros, leading_top}
use lib.Dec.{T, leb}
use lib.IntN.{ℤ, pos, negsuc, nat_abs}
use lib.Pow.{pow_mono, pow_pos}
use lib.Signed.{lt_z, le_z, non_neg}
use Rattle.base.specs.Buffers.{upto}
use Rattle.base.specs.Choice.{pick}
use Rattle.base.proofs.CaseLaws.{by_order}
use Rattle.adpcm_float.specs.Powers.{powers, not_above, powers_not_above}
use Rattle.adpcm_float.specs.Floating.{exponent}

-- one number more
with-one : (ps : List ℕ) (p : ℕ) (x : ℤ) → not_above (ps ++ (p ∷ [])) x ≡ not_above ps x + pick (le_z (pos p) x) 1 0
unfolding not_above
with-one [] p x = omega arith
with-one (q ∷ ps) p x = omega (arith, with-one ps p x)

counts : (n mag : ℕ) → 2 ^ n ≤ mag → not_above (powers (suc n)) (pos mag) ≡ suc (not_above (powers n) (pos mag))
unfolding upto
counts n mag h = rw (with-one (powers n) (2 ^ n) (pos mag), le-leb (2 ^ n) mag h) (omega arith)

counts-not : (n : ℕ) (x : ℤ) → le_z (pos (2 ^ n)) x ≡ false → not_above (powers (suc n)) x ≡ not_above (powers n) x
unfolding upto
counts-not n x e = rw (with-one (powers n) (2 ^ n) x, e) (omega arith)

-- at and above the highest of n + 1 powers
all-count : (n mag : ℕ) → 2 ^ n ≤ mag → not_above (powers (suc n)) (pos mag) ≡ suc n
unfolding upto not_above
all-count zero mag h = counts zero mag h
all-count (suc n) mag h = rw (counts (suc n) mag h, all-count n mag (omega (arith, pow-suc 2 n)))

-- below 1
none-counts : (n : ℕ) (x : ℤ) → lt_z x (pos 1) ≡ true → not_above (powers n) x ≡ 0
unfolding upto not_above
none-counts zero x h = refl
none-counts (suc n) x h = rw (counts-not n x (above x h)) (none-counts n x h)
  where
    above : (y : ℤ) → lt_z y (pos 1) ≡ true → le_z (pos (2 ^ n)) y ≡ false
    above (pos m) l = lt-leb (2 ^ n) m (omega (arith, pow_pos n, ltb-true m 1 l))
    above (negsuc m) l = refl

-- m of n, where 2 ^ m is the first power above the number
count-is : (n m mag : ℕ) → m ≤ n → mag < 2 ^ m → 2 ^ m ≤ 2 * mag + 1 → not_above (powers n) (pos mag) ≡ m
unfolding upto not_above
count-is zero m mag h hi lo = omega arith
count-is (suc n) m mag h hi lo =
    ⊎_elim whole (λ l. rw (counts-not n (pos mag) (below l)) (count-is n m mag (le_of_suc-le-suc l) hi lo)) (eq-or-lt_of_le h)
  where
    whole : m ≡ suc n → not_above (powers (suc n)) (pos mag) ≡ m
    whole e = let l : 2 ^ suc n ≤ 2 * mag + 1 = rw e at lo in rw (all-count n mag (omega (arith, pow-suc 2 n))) (sym e)

    below : m < suc n → leb (2 ^ n) mag ≡ false
    below l = let p : 2 ^ m ≤ 2 ^ n = pow_mono {i = m} {j = n} (le_of_suc-le-suc l) in lt-leb (2 ^ n) mag (omega arith)

-- ---- the fifteen powers

pub below-1 : (x : ℤ) → lt_z x (pos 1) ≡ true → powers_not_above x ≡ 0
unfolding powers_not_above
below-1 x h = none-counts 15 x h

pub from-0x4000 : (x : ℤ) → le_z (pos 0x4000) x ≡ true → powers_not_above x ≡ 15
unfolding powers_not_above
from-0x4000 (pos n) h = all-count 14 n (leb-true 0x4000 n h)
from-0x4000 (negsuc n) h = absurd (true≢false (sym h))

-- one more than the position p of the highest set bit
pub by-highest-bit : (p mag : ℕ) → p < 15 → 2 ^ p ≤ mag → mag < 2 ^ suc p → powers_not_above (pos mag) ≡ suc p
unfolding powers_not_above
by-highest-bit p mag h lo hi = count-is 15 (suc p) mag h hi (omega (arith, pow-suc 2 p))

-- ---- tests against a and b: what they tell of a higher and of a lower number, and what is left between them

pub below-higher : {a : ℕ} (x : ℤ) (b : ℕ) → lt_z x (pos a) ≡ true → a ≤ b → lt_z x (pos b) ≡ true
below-higher {a} (pos n) b t h = lt-ltb n b (omega (arith, ltb-true n a t))
below-higher (negsuc n) b t h = refl

pub from-lower : {b : ℕ} (x : ℤ) (a : ℕ) → le_z (pos b) x ≡ true → a ≤ b → le_z (pos a) x ≡ true
from-lower {b} (pos n) a t h = le-leb a n (omega (arith, leb-true b n t))
from-lower (negsuc n) a t h = t

pub between : {a b : ℕ} (x : ℤ) → lt_z x (pos a) ≡ false → le_z (pos b) x ≡ false → T (non_neg x) × (a ≤ nat_abs x) × (nat_abs x < b)
between {a} {b} (pos n) l h = (tt, ltb-false n a l, leb-false b n h)
between (negsuc n) l h = absurd (true≢false l)

-- ---- the exponent of a magnitude of 15 bits

pub record Exponent (mag exp : ℕ) : Type 0 where
  pub most : exp ≤ 15
  pub high : mag < 2 ^ exp
  pub low : 0 < mag → 2 ^ exp ≤ 2 * mag
  -- 2 * mag + 1 has one bit more than the magnitude
  pub zeros : count_leading_zeros 32 (2 * mag + 1) + suc exp ≡ 32

pub exponent-of : (mag : ℕ) → mag < 32768 → Exponent mag (exponent mag)
unfolding powers_not_above
exponent-of mag h =
    let t = leading_top 32 (2 * mag + 1) (omega arith) (omega arith) in
    let m = t.0 in
    let high : mag < 2 ^ m = omega (arith, t.3, pow-suc 2 m) in
    let most : m ≤ 15 = by_order 15 m (λ l. let p : 2 ^ 16 ≤ 2 ^ m = pow_mono l in absurd (omega (arith, t.2))) (λ l. l) in
    rw (count-is 15 m mag most high t.2) (record { most = most; high = high; low = even m high t.2; zeros = omega (arith, t.1) })
  where
    even : (m : ℕ) → mag < 2 ^ m → 2 ^ m ≤ 2 * mag + 1 → 0 < mag → 2 ^ m ≤ 2 * mag
    even zero hi lo some = omega arith
    even (suc k) hi lo some = omega (arith, pow-suc 2 k)

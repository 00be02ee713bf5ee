-- How long the format's parts are, and its shifts and signs without a test.
use mathlib.Core.Path.{◌≡◌, refl, sym, ap, ◌∙◌}
use mathlib.Core.Bool.{Bool, true, false}
use Prim.Native.Nat.{ℕ, zero, suc, ◌+◌, ◌-◌, ◌*◌, ◌/◌, ◌%◌, ◌^◌, ◌<◌, ◌≤◌}
use native.Mathlib.Nat.{mul_assoc, div-lt_iff_lt-mul, le-div_iff_mul-le, div-le_self, mul-div-mul_right, mod-eq_of_lt}
use native.Mathlib.Omega.{arith}
use borrow.Author.Tests.{le-leb, lt-leb, ne_eqb}
use lib.Bits.{bit_or}
use lib.Dec.{leb, eqb, eqb→eq}
use lib.Pow.{pow_pos, pow-add, shl_exact, shl-shr}
use Rattle.base.specs.Buffers.{upto}
use Rattle.base.specs.Choice.{pick}
use Rattle.base.proofs.CaseLaws.{by_order}
use Rattle.base.proofs.TableLaws.{below}
use Rattle.adpcm_float.specs.Powers.{not_above, powers_not_above}
use Rattle.adpcm_float.specs.Floating.{exponent, mantissa, wan_mag, signed}
use Rattle.adpcm_float.proofs.PowerLaws.{exponent-of}

shifted-lt : (mag : ℕ) → mag < 32768 → mag * 64 / 2 ^ exponent mag < 64
shifted-lt mag h = (div-lt_iff_lt-mul (pow_pos (exponent mag))).1 (omega (arith, (exponent-of mag h).high))

pub mantissa-lt : (mag : ℕ) → mag < 32768 → mantissa mag < 64
unfolding mantissa
mantissa-lt mag h = chosen (eqb mag 0)
  where
    chosen : (t : Bool) → pick t 32 (mag * 64 / 2 ^ exponent mag) < 64
    chosen true = omega arith
    chosen false = shifted-lt mag h

-- the highest bit of the six, which is set already
six : ℕ → Bool
six n = pick (leb 32 n) (eqb (bit_or n 32) n) true

or-32 : (n : ℕ) → 32 ≤ n → n < 64 → bit_or n 32 ≡ n
unfolding six
or-32 n l h = eqb→eq (bit_or n 32) n (rw (le-leb 32 n l) at (below six 64 tt n h))

pub mantissa-or : (mag : ℕ) → mag < 32768 → bit_or (mag * 64 / 2 ^ exponent mag) 32 ≡ mantissa mag
unfolding mantissa powers_not_above not_above upto
mantissa-or zero h = refl
mantissa-or (suc n) h =
    let low : 32 ≤ suc n * 64 / 2 ^ exponent (suc n) =
    (le-div_iff_mul-le (pow_pos (exponent (suc n)))).1 (omega (arith, (exponent-of (suc n) h).low (omega arith))) in
    rw (ne_eqb (suc n) 0 (λ e. omega arith)) (or-32 (suc n * 64 / 2 ^ exponent (suc n)) low (shifted-lt (suc n) h))

-- a shift up by i and down by j is one shift

shift-down : (a i j : ℕ) → i ≤ j → a * 2 ^ i / 2 ^ j ≡ a / 2 ^ (j - i)
shift-down a i j h =
    let e : j ≡ j - i + i = omega arith in
    ap (λ (n : ℕ). a * 2 ^ i / n) (ap (λ (n : ℕ). 2 ^ n) e ∙ pow-add 2 (j - i) i) ∙ mul-div-mul_right a (2 ^ (j - i)) (pow_pos i)

shift-up : (a i j : ℕ) → j ≤ i → a * 2 ^ i / 2 ^ j ≡ a * 2 ^ (i - j)
shift-up a i j h =
    let e : i ≡ i - j + j = omega arith in
    ap (λ (n : ℕ). n / 2 ^ j) (ap (λ (n : ℕ). a * n) (ap (λ (n : ℕ). 2 ^ n) e ∙ pow-add 2 (i - j) j) ∙ sym (mul_assoc a (2 ^ (i - j)) (2 ^ j)))
    ∙ shl-shr (a * 2 ^ (i - j)) j

pub wan_mag-shift : (mant exp : ℕ) → mant < 256 → exp < 32 → mant * 128 * 2 ^ exp % 2 ^ 64 / 2 ^ 26 % 32768 ≡ wan_mag mant exp
unfolding wan_mag
wan_mag-shift mant exp h k =
    rw (shl_exact {a = mant * 128} 15 exp 64 (omega arith) (omega arith)) (by_order 26 exp up down)
  where
    up : 26 < exp → mant * 128 * 2 ^ exp / 2 ^ 26 % 32768 ≡ pick (leb exp 26) (mant * 128 / 2 ^ (26 - exp)) (mant * 128 * 2 ^ (exp - 26) % 32768)
    up l = rw (lt-leb exp 26 l, shift-up (mant * 128) exp 26 (omega arith))

    down : exp ≤ 26 → mant * 128 * 2 ^ exp / 2 ^ 26 % 32768 ≡ pick (leb exp 26) (mant * 128 / 2 ^ (26 - exp)) (mant * 128 * 2 ^ (exp - 26) % 32768)
    down l =
        rw (le-leb exp 26 l, shift-down (mant * 128) exp 26 l)
        (mod-eq_of_lt (omega (arith, div-le_self (mant * 128) (2 ^ (26 - exp)))))

-- ---- the sign

pub once : (mag sign : ℕ) → sign < 2 → mag * sign ≤ mag
once mag zero h = omega arith
once mag (suc zero) h = omega arith
once mag (suc (suc n)) h = absurd (omega arith)

pub signed-off : (sign mag : ℕ) → sign < 2 → mag < 32768 → (mag + 65536 - 2 * (mag * sign)) % 65536 ≡ signed sign mag
unfolding signed
signed-off zero mag s h = omega arith
signed-off (suc zero) mag s h = omega arith
signed-off (suc (suc n)) mag s h = absurd (omega arith)

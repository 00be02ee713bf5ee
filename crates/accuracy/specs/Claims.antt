-- Document 02, A14: how far mu-law can move a sample. The claims are of every integer, and so of all 65,536 samples.
use Rattle.std.specs.Prelude.{◌≡◌, ℕ, suc, ◌+◌, ◌-◌, ◌*◌, ◌/◌, ◌%◌, ◌^◌, ◌≤◌, ◌<◌, ℤ, pos, negsuc, neg_ℤ, nat_abs, ◌-ℤ◌, ◌≤ℤ◌}
use Rattle.std.specs.Int.Count.{count_leading_zeros}
use Rattle.ulaw.specs.Ulaw.{decision_value}
use Rattle.ulaw.proofs.i16_to_ulaw.Reads as encoding
use Rattle.ulaw.proofs.ulaw_to_i16.Reads as decoding

-- A sample that was encoded and decoded: its byte and its result are known by the contracts of `i16_to_ulaw` and `ulaw_to_i16` alone.
pub record Coded (x : ℤ) : Type 0 where
  pub byte : ℕ
  pub result : ℤ
  pub encoded : encoding.Post tt (x, tt) byte (x, tt)
  pub decoded : decoding.Post tt (byte, tt) result (byte, tt)

-- how far two integers are apart
abbrev pub distance : ℤ → ℤ → ℕ
distance x y = nat_abs (y -ℤ x)

-- a magnitude with the sign of x
abbrev pub with_sign_of : ℤ → ℕ → ℤ
with_sign_of (pos k) n = pos n
with_sign_of (negsuc k) n = neg_ℤ (pos n)

-- the magnitude of a sample and the bias by which the segments start at powers of two
abbrev pub biased_magnitude : ℤ → ℕ
biased_magnitude x = nat_abs x + 132

-- the position of the highest set bit of a number, 1 to 2 ^ 32 - 1
abbrev pub highest_bit : ℕ → ℕ
highest_bit n = 31 - count_leading_zeros 32 n

-- the segment of a sample: the position of the highest set bit of its biased magnitude, less 7
abbrev pub segment_of : ℤ → ℕ
segment_of x = highest_bit (biased_magnitude x) - 7

-- what that says of a sample whose byte is given
pub record IsSegment (x : ℤ) (byte : ℕ) : Type 0 where
  -- the highest set bit of the biased magnitude is 7 above the segment
  pub low : 2 ^ (segment_of x + 7) ≤ biased_magnitude x
  pub high : biased_magnitude x < 2 ^ (segment_of x + 8)
  -- '0 to 7'
  pub most : segment_of x ≤ 7
  -- the encoder uses it: the three bits behind the byte's sign, which are inverted as all of its bits are
  pub used : (255 - byte) / 16 % 8 ≡ segment_of x

-- 'at most 4 times 2 to the power of its segment', 'at most 1,024'
abbrev pub most_off : ℤ → ℕ
most_off x = 4 * 2 ^ segment_of x

abbrev pub most_apart : ℕ
most_apart = 1024

pub record Accuracy : Type 0 where
  -- 'decoding an encoded sample with magnitude up to 32,635 is off by at most 4 times 2 to the power of its segment,
  pub off : (x : ℤ) (c : Coded x) → nat_abs x ≤ 32635 → distance x c.result ≤ most_off x
  -- 0 to 7'
  pub segment : (x : ℤ) (c : Coded x) → nat_abs x ≤ 32635 → IsSegment x c.byte
  -- 'larger magnitudes give 32,124 with their sign'
  pub larger : (x : ℤ) (c : Coded x) → 32635 < nat_abs x → c.result ≡ with_sign_of x 32124
  -- 'If two samples differ by one, their results differ by at most 1,024,
  pub by_one : (x x₁ : ℤ) (c : Coded x) (c₁ : Coded x₁) → distance x x₁ ≡ 1 → distance c.result c₁.result ≤ most_apart
  -- and a larger sample never gives a smaller result'
  pub rising : (x x₁ : ℤ) (c : Coded x) (c₁ : Coded x₁) → x ≤ℤ x₁ → c.result ≤ℤ c₁.result
  -- 'Zero gives zero'
  pub of_zero : (c : Coded (pos 0)) → c.result ≡ pos 0
  -- The claim speaks of something: every sample can be encoded and decoded.
  pub made : (x : ℤ) → Coded x

-- the lowest magnitude of interval m, 0 to 127, which is in segment m / 16
abbrev pub lowest : ℕ → ℤ
lowest m = pos (4 * decision_value m)

-- Where both bounds are reached.
pub record Reached : Type 0 where
  -- the lowest magnitude of each interval but the first is off by just so much
  pub off : (m : ℕ) (c : Coded (lowest m)) → 0 < m → m ≤ 127
      → (segment_of (lowest m) ≡ m / 16) × (distance (lowest m) c.result ≡ most_off (lowest m))
  -- in segment 7 the results of that magnitude and of the one below it are just so far apart, but for the segment's first interval
  pub by_one : (m n : ℕ) (c : Coded (pos n)) (c₁ : Coded (lowest m)) → 112 < m → m ≤ 127 → pos (suc n) ≡ lowest m
      → distance c.result c₁.result ≡ most_apart
  -- and so it is below zero: the negative of a sample gives the negative of its result
  pub negative : (x : ℤ) (c : Coded x) (c₁ : Coded (neg_ℤ x)) → c₁.result ≡ neg_ℤ c.result

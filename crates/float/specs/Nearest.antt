-- Rounding as the certificate's rule book has it: 'to the nearest sample, an exact half going up'.
use Rattle.std.specs.Prelude.{ℕ, suc, ◌+◌, ◌-◌, ◌*◌, ◌/◌, ◌%◌, ◌^◌, ◌≤◌, min, cond, nat_lt, Float}
use Rattle.std.specs.Float.{nan, inf, fin}
use Rattle.std.specs.Float.Ieee.{up, down}

-- a / c to the nearest whole number, for a c above 0: down where less than a half is left over, 'an exact half going up'
abbrev pub half_up : ℕ → ℕ → ℕ
half_up a c = cond (nat_lt (2 * (a % c)) c) (a / c) (suc (a / c))

-- A float to the nearest integer of w bits, an exact half going up; 0 below zero and for a NaN, the highest where it is too large:
-- the kit's `to_unsigned`, but for `half_up` where that truncates.
unfoldable pub to_nearest : ℕ → Float → ℕ
to_nearest w nan = 0
to_nearest w (inf s) = cond s 0 (2 ^ w - 1)
to_nearest w (fin s m e) = cond s 0 (min (half_up (m * up e) (down e)) (2 ^ w - 1))

-- ---- what the rule asks of the whole number n for a / c: a law, not a part of the definition

-- how far n is from a / c, in parts of 1 / c; one of the two differences is 0
abbrev pub distance : ℕ → ℕ → ℕ → ℕ
distance a c n = (a - n * c) + (n * c - a)

-- it is at most a half away, no other is nearer, and of two equally near ones it is the later
pub record IsNearest (a c n : ℕ) : Type 0 where
  pub half : 2 * distance a c n ≤ c
  pub nearest : (k : ℕ) → distance a c n ≤ distance a c k
  pub later : (k : ℕ) → distance a c k ≤ distance a c n → k ≤ n

-- Integers in two's complement.
use Rattle.std.specs.Prelude.{ℕ, ◌-◌, ◌%◌, ◌^◌, ℤ, pos, negsuc}
use Rattle.std.specs.Int.{Width, w16, w32}
use mir.Val.{to_z, bits}

-- the low k bits of an integer, a number below 2 ^ k: z modulo 2 ^ k, also where z is negative
unfoldable pub low : ℕ → ℤ → ℕ
low k (pos n) = n % 2 ^ k
low k (negsuc n) = (2 ^ k - 1) - n % 2 ^ k

-- the integer that 16 or 32 bits stand for
abbrev pub signed16 : ℕ → ℤ
signed16 w = to_z w16 w

abbrev pub signed32 : ℕ → ℤ
signed32 w = to_z w32 w

-- an integer kept to the bits of a width
unfoldable pub wrap : Width → ℤ → ℤ
wrap w z = to_z w (low (bits w) z)

-- The definitions at their edges, computed. Assumes nothing.
use Rattle.std.proofs.Common.{◌≡◌, ◌-◌, ◌*◌, ◌^◌, true, false, pos, negsuc, refl}
use lib.Ieee.{nan, inf, fin, round, lt, sub}
use Rattle.float.specs.Casts.{narrow}
use Rattle.float.specs.Distance.{nearer}
use Rattle.float.specs.Nearest.{to_nearest}

-- ties go to the even one: 16,777,217 down, and 16,777,219 up
tie_down : narrow (fin false 16777217 (pos 0)) ≡ fin false 1 (pos 24)
unfolding narrow round
tie_down = refl

tie_up : narrow (fin false 16777219 (pos 0)) ≡ fin false 4194305 (pos 2)
unfolding narrow round
tie_up = refl

-- the least f64 that gives an infinity, and the one before it
too_large : narrow (fin false (2 ^ 25 - 1) (pos 103)) ≡ inf false
unfolding narrow round
too_large = refl

largest : narrow (fin false ((2 ^ 25 - 1) * 2 ^ 28 - 1) (pos 75)) ≡ fin false (2 ^ 24 - 1) (pos 104)
unfolding narrow round
largest = refl

-- half of the smallest f32 is a tie with zero, which keeps the sign
minus-zero : narrow (fin true 1 (negsuc 149)) ≡ fin true 0 (pos 0)
unfolding narrow round
minus-zero = refl

-- of two equal distances neither is the nearer, nor is any from a NaN
equally-near : nearer (fin false 1 (pos 0)) (fin false 1 (negsuc 0)) (fin false 3 (negsuc 0)) ≡ false
unfolding lt sub
equally-near = refl

from-nan : nearer nan (fin false 1 (pos 0)) (fin false 1 (pos 1)) ≡ false
unfolding lt sub
from-nan = refl

-- an exact half goes up, also the last one that an f32 has, and 0.49999997, which is less, does not (adding a half in f32 gives 1)
half : to_nearest 64 (fin false 1 (negsuc 0)) ≡ 1
unfolding to_nearest
half = refl

last-half : to_nearest 64 (fin false 16777215 (negsuc 0)) ≡ 8388608
unfolding to_nearest
last-half = refl

below_half : to_nearest 64 (fin false 16777215 (negsuc 24)) ≡ 0
unfolding to_nearest
below_half = refl

-- a whole number stays: 8388609 (adding a half in f32 gives 8388610)
odd-whole : to_nearest 64 (fin false 8388609 (pos 0)) ≡ 8388609
unfolding to_nearest
odd-whole = refl

-- below zero is 0: -0.5 and less, -0.25, the infinity; the other infinity is the highest
minus-half : to_nearest 64 (fin true 1 (negsuc 0)) ≡ 0
unfolding to_nearest
minus-half = refl

minus-quarter : to_nearest 64 (fin true 1 (negsuc 1)) ≡ 0
unfolding to_nearest
minus-quarter = refl

minus-infinity : to_nearest 64 (inf true) ≡ 0
unfolding to_nearest
minus-infinity = refl

infinity : to_nearest 64 (inf false) ≡ 2 ^ 64 - 1
unfolding to_nearest
infinity = refl

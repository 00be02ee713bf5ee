-- The mu-law of ITU-T G.711, Tables 2a and 2b: for each sign 8 segments of 16 intervals, on uniform PCM of 14 bits. A 16-bit sample is 4
-- times the 14-bit value. `m` is the tables' number n of the decision value x and of the quantised value y, 0 to 127; the character signal
-- is 255 - n for a positive value and 127 - n for a negative one. What G.711 leaves open is chosen as in the Rust: a sample on a decision
-- value is in the outer interval, a magnitude above the virtual x of 128 is in the last one, a sample is compared at 16 bits, and the
-- optional replacement of the all-zero character signal is not made.
use Rattle.std.specs.Prelude.{ℕ, zero, suc, ◌+◌, ◌-◌, ◌*◌, ◌/◌, ◌%◌, ◌^◌, leb, ltb, ℤ, pos, neg_ℤ, nat_abs}
use Rattle.std.specs.Int.Signed.{lt_z}
use Rattle.base.specs.Choice.{pick}

-- the lowest magnitude of interval m: 0, 1, 3, .., 29; 31, 35, .., 91; 95, 103, ..; .. ; 4063, 4319, .., 7903 (a difference below 0 is 0)
unfoldable pub decision_value : ℕ → ℕ
decision_value m = (32 + 2 * (m % 16)) * 2 ^ (m / 16) - 33

-- the value that interval m stands for: 0, 2, 4, .., 30; 33, 37, .., 93; 99, 107, ..; .. ; 4191, 4447, .., 8031
unfoldable pub quantised_value : ℕ → ℕ
quantised_value m = (33 + 2 * (m % 16)) * 2 ^ (m / 16) - 33

-- the last of the intervals 0 to m whose decision value, scaled to 16 bits, is not above the magnitude
unfoldable pub last_interval : ℕ → ℕ → ℕ
last_interval zero magnitude = zero
last_interval (suc m) magnitude = pick (leb (4 * decision_value (suc m)) magnitude) (suc m) (last_interval m magnitude)

-- the byte of a 16-bit sample: 255 - n, or 127 - n for a negative one
unfoldable pub ulaw_of : ℤ → ℕ
ulaw_of sample = 255 - (pick (lt_z sample (pos 0)) 128 0 + last_interval 127 (nat_abs sample))

-- the 16-bit sample of a byte
unfoldable pub sample_of : ℕ → ℤ
sample_of byte =
    let code = 255 - byte in
    pick (ltb code 128) (pos (4 * quantised_value (code % 128))) (neg_ℤ (pos (4 * quantised_value (code % 128))))

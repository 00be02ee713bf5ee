-- ITU-T G.726, 4.2.6: the predictor's floating format (sign 1, exponent 4 and mantissa 6 bits) and the product in it. In all blocks a
-- signal of n bits is a number below 2 ^ n; a negative one is in two's complement unless the Recommendation's list of signals says signed
-- magnitude (DQ) or floating format (DQn, SRn). `>> k` is `/ 2 ^ k`, `<< k` is `* 2 ^ k`, `& (2 ^ k - 1)` is `% 2 ^ k`, and the `**` of
-- two bits is their sum modulo 2. The words are as wide as in G.726; where those of G.721 (1988) are narrower, no value at 32 kbit/s needs
-- more.
use Rattle.std.specs.Prelude.{ℕ, ◌+◌, ◌-◌, ◌*◌, ◌/◌, ◌%◌, ◌^◌, leb, ltb, eqb, pos}
use Rattle.base.specs.Choice.{pick}
use Rattle.adpcm_float.specs.Powers.{powers_not_above}

-- EXP of a magnitude of 15 bits: 0 for 0, else one more than the position of its highest set bit. That is how many of the fifteen powers of
-- two are not above it
abbrev pub exponent : ℕ → ℕ
exponent mag = powers_not_above (pos mag)

-- MANT: 1 << 5 for 0, else (MAG << 6) >> EXP
unfoldable pub mantissa : ℕ → ℕ
mantissa mag = pick (eqb mag 0) 32 (mag * 64 / 2 ^ exponent mag)

-- FLOATA: the quantised difference DQ, in signed magnitude, as DQ0
unfoldable pub floata : ℕ → ℕ
floata dq = dq / 32768 * 1024 + exponent (dq % 32768) * 64 + mantissa (dq % 32768)

-- FLOATB: the reconstructed signal SR, in two's complement, as SR0
unfoldable pub sr_mag : ℕ → ℕ
sr_mag sr = pick (ltb sr 32768) sr ((65536 - sr) % 32768)

unfoldable pub floatb : ℕ → ℕ
floatb sr = sr / 32768 * 1024 + exponent (sr_mag sr) * 64 + mantissa (sr_mag sr)

-- FMULT: a coefficient An (or Bn) of 16 bits times SRn (or DQn). AnMAG has 13 bits
unfoldable pub an_mag : ℕ → ℕ
an_mag an = pick (ltb an 32768) (an / 4) ((16384 - an / 4) % 8192)

-- WAnMAG, from WAnMANT = (SRnMANT * AnMANT + 48) >> 4 and WAnEXP = SRnEXP + AnEXP
unfoldable pub wan_mag : ℕ → ℕ → ℕ
wan_mag mant exp = pick (leb exp 26) (mant * 128 / 2 ^ (26 - exp)) (mant * 128 * 2 ^ (exp - 26) % 32768)

-- a magnitude with a sign bit, in two's complement of 16 bits
unfoldable pub signed : ℕ → ℕ → ℕ
signed sign mag = pick (eqb sign 0) mag ((65536 - mag) % 65536)

-- WAn, its sign AnS ** SRnS
unfoldable pub fmult : ℕ → ℕ → ℕ
fmult an srn =
    signed ((an / 32768 + srn / 1024) % 2)
    (wan_mag ((srn % 64 * mantissa (an_mag an) + 48) / 16) (srn / 64 % 16 + exponent (an_mag an)))

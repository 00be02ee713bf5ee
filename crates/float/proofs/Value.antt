-- The number that a pattern's fields stand for, and the pattern of a value. Assumes nothing.
use Rattle.std.proofs.Common.{◌≡◌, ℕ, zero, suc, ◌+◌, ◌-◌, ◌*◌, ◌/◌, ◌^◌, ◌<◌, Bool, cond, ap, ◌∙◌, add_assoc, lt_irrefl, mul_right_comm, sub-one, ne_eqb}
use lib.Ieee.{Float, nan, inf, fin, Format, prec, low, up, down, size, hid, ones, top, of_fields, to_bits}
use lib.Ieee.Exact.{HasValue, odd_sign}
use lib.Ieee.Fits.{down_pos}
use lib.Ieee.Nearest.{div_same}

-- an exponent's field of 0, and any other but the highest
pub subnormal-value : (f : Format) (s : Bool) (t : ℕ) → HasValue (of_fields f s 0 t) s (t * 2 ^ 0) (2 ^ low f)
unfolding of_fields
subnormal-value f s t = odd_sign (prec f) s t 0 (low f)

pub normal-value : (f : Format) (s : Bool) (x t : ℕ) → 0 < x → (x ≡ ones f → ⊥) → HasValue (of_fields f s x t) s ((hid f + t) * 2 ^ (x - 1)) (2 ^ low f)
unfolding of_fields
normal-value f s zero t p h = absurd (lt_irrefl 0 p)
normal-value f s (suc j) t p h = rw (ne_eqb (suc j) (ones f) h, sub-one (suc j)) (odd_sign (prec f) s (hid f + t) j (low f))

-- the pattern of n of the format's smallest values, without a sign
abbrev pub weight : Format → ℕ → ℕ
weight f n = (size n - prec f) * hid f + n / 2 ^ (size n - prec f)

-- the pattern of a value of the size a / c
pub bits_of : (f : Format) (v : Float) (s : Bool) (a c : ℕ) → 0 < c → HasValue v s a c → to_bits f v ≡ cond s (top f) 0 + weight f (a * 2 ^ low f / c)
unfolding to_bits
bits_of f nan s a c C h = absurd h
bits_of f (inf t) s a c C h = absurd h
bits_of f (fin t m e) s a c C h =
    let l = 2 ^ low f in
    let same : m * up e * l / down e ≡ a * l / c = div_same (m * up e * l) (down e) (a * l) c (down_pos e) C (mul_right_comm (m * up e) l c ∙ ap (λ (z : ℕ). z * l) h.1 ∙ mul_right_comm a (down e) l) in
    rw (same, h.0, add_assoc)

-- A value and its sign: rounding keeps the sign, and in a pattern it is the highest bit. Assumes nothing.
use Rattle.std.proofs.Common.{◌≡◌, ℕ, zero, suc, ◌+◌, ◌-◌, ◌*◌, ◌/◌, ◌%◌, ◌^◌, ◌<◌, Bool, true, false, cond, eqb, ltb, leb, sym, refl, ap, ◌∙◌, le-add_right, mod-lt, mod-eq_of_lt, zero-lt-suc, mul-pos, pow_pos, le-leb}
use native.Mathlib.Nat.{add-mod_left, dvd-mul_right, mod-mod_of_dvd}
use borrow.Author.Tests.{lt-leb}
use lib.Ieee.{Float, nan, inf, fin, Format, binary32, prec, emax, low, up, down, odd, units, round, hid, ones, top, of_fields, of_bits}
use Rattle.float.specs.Casts.{narrow}
use Rattle.float.specs.Distance.{abs}

-- x with the sign s; a NaN has none
abbrev pub signed : Bool → Float → Float
signed s nan = nan
signed s (inf t) = inf s
signed s (fin t m e) = fin s m e

-- ---- rounding, and reading a pattern's fields, do the same with either sign
module _ (s t : Bool) where
  odd-signed : (d q k l : ℕ) → odd d s q k l ≡ signed s (odd d t q k l)
  unfolding odd
  odd-signed d zero k l = refl
  odd-signed d (suc q) k l = refl

  cond-signed : (b : Bool) (v w x y : Float) → v ≡ signed s x → w ≡ signed s y → cond b v w ≡ signed s (cond b x y)
  cond-signed true v w x y p q = p
  cond-signed false v w x y p q = q

  units-signed : (f : Format) (q k : ℕ) → units f s q k ≡ signed s (units f t q k)
  unfolding units
  units-signed f q k = cond-signed (ltb (q * 2 ^ k) (2 ^ (low f + suc (emax f)))) (odd (suc (prec f)) s q k (low f)) (inf s) (odd (suc (prec f)) t q k (low f)) (inf t) (odd-signed (suc (prec f)) q k (low f)) refl

  pub round-signed : (f : Format) (n d : ℕ) → round f s n d ≡ signed s (round f t n d)
  unfolding round
  round-signed f n d = units-signed f _ _

  fields-signed : (f : Format) (x d : ℕ) → of_fields f s x d ≡ signed s (of_fields f t x d)
  unfolding of_fields
  fields-signed f zero d = odd-signed (prec f) d 0 (low f)
  fields-signed f (suc x) d =
      cond-signed (eqb (suc x) (ones f)) (cond (eqb d 0) (inf s) nan) (odd (prec f) s (hid f + d) x (low f)) (cond (eqb d 0) (inf t) nan) (odd (prec f) t (hid f + d) x (low f))
      (cond-signed (eqb d 0) (inf s) nan (inf t) nan refl refl)
      (odd-signed (prec f) (hid f + d) x (low f))

pub narrow_signed : (s : Bool) (x : Float) → narrow (signed s x) ≡ signed s (narrow x)
unfolding narrow
narrow_signed s nan = refl
narrow_signed s (inf t) = refl
narrow_signed s (fin t m e) = round-signed s t binary32 (m * up e) (down e)

abs-signed : (s : Bool) (x : Float) → abs (signed s x) ≡ signed false x
abs-signed s nan = refl
abs-signed s (inf t) = refl
abs-signed s (fin t m e) = refl

-- ---- a pattern is its sign's bit and the rest
top_pos : (f : Format) → 0 < top f
top_pos f = mul-pos (pow_pos (prec f - 1)) (zero-lt-suc (ones f))

pub fields-of : (f : Format) (r : ℕ) → r < top f → of_bits f r ≡ of_fields f false (r / hid f) (r % hid f)
unfolding of_bits
fields-of f r h = rw (lt-leb (top f) r h, mod-eq_of_lt h)

pub split : (f : Format) (b : ℕ) → of_bits f b ≡ signed (leb (top f) b) (of_bits f (b % top f))
unfolding of_bits
split f b =
    fields-signed (leb (top f) b) false f (b % top f / hid f) (b % hid f)
    ∙ ap (signed (leb (top f) b)) (ap (of_fields f false (b % top f / hid f)) (sym (mod-mod_of_dvd (hid f) b (dvd-mul_right (hid f) (suc (ones f))))) ∙ sym (fields-of f (b % top f) (mod-lt b (top_pos f))))

-- without the sign's bit, and with it
pub plus : (f : Format) (r : ℕ) → r < top f → of_bits f r ≡ signed false (of_bits f r)
plus f r h = rw (lt-leb (top f) r h, mod-eq_of_lt h) at (split f r)

pub minus : (f : Format) (r : ℕ) → r < top f → of_bits f (top f + r) ≡ signed true (of_bits f r)
minus f r h = rw (le-leb (top f) (top f + r) (le-add_right (top f) r), add-mod_left (top f) r, mod-eq_of_lt h) at (split f (top f + r))

pub abs-bits : (f : Format) (b : ℕ) → abs (of_bits f b) ≡ of_bits f (b % top f)
abs-bits f b = ap abs (split f b) ∙ abs-signed (leb (top f) b) (of_bits f (b % top f)) ∙ sym (plus f (b % top f) (mod-lt b (top_pos f)))

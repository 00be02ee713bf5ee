-- Which bits are a finite float: those whose exponent is not that of the infinities and NaNs.
use Rattle.std.proofs.Common.{◌≡◌, ℕ, zero, suc, ◌+◌, ◌/◌, ◌%◌, ◌<◌, ◌≤◌, Bool, true, false, cond, eqb, leb, refl, ap, ◌∙◌, arith, ne_eqb}
use lib.Ieee.{nan, inf, binary32, prec, hid, top, odd, of_fields, of_bits}
use Rattle.sheet.specs.Sheet.{is_finite}

odd-finite : (d : ℕ) (s : Bool) (q k l : ℕ) → is_finite (odd d s q k l) ≡ true
unfolding is_finite odd
odd-finite d s zero k l = refl
odd-finite d s (suc q) k l = refl

fields-finite : (s : Bool) (x t : ℕ) → (x ≡ 255 → ⊥) → is_finite (of_fields binary32 s x t) ≡ true
unfolding of_fields
fields-finite s zero t n = odd-finite (prec binary32) s t 0 149
fields-finite s (suc x) t n = let e = ne_eqb (suc x) 255 n in rw e (odd-finite (prec binary32) s (hid binary32 + t) x 149)

fields-infinite : (s : Bool) (t : ℕ) → is_finite (of_fields binary32 s 255 t) ≡ false
unfolding of_fields is_finite
fields-infinite s t = go (eqb t 0)
  where
    go : (z : Bool) → is_finite (cond z (inf s) nan) ≡ false
    go true = refl
    go false = refl

module _ (word : ℕ) where
  pub bits-finite : word % 2147483648 < 2139095040 → is_finite (of_bits binary32 word) ≡ true
  unfolding of_bits
  bits-finite h = fields-finite (leb (top binary32) word) (word % 2147483648 / 8388608) (word % 8388608) (λ e. omega arith)

  pub bits-infinite : 2139095040 ≤ word % 2147483648 → is_finite (of_bits binary32 word) ≡ false
  unfolding of_bits
  bits-infinite h =
      let e : word % 2147483648 / 8388608 ≡ 255 = omega arith in
      ap (λ (x : ℕ). is_finite (of_fields binary32 (leb (top binary32) word) x (word % 8388608))) e ∙ fields-infinite (leb (top binary32) word) (word % 8388608)

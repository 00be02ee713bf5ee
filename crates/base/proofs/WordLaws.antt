-- Laws of two's complement, at every width.
use mathlib.Core.Path.{◌≡◌, refl, sym, ap, ◌∙◌}
use mathlib.Core.Bool.{true, false, true≢false}
use Prim.Native.Nat.{ℕ, zero, suc, ◌+◌, ◌-◌, ◌*◌, ◌/◌, ◌%◌, ◌^◌, ◌<◌, ◌≤◌}
use native.Mathlib.Nat.{mod-lt, mod-eq_of_lt, mod_self, mod-mod, add-mod, mod-add-mod, add-mod-mod, mod-eq-sub-mod, mod-add-div, add-mul-mod_self_left, zero-mul, zero-mod, sub-zero, add-zero, add_assoc, add_comm, suc-mod, mul_comm, mul_assoc, mul-add, add-mul, lt_of_le_of_lt, div-le_self}
use native.Mathlib.Omega.{arith}
use borrow.Author.Tests.{lt-ltb, le-ltb, ltb-true}
use lib.Dec.{T}
use lib.Pow.{pow_pos}
use lib.IntN.{ℤ, pos, negsuc, neg_ℤ, nat_abs, ◌*ℤ◌, ◌+ℤ◌, sub_ℕ}
use lib.Signed.{lt_z, non_neg, mag, quot_z}
use mir.Syntax.{Width}
use mir.Val.{SFits, Fits, to_z, of_z, bits, hbits}
use mir.ValLaws.{half_full}
use mir.Facts.{to_z_pos, to_z-of_z, of_z-to_z, sfits_to_z}
use Rattle.base.specs.Words.{low, wrap}
use Rattle.base.proofs.CaseLaws.{by_order}

-- ---- remainders by a number p above 0

module _ (p : ℕ) (P : 0 < p) where
  -- two numbers that add up to a multiple of p: the one is p less the other's remainder
  complement : (x y : ℕ) → (x + y) % p ≡ 0 → x % p ≡ (p - y % p) % p
  complement x y e = by_order (x % p + y % p) p whole none
    where
      sum : (x % p + y % p) % p ≡ 0
      sum = sym (add-mod x y p) ∙ e

      -- both remainders are 0
      whole : x % p + y % p < p → x % p ≡ (p - y % p) % p
      whole l =
          let z : x % p + y % p ≡ 0 = sym (mod-eq_of_lt l) ∙ sum in
          let a : x % p ≡ 0 = omega arith in
          let b : y % p ≡ 0 = omega arith in
          rw (a, b, sub-zero) (sym (mod_self p))

      -- they add up to p
      none : p ≤ x % p + y % p → x % p ≡ (p - y % p) % p
      none l =
          let a : x % p < p = mod-lt x P in
          let b : y % p < p = mod-lt y P in
          let s : x % p + y % p - p < p = omega arith in
          let z : x % p + y % p - p ≡ 0 = sym (mod-eq_of_lt s) ∙ sym (mod-eq-sub-mod l) ∙ sum in
          let q : p - y % p ≡ x % p = omega arith in
          rw q (sym (mod-mod x p))

  mul-mod : (a b : ℕ) → (a % p * b) % p ≡ (a * b) % p
  mul-mod a b =
      let e : a * b ≡ a % p * b + p * (a / p * b) = ap (λ (n : ℕ). n * b) (sym (mod-add-div a p)) ∙ add-mul (a % p) (p * (a / p)) b ∙ ap (λ (n : ℕ). a % p * b + n) (mul_assoc p (a / p) b) in
      sym (ap (λ (n : ℕ). n % p) e ∙ add-mul-mod_self_left (a % p * b) p (a / p * b))

  -- a product with a multiple of p
  mul-zero-mod : (a b : ℕ) → b % p ≡ 0 → (a * b) % p ≡ 0
  mul-zero-mod a b e = ap (λ (n : ℕ). n % p) (mul_comm a b) ∙ sym (mul-mod b a) ∙ ap (λ (n : ℕ). n * a % p) e ∙ rw zero-mul (zero-mod p)

  -- a multiple of p adds nothing
  add-multiple : (x y : ℕ) → y % p ≡ 0 → (x + y) % p ≡ x % p
  add-multiple x y e = sym (add-mod-mod x y p) ∙ ap (λ (n : ℕ). (x + n) % p) e ∙ rw add-zero

  add_same : (x y z : ℕ) → x % p ≡ y % p → (x + z) % p ≡ (y + z) % p
  add_same x y z e = sym (mod-add-mod x p z) ∙ ap (λ (n : ℕ). (n + z) % p) e ∙ mod-add-mod y p z

-- ---- low bits

module _ (k : ℕ) where
  -- the low bits of -(n + 1), with n + 1, are a multiple of 2 ^ k
  low-negative : (n : ℕ) → (low k (negsuc n) + suc n) % 2 ^ k ≡ 0
  unfolding low
  low-negative n =
      let p = 2 ^ k in
      let l : n % p < p = mod-lt n (pow_pos k) in
      let s : p - 1 - n % p + suc (n % p) ≡ p = omega arith in
      let e : (p - 1 - n % p + suc n) % p ≡ (p - 1 - n % p + suc (n % p)) % p = sym (add-mod-mod (p - 1 - n % p) (suc n) p) ∙ ap (λ (m : ℕ). (p - 1 - n % p + m) % p) (suc-mod n p) ∙ add-mod-mod (p - 1 - n % p) (suc (n % p)) p in
      e ∙ ap (λ (m : ℕ). m % p) s ∙ mod_self p

  pub low-lt : (z : ℤ) → low k z < 2 ^ k
  unfolding low
  low-lt (pos n) = mod-lt n (pow_pos k)
  low-lt (negsuc n) = omega (arith, pow_pos k)

  low-mod : (z : ℤ) → low k z % 2 ^ k ≡ low k z
  low-mod z = mod-eq_of_lt (low-lt z)

  -- a number with n + 1 a multiple of 2 ^ k has the low bits of -(n + 1)
  is_negative : (w n : ℕ) → (w + suc n) % 2 ^ k ≡ 0 → w % 2 ^ k ≡ low k (negsuc n)
  is_negative w n e = complement (2 ^ k) (pow_pos k) w (suc n) e ∙ sym (complement (2 ^ k) (pow_pos k) (low k (negsuc n)) (suc n) (low-negative n)) ∙ low-mod (negsuc n)

  -- the same of -n
  is-minus : (w n : ℕ) → (w + n) % 2 ^ k ≡ 0 → w % 2 ^ k ≡ low k (neg_ℤ (pos n))
  unfolding low
  is-minus w zero e = rw (add-zero w) at e ∙ sym (zero-mod (2 ^ k))
  is-minus w (suc n) e = is_negative w n e

  -- ---- the low bits of a sum and of a product are those of the low bits' sum and product

  low-difference : (a b : ℕ) → low k (sub_ℕ a (suc b)) ≡ (a % 2 ^ k + low k (negsuc b)) % 2 ^ k
  unfolding low
  low-difference a b = by_order a (suc b) below above
    where
      w : ℕ
      w = low k (negsuc b)

      below : a < suc b → low k (sub_ℕ a (suc b)) ≡ (a % 2 ^ k + w) % 2 ^ k
      below h =
          let n = suc b - suc a in
          let e : a + (w + suc n) ≡ w + suc b = omega arith in
          let z : (a % 2 ^ k + w + suc n) % 2 ^ k ≡ 0 = ap (λ (m : ℕ). m % 2 ^ k) (add_assoc (a % 2 ^ k) w (suc n)) ∙ mod-add-mod a (2 ^ k) (w + suc n) ∙ ap (λ (m : ℕ). m % 2 ^ k) e ∙ low-negative b in
          rw (lt-ltb a (suc b) h) (sym (is_negative (a % 2 ^ k + w) n z))

      above : suc b ≤ a → low k (sub_ℕ a (suc b)) ≡ (a % 2 ^ k + w) % 2 ^ k
      above h =
          let e : a + w ≡ a - suc b + (w + suc b) = omega arith in
          rw (le-ltb a (suc b) h) (sym (mod-add-mod a (2 ^ k) w ∙ ap (λ (m : ℕ). m % 2 ^ k) e ∙ add-multiple (2 ^ k) (pow_pos k) (a - suc b) (w + suc b) (low-negative b)))

  pub low-add : (x y : ℤ) → low k (x +ℤ y) ≡ (low k x + low k y) % 2 ^ k
  unfolding low
  low-add (pos a) (pos b) = add-mod a b (2 ^ k)
  low-add (pos a) (negsuc b) = low-difference a b
  low-add (negsuc a) (pos b) = low-difference b a ∙ ap (λ (n : ℕ). n % 2 ^ k) (add_comm (b % 2 ^ k) (low k (negsuc a)))
  low-add (negsuc a) (negsuc b) =
      let v = low k (negsuc a) in
      let w = low k (negsuc b) in
      let e : v + w + suc (suc (a + b)) ≡ v + suc a + (w + suc b) = omega arith in
      sym (is_negative (v + w) (suc (a + b)) (ap (λ (n : ℕ). n % 2 ^ k) e ∙ add-multiple (2 ^ k) (pow_pos k) (v + suc a) (w + suc b) (low-negative b) ∙ low-negative a))

  low_product : (a b : ℕ) → (a % 2 ^ k * low k (negsuc b)) % 2 ^ k ≡ low k (neg_ℤ (pos (a * suc b)))
  low_product a b =
      let w = low k (negsuc b) in
      let e : (a * w + a * suc b) % 2 ^ k ≡ 0 = ap (λ (n : ℕ). n % 2 ^ k) (sym (mul-add a w (suc b))) ∙ mul-zero-mod (2 ^ k) (pow_pos k) a (w + suc b) (low-negative b) in
      is-minus (a % 2 ^ k * w) (a * suc b) (add_same (2 ^ k) (pow_pos k) (a % 2 ^ k * w) (a * w) (a * suc b) (mul-mod (2 ^ k) (pow_pos k) a w) ∙ e)

  pub low-mul : (x y : ℤ) → low k (x *ℤ y) ≡ (low k x * low k y) % 2 ^ k
  unfolding low
  low-mul (pos a) (pos b) =
      sym
      (mul-mod (2 ^ k) (pow_pos k) a (b % 2 ^ k)
      ∙ ap (λ (n : ℕ). n % 2 ^ k) (mul_comm a (b % 2 ^ k))
      ∙ mul-mod (2 ^ k) (pow_pos k) b a
      ∙ ap (λ (n : ℕ). n % 2 ^ k) (mul_comm b a))
  low-mul (pos a) (negsuc b) = sym (low_product a b)
  low-mul (negsuc a) (pos b) =
      ap (λ (n : ℕ). low k (neg_ℤ (pos n))) (mul_comm (suc a) b)
      ∙ sym (low_product b a)
      ∙ ap (λ (n : ℕ). n % 2 ^ k) (mul_comm (b % 2 ^ k) (low k (negsuc a)))
  low-mul (negsuc a) (negsuc b) =
      let p = 2 ^ k in
      let v = low k (negsuc a) in
      let w = low k (negsuc b) in
      let e : (suc a * suc b + v * suc b) % p ≡ 0 = ap (λ (n : ℕ). n % p) (sym (add-mul (suc a) v (suc b)) ∙ mul_comm (suc a + v) (suc b)) ∙ mul-zero-mod p (pow_pos k) (suc b) (suc a + v) (ap (λ (n : ℕ). n % p) (add_comm (suc a) v) ∙ low-negative a) in
      let f : (v * w + v * suc b) % p ≡ 0 = ap (λ (n : ℕ). n % p) (sym (mul-add v w (suc b))) ∙ mul-zero-mod p (pow_pos k) v (w + suc b) (low-negative b) in
      complement p (pow_pos k) (suc a * suc b) (v * suc b) e ∙ sym (complement p (pow_pos k) (v * w) (v * suc b) f)

-- ---- a width's words

module _ (w : Width) where
  -- the low bits of an integer that the width holds are its bits
  pub low_bits : (z : ℤ) → SFits w z → low (bits w) z ≡ of_z w z
  unfolding low
  low_bits (pos n) h = mod-eq_of_lt (half_full w h.sfits)
  low_bits (negsuc n) h =
      let l : n < 2 ^ bits w = half_full w h.sfits in
      rw (mod-eq_of_lt l) (omega arith)

  pub low_signed : (n : ℕ) → Fits w n → low (bits w) (to_z w n) ≡ n
  low_signed n h = low_bits (to_z w n) (sfits_to_z h) ∙ of_z-to_z h

  -- an integer that the width holds is kept as it is
  pub wrap-fits : (z : ℤ) → SFits w z → wrap w z ≡ z
  unfolding wrap
  wrap-fits z h = ap (to_z w) (low_bits z h) ∙ to_z-of_z h

  -- sums and products of words, modulo the width's power, are those of the integers, kept to the width
  module _ (a b : ℕ) (ha : Fits w a) (hb : Fits w b) where
    pub signed_add : to_z w ((a + b) % 2 ^ bits w) ≡ wrap w (to_z w a +ℤ to_z w b)
    unfolding wrap
    signed_add = ap (to_z w) (sym (low-add (bits w) (to_z w a) (to_z w b) ∙ rw (low_signed a ha, low_signed b hb)))

    pub signed_mul : to_z w ((a * b) % 2 ^ bits w) ≡ wrap w (to_z w a *ℤ to_z w b)
    unfolding wrap
    signed_mul = ap (to_z w) (sym (low-mul (bits w) (to_z w a) (to_z w b) ∙ rw (low_signed a ha, low_signed b hb)))

-- ---- the conversions between integers and words, by complements of bits

module _ (w : Width) (z : ℤ) (h : SFits w z) where
  module _ (t : lt_z (to_z w (of_z w z)) (pos 0) ≡ true) where
    flipped : to_z w ((2 ^ bits w - 1) - of_z w z) ≡ pos (mag z)
    flipped = at z h (rw (to_z-of_z h) at t)
      where
        at : (y : ℤ) → SFits w y → lt_z y (pos 0) ≡ true → to_z w ((2 ^ bits w - 1) - of_z w y) ≡ pos (mag y)
        at (pos n) g e = absurd (omega (arith, ltb-true n 0 e))
        at (negsuc n) g e =
            let l : n < 2 ^ bits w = half_full w g.sfits in
            let f : (2 ^ bits w - 1) - (2 ^ bits w - suc n) ≡ n = omega arith in
            ap (to_z w) f ∙ to_z_pos w g.sfits

    pub flipped_word : (2 ^ bits w - 1) - nat_abs (to_z w ((2 ^ bits w - 1) - of_z w z)) ≡ low (bits w) z
    unfolding low
    flipped_word = rw flipped (at z h (rw (to_z-of_z h) at t))
      where
        at : (y : ℤ) → SFits w y → lt_z y (pos 0) ≡ true → (2 ^ bits w - 1) - mag y ≡ low (bits w) y
        at (pos n) g e = absurd (omega (arith, ltb-true n 0 e))
        at (negsuc n) g e = rw (mod-eq_of_lt (half_full w g.sfits))

  module _ (t : lt_z (to_z w (of_z w z)) (pos 0) ≡ false) where
    natural : T (non_neg z) × Fits w (nat_abs z) × (nat_abs z ≡ of_z w z)
    natural = at z h (rw (to_z-of_z h) at t)
      where
        at : (y : ℤ) → SFits w y → lt_z y (pos 0) ≡ false → T (non_neg y) × Fits w (nat_abs y) × (nat_abs y ≡ of_z w y)
        at (pos n) g e = (tt, record { fits = half_full w g.sfits }, refl)
        at (negsuc n) g e = absurd (true≢false e)

    pub natural-word : nat_abs (to_z w (of_z w z)) ≡ low (bits w) z
    natural-word = rw (to_z-of_z h) (natural.2 ∙ sym (low_bits w z h))

-- ---- the range of a quotient

minus-fits : (w : Width) (n m : ℕ) → n ≤ suc m → m < 2 ^ hbits w → SFits w (neg_ℤ (pos n))
minus-fits w zero m h k = record { sfits = omega arith }
minus-fits w (suc n) m h k = record { sfits = omega arith }

pub quot_fits : (w : Width) (z : ℤ) (d : ℕ) → SFits w z → SFits w (quot_z z (pos d))
quot_fits w (pos n) d h = record { sfits = lt_of_le_of_lt (div-le_self n d) h.sfits }
quot_fits w (negsuc n) d h = minus-fits w (suc n / d) n (div-le_self (suc n) d) h.sfits

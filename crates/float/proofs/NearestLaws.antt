-- Laws of `to_nearest`, for callers: it does what the rule asks, is 0 below zero, keeps a whole number, and meets a limit alike before rounding and after. Assumes nothing.
use Rattle.std.proofs.Common.{◌≡◌, ℕ, zero, suc, ◌+◌, ◌-◌, ◌*◌, ◌/◌, ◌%◌, ◌^◌, ◌<◌, ◌≤◌, min, Bool, true, false, cond, ◌&&◌, T, eqb, ltb, leb, ℤ, pos, negsuc, sym, refl, ap, ◌∙◌, subst, inl, inr, le_trans, le_refl, lt_of_lt_of_le, le_of_suc-le-suc, le_of_lt, mul-le-mul_right, mod-lt, zero-lt-suc, div-lt_iff_lt-mul, mul-le-mul, eq-or-lt_of_le, lt_of_not-le, div-add-mod', zero-mul, div-one, arith, lit<, lit≤, eqb→eq, ltb→lt, leb→le, pow_pos, pow_mono, shr_lt, ltb-false, ltb-true, le-ltb, lt-ltb}
use native.Mathlib.Nat.{le-suc, min-eq_left, div-eq_of_lt-le}
use lib.Pow.{pow-lt}
use lib.Ieee.{Float, nan, inf, fin, binary32, up, down, fits, lt, to_unsigned}
use lib.Ieee.Exact.{HasValue}
use lib.Ieee.Fits.{down_pos, and_l, and_r}
use lib.Ieee.Nearest.{div_same}
use Rattle.float.specs.Nearest.{half_up, to_nearest, distance, IsNearest}

-- ---- the rule, for a number that is less than a half below a / c, and at most a half above it
module _ (a c n : ℕ) (C : 0 < c) (below : 2 * a < (2 * n + 1) * c) (above : 2 * n * c ≤ 2 * a + c) where
  -- numbers after it are farther, and those before it not nearer
  after : (k : ℕ) → n < k → distance a c n < distance a c k
  after k h = let m : suc n * c ≤ k * c = mul-le-mul_right c h in omega arith

  before : (k : ℕ) → k < n → distance a c n ≤ distance a c k
  before k h = let m : suc k * c ≤ n * c = mul-le-mul_right c h in omega arith

  late : (k : ℕ) → distance a c k ≤ distance a c n → k ≤ n
  late k h = le_of_suc-le-suc (lt_of_not-le (λ (g : suc n ≤ k). omega (arith, after k g)))

  near : (k : ℕ) → distance a c n ≤ distance a c k
  near k =
      le_of_suc-le-suc
      (lt_of_not-le (λ (g : suc (distance a c k) ≤ distance a c n).
      elim (eq-or-lt_of_le (late k (le_of_lt g))) [ inl e ↦ omega (arith, ap (distance a c) e) | inr l ↦ omega (arith, before k l) ]))

  is-nearest : IsNearest a c n
  is-nearest = record { half = omega arith; nearest = λ k. omega (arith, near k); later = λ k h. omega (arith, late k h) }

-- ---- a / c, by what is left over
module _ (a c : ℕ) (C : 0 < c) where
  abbrev whole : ℕ
  whole = a / c

  split : whole * c + a % c ≡ a
  split = div-add-mod' a c

  rest : a % c < c
  rest = mod-lt a C

  by-rest : (X : ℕ → Type 0) → (2 * (a % c) < c → X whole) → (c ≤ 2 * (a % c) → X (suc whole)) → X (half_up a c)
  by-rest X less more = go (ltb (2 * (a % c)) c) refl
    where
      go : (t : Bool) → ltb (2 * (a % c)) c ≡ t → X (cond t whole (suc whole))
      go true e = less (ltb-true (2 * (a % c)) c e)
      go false e = more (ltb-false (2 * (a % c)) c e)

  pub half-up-nearest : IsNearest a c (half_up a c)
  half-up-nearest =
      by-rest (IsNearest a c)
      (λ h. is-nearest a c whole C (omega (arith, split)) (omega (arith, split)))
      (λ h. is-nearest a c (suc whole) C (omega (arith, split, rest)) (omega (arith, split, rest)))

  -- twice a / c, truncated, and half of the number after that
  twice-down : 2 * (a % c) < c → 2 * a / c ≡ 2 * whole
  twice-down h = div-eq_of_lt-le c (omega (arith, split)) (omega (arith, split))

  twice-up : c ≤ 2 * (a % c) → 2 * a / c ≡ 2 * whole + 1
  twice-up h = div-eq_of_lt-le c (omega (arith, split)) (omega (arith, split, rest))

  pub of-halves : (2 * a / c + 1) / 2 ≡ half_up a c
  of-halves =
      by-rest (λ (n : ℕ). (2 * a / c + 1) / 2 ≡ n)
      (λ h. omega (arith, twice-down h))
      (λ h. omega (arith, twice-up h))

-- the rule tells it apart from every other
pub nearest-one : (a c n k : ℕ) → IsNearest a c n → IsNearest a c k → n ≡ k
nearest-one a c n k p q = omega (arith, q.later n (p.nearest k), p.later k (q.nearest n))

-- equal fractions, and a whole number
half-same : (a c b d : ℕ) → 0 < c → 0 < d → a * d ≡ b * c → half_up a c ≡ half_up b d
half-same a c b d C D e =
    sym (of-halves a c C) ∙ ap (λ (z : ℕ). (z + 1) / 2) (div_same (2 * a) c (2 * b) d C D (omega arith)) ∙ of-halves b d D

half-whole : (n : ℕ) → half_up n 1 ≡ n
half-whole n = by-rest n 1 (zero-lt-suc 0) (λ (k : ℕ). k ≡ n) (λ h. div-one n) (λ h. absurd (omega arith))

half_le : (a c : ℕ) → 0 < c → half_up a c ≤ suc (a / c)
half_le a c C = by-rest a c C (λ (k : ℕ). k ≤ suc (a / c)) (λ h. le-suc (a / c)) (λ h. le_refl (suc (a / c)))

-- ---- floats of the size a / c
module _ (w : ℕ) where
  abbrev held : Bool → ℕ → ℕ
  held s n = cond s 0 (min n (2 ^ w - 1))

  pub nearest-value : (x : Float) (s : Bool) (a c : ℕ) → 0 < c → HasValue x s a c → to_nearest w x ≡ held s (half_up a c)
  unfolding to_nearest
  nearest-value nan s a c C h = absurd h
  nearest-value (inf t) s a c C h = absurd h
  nearest-value (fin t m e) s a c C h = ap (held t) (half-same (m * up e) (down e) a c (down_pos e) C h.1) ∙ ap (λ (b : Bool). held b (half_up a c)) h.0

  pub unsigned-value : (x : Float) (s : Bool) (a c : ℕ) → 0 < c → HasValue x s a c → to_unsigned w x ≡ held s (a / c)
  unfolding to_unsigned
  unsigned-value nan s a c C h = absurd h
  unsigned-value (inf t) s a c C h = absurd h
  unsigned-value (fin t m e) s a c C h = ap (held t) (div_same (m * up e) (down e) a c (down_pos e) C h.1) ∙ ap (λ (b : Bool). held b (a / c)) h.0

  -- it is the nearest, where w bits hold it
  pub to-nearest : (x : Float) (a c : ℕ) → 0 < c → HasValue x false a c → a < (2 ^ w - 1) * c → IsNearest a c (to_nearest w x)
  to-nearest x a c C h l =
      let few : half_up a c ≤ 2 ^ w - 1 = le_trans (half_le a c C) ((div-lt_iff_lt-mul C).1 l) in
      subst (IsNearest a c) (sym (nearest-value x false a c C h ∙ min-eq_left few)) (half-up-nearest a c C)

  -- below zero it is 0, for minus infinity too
  pub below-zero : (x : Float) → T (lt x (fin false 0 (pos 0))) → to_nearest w x ≡ 0
  unfolding lt to_nearest
  below-zero nan t = absurd t
  below-zero (inf true) t = refl
  below-zero (inf false) t = absurd t
  below-zero (fin true m e) t = refl
  below-zero (fin false m e) t = absurd (omega (arith, ltb→lt (m * up e * 1) (0 * 1 * down e) t))

  -- a whole number stays as it is
  pub whole-stays : (x : Float) (s : Bool) (n : ℕ) → HasValue x s n 1 → to_unsigned w x ≡ to_nearest w x
  whole-stays x s n h =
      unsigned-value x s n 1 (zero-lt-suc 0) h ∙ ap (held s) (div-one n ∙ sym (half-whole n)) ∙ sym (nearest-value x s n 1 (zero-lt-suc 0) h)

-- ---- an f32: its digits are below 2 ^ 24, so from 2 ^ 23 on it has no fraction
pub record Parts (m : ℕ) (e : ℤ) : Type 0 where
  pub digits : m < 2 ^ 24
  pub fine : down e ≤ 2 ^ 149
  pub small : m * up e < 2 ^ 128 * down e

pub parts : (s : Bool) (m : ℕ) (e : ℤ) → T (fits binary32 (fin s m e)) → Parts m e
unfolding fits
parts s zero (pos k) t = record { digits = lit< tt; fine = lit≤ tt; small = rw (zero-mul (2 ^ k)) (lit< tt) }
parts s zero (negsuc k) t = absurd (omega (arith, eqb→eq (1 * 2 ^ suc k) 1 t, pow-lt {i = 0} (zero-lt-suc k)))
parts s (suc m) e t =
    let a : Bool = eqb (suc m % 2) 1 in
    let b : Bool = ltb (suc m) (2 ^ 24) in
    let c : Bool = leb (down e) (2 ^ 149) in
    let d : Bool = ltb (suc m * up e) (2 ^ 128 * down e) in
    record {
      digits = ltb→lt (suc m) (2 ^ 24) (and_r a b (and_l (a && b) c (and_l (a && b && c) d t)));
      fine = leb→le (down e) (2 ^ 149) (and_r (a && b) c (and_l (a && b && c) d t));
      small = ltb→lt (suc m * up e) (2 ^ 128 * down e) (and_r (a && b && c) d t);
    }

pub with-fraction : (m k : ℕ) → m < 2 ^ 24 → m * 1 / 2 ^ suc k < 2 ^ 23
with-fraction m k h = shr_lt 23 (suc k) (lt_of_lt_of_le (omega arith) (pow_mono {i = 24} {j = 23 + suc k} (omega arith)))

-- ---- a limit n, from 2 ^ 23 on: an f32 is above it before rounding just where it is after
module _ (w n : ℕ) (N : 2 ^ 23 ≤ n) (W : n < 2 ^ w - 1) where
  -- a / c, which is rounded to h, is above it or not
  alike : (a c h : ℕ) → (n < h → n * c < a) → (h ≤ n → a ≤ n * c) → ltb n (min h (2 ^ w - 1)) ≡ ltb (n * 1 * c) (a * 1)
  alike a c h f g = go (ltb n h) refl
    where
      go : (t : Bool) → ltb n h ≡ t → ltb n (min h (2 ^ w - 1)) ≡ ltb (n * 1 * c) (a * 1)
      go true e =
          let l : n < h = ltb-true n h e in
          let m : n * c < a = f l in
          lt-ltb n (min h (2 ^ w - 1)) (omega arith) ∙ sym (lt-ltb (n * 1 * c) (a * 1) (omega arith))
      go false e =
          let l : h ≤ n = ltb-false n h e in
          let m : a ≤ n * c = g l in
          le-ltb n (min h (2 ^ w - 1)) (omega arith) ∙ sym (le-ltb (n * 1 * c) (a * 1) (omega arith))

  -- with a fraction it is below 2 ^ 23
  fraction : (m k : ℕ) → m < 2 ^ 24 → (half_up (m * 1) (2 ^ suc k) ≤ n) × (m * 1 ≤ n * 2 ^ suc k)
  fraction m k h =
      let few : m * 1 / 2 ^ suc k < 2 ^ 23 = with-fraction m k h in
      let two : 2 ^ 1 ≤ 2 ^ suc k = pow_mono {i = 1} (omega arith) in
      let room : 2 ^ 23 * 2 ^ 1 ≤ n * 2 ^ suc k = mul-le-mul N two in
      (omega (arith, half_le (m * 1) (2 ^ suc k) (pow_pos (suc k))), omega arith)

  pub limit-alike : (x : Float) → T (fits binary32 x) → ltb n (to_nearest w x) ≡ lt (fin false n (pos 0)) x
  unfolding to_nearest lt
  limit-alike nan f = le-ltb n 0 (omega arith)
  limit-alike (inf true) f = le-ltb n 0 (omega arith)
  limit-alike (inf false) f = lt-ltb n (2 ^ w - 1) W
  limit-alike (fin true m e) f = le-ltb n 0 (omega arith)
  limit-alike (fin false m (pos k)) f =
      let h = half-whole (m * 2 ^ k) in
      alike (m * 2 ^ k) 1 (half_up (m * 2 ^ k) 1) (λ l. omega arith) (λ l. omega arith)
  limit-alike (fin false m (negsuc k)) f =
      let few = fraction m k (parts false m (negsuc k) f).digits in
      alike (m * 1) (2 ^ suc k) (half_up (m * 1) (2 ^ suc k)) (λ l. absurd (omega (arith, few.0))) (λ l. few.1)

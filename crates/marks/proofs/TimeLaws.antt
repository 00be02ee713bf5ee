-- Times in f64 that do not fall: one period later is not earlier, and its mark is not lower.
use Rattle.std.proofs.Common.{◌≡◌, ℕ, zero, suc, ◌+◌, ◌-◌, ◌*◌, ◌/◌, ◌%◌, ◌^◌, ◌<◌, ◌≤◌, Bool, true, false, cond, ◌&&◌, ◌||◌, T, eqb, ltb, leb, ℤ, pos, negsuc, sym, refl, ap, ◌∙◌, subst, true≢false, le_of_eq, le_refl, le_of_lt, mul-le-mul_right, mul_assoc, mul_comm, mul-le-mul_left, mul-lt-mul_of_pos_right, mul-pos, zero-mul, mul-one, not-le_of_lt, arith, ltb→lt, leb→le, pow_pos, pow-add, ltb-true, ne_eqb, eqb-true}
use native.Mathlib.Nat.{mul-mul-mul_comm}
use lib.Pow.{pow-lt}
use lib.Ieee.{Float, nan, inf, fin, Format, binary64, prec, emax, low, up, down, add, mul, div, lt, le, fits, size, round, units, odd, of_bits, to_unsigned}
use lib.Ieee.Bits.{of_bits-to_bits}
use lib.Ieee.Casts.{to_unsigned-lt}
use lib.Ieee.Exact.{HasValue, round_exact}
use lib.Ieee.Fits.{core, round_is, down_pos, round-fits}
use lib.Ieee.Nearest.{div_mono}
use lib.Ieee.Order.{round_mono}
use Rattle.base.proofs.CaseLaws.{by_order}
use Rattle.float.proofs.Value.{bits_of}

-- a time that f64 holds: not below 0, and no NaN
pub data Time : Float → Type 0 where
  at : {m : ℕ} {e : ℤ} → T (fits binary64 (fin false m e)) → Time (fin false m e)
  never : Time (inf false)

-- ---- a rounded fraction is one

units-time : (q k : ℕ) → T (fits binary64 (units binary64 false q k)) → Time (units binary64 false q k)
unfolding units odd
units-time q k h = by (ltb (q * 2 ^ k) (2 ^ 2098)) q h
  where
    by : (b : Bool) (q : ℕ) → T (fits binary64 (cond b (odd 54 false q k 1074) (inf false))) → Time (cond b (odd 54 false q k 1074) (inf false))
    by true zero h = at h
    by true (suc q) h = at h
    by false q h = never

pub round-time : (a c : ℕ) → Time (round binary64 false a c)
round-time a c = subst Time (sym e) (units-time _ _ (subst (λ (x : Float). T (fits binary64 x)) e (round-fits binary64 false a c)))
  where
    e : round binary64 false a c ≡ core binary64 false (a * 2 ^ 1074) c (size (a * 2 ^ 1074 / c) - 53)
    e = round_is binary64 false a c

-- ---- rounding a time changes nothing

-- two values of one format that are the same number are equal
same-value : (f : Format) (v w : Float) (s : Bool) (a c : ℕ) → 0 < c → T (fits f v) → T (fits f w) → HasValue v s a c → HasValue w s a c → v ≡ w
same-value f v w s a c C p q h k =
    sym (of_bits-to_bits f v p) ∙ ap (of_bits f) (bits_of f v s a c C h ∙ sym (bits_of f w s a c C k)) ∙ of_bits-to_bits f w q

split : (i n : ℕ) → i ≤ n → n - i + i ≡ n
split i n h = omega arith

pow_below : (i n : ℕ) → 2 ^ i ≤ 2 ^ n → i ≤ n
pow_below i n h = by_order n i (λ l. absurd (not-le_of_lt (pow-lt l) h)) (λ l. l)

module _ (f : Format) (m : ℕ) (small : m < 2 ^ prec f) where
  exact : (e : ℤ) → down e ≤ 2 ^ low f → m * up e < 2 ^ suc (emax f) * down e → HasValue (round f false (m * up e) (down e)) false (m * up e) (down e)
  exact (pos k) d h =
      let p : m * 2 ^ (k + low f) ≡ m * 2 ^ k * 2 ^ low f = ap (λ (n : ℕ). m * n) (pow-add 2 k (low f)) ∙ sym (mul_assoc m (2 ^ k) (2 ^ low f)) in
      let l : m * 2 ^ k < 2 ^ suc (emax f) = rw mul-one at h in
      let g : m * 2 ^ k * 2 ^ low f < 2 ^ suc (emax f) * 2 ^ low f = mul-lt-mul_of_pos_right l (pow_pos (low f)) in
      let t : 2 ^ suc (emax f) * 2 ^ low f ≡ 2 ^ (low f + suc (emax f)) = mul_comm (2 ^ suc (emax f)) (2 ^ low f) ∙ sym (pow-add 2 (low f) (suc (emax f))) in
      round_exact f false (m * 2 ^ k) 1 m (k + low f) (pow_pos 0) small
      (subst (λ (n : ℕ). n < 2 ^ (low f + suc (emax f))) (sym p) (subst (λ (n : ℕ). m * 2 ^ k * 2 ^ low f < n) t g))
      (sym p ∙ sym (mul-one (m * 2 ^ (k + low f))))
  exact (negsuc k) d h =
      let j = low f - suc k in
      let p : 2 ^ j * 2 ^ suc k ≡ 2 ^ low f = sym (pow-add 2 j (suc k)) ∙ ap (λ (i : ℕ). 2 ^ i) (split (suc k) (low f) (pow_below (suc k) (low f) d)) in
      let l : m < 2 ^ suc (emax f) * 2 ^ suc k = rw mul-one at h in
      let g : m * 2 ^ j < 2 ^ suc (emax f) * 2 ^ suc k * 2 ^ j = mul-lt-mul_of_pos_right l (pow_pos j) in
      let t : 2 ^ suc (emax f) * 2 ^ suc k * 2 ^ j ≡ 2 ^ (low f + suc (emax f)) =
      mul_assoc (2 ^ suc (emax f)) (2 ^ suc k) (2 ^ j) ∙ ap (λ (n : ℕ). 2 ^ suc (emax f) * n) (mul_comm (2 ^ suc k) (2 ^ j) ∙ p) ∙ mul_comm (2 ^ suc (emax f)) (2 ^ low f) ∙ sym (pow-add 2 (low f) (suc (emax f))) in
      round_exact f false (m * 1) (2 ^ suc k) m j (pow_pos (suc k)) small
      (subst (λ (n : ℕ). m * 2 ^ j < n) t g)
      (ap (λ (n : ℕ). m * 1 * n) (sym p) ∙ ap (λ (n : ℕ). n * (2 ^ j * 2 ^ suc k)) (mul-one m) ∙ sym (mul_assoc m (2 ^ j) (2 ^ suc k)))

exact-zero : (f : Format) (e : ℤ) → HasValue (round f false (0 * up e) (down e)) false (0 * up e) (down e)
exact-zero f e =
    let z : 0 * up e * 2 ^ low f ≡ 0 * 2 ^ 0 * down e = simp zero-mul in
    round_exact f false (0 * up e) (down e) 0 0 (down_pos e) (pow_pos (prec f)) (pow_pos (low f + suc (emax f))) z

last-three : (a b c d : Bool) → T (a && b && c && d) → T b × T c × T d
last-three true true true d h = (tt, tt, h)
last-three true true false d h = absurd h
last-three true false c d h = absurd h
last-three false b c d h = absurd h

exact-fits : (f : Format) (m : ℕ) (e : ℤ) → T (fits f (fin false m e)) → HasValue (round f false (m * up e) (down e)) false (m * up e) (down e)
unfolding fits
exact-fits f zero e h = exact-zero f e
exact-fits f (suc m) e h =
    let t = last-three (eqb (suc m % 2) 1) (ltb (suc m) (2 ^ prec f)) (leb (down e) (2 ^ low f)) (ltb (suc m * up e) (2 ^ suc (emax f) * down e)) h in
    exact f (suc m) (ltb→lt (suc m) (2 ^ prec f) t.0) e (leb→le (down e) (2 ^ low f) t.1) (ltb→lt (suc m * up e) (2 ^ suc (emax f) * down e) t.2)

round_keeps : (f : Format) (m : ℕ) (e : ℤ) → T (fits f (fin false m e)) → round f false (m * up e) (down e) ≡ fin false m e
round_keeps f m e h =
    same-value f (round f false (m * up e) (down e)) (fin false m e) false (m * up e) (down e) (down_pos e) (round-fits f false (m * up e) (down e)) h (exact-fits f m e h) (refl, refl)

-- ---- the order of times

some-le : (a b : ℕ) (c : Bool) → T (ltb a b || (eqb a b && c)) → a ≤ b
some-le a b c h = by (ltb a b) (eqb a b) refl refl h
  where
    by : (t u : Bool) → ltb a b ≡ t → eqb a b ≡ u → T (t || (u && c)) → a ≤ b
    by true u e f h = le_of_lt (ltb-true a b e)
    by false true e f h = le_of_eq (eqb-true a b f)
    by false false e f h = absurd h

-- of two finite times
le-cross : (m : ℕ) (e : ℤ) (n : ℕ) (d : ℤ) → T (le (fin false m e) (fin false n d)) → m * up e * down d ≤ n * up d * down e
unfolding le
le-cross m e n d h = some-le (m * up e * down d) (n * up d * down e) true h

-- no finite time is after the last
past_all : (n : ℕ) (d : ℤ) → T (le (inf false) (fin false n d)) → ⊥
unfolding le
past_all n d h = h

pub unsigned-mono : {x y : Float} → Time x → Time y → T (le x y) → to_unsigned 64 x ≤ to_unsigned 64 y
unfolding to_unsigned
unsigned-mono never never h = le_refl _
unsigned-mono never (at {m = n} {e = d} g) h = absurd (past_all n d h)
unsigned-mono (at {m = m} {e = e} f) never h = omega (arith, to_unsigned-lt 64 (fin false m e))
unsigned-mono (at {m = m} {e = e} f) (at {m = n} {e = d} g) h = omega (arith, div_mono (m * up e) (down e) (n * up d) (down d) (down_pos e) (down_pos d) (le-cross m e n d h))

-- ---- one period later

-- 1 / f0, for an f0 above 0
pub period-time : (f0 : Float) → lt (fin false 0 (pos 0)) f0 ≡ true → Time (div binary64 (fin false 1 (pos 0)) f0)
unfolding lt div fits
period-time nan h = absurd (true≢false (sym h))
period-time (inf true) h = absurd (true≢false (sym h))
period-time (inf false) h = at tt
period-time (fin true m e) h = absurd (true≢false (sym h))
period-time (fin false m e) h = by (eqb m 0)
  where
    by : (b : Bool) → Time (cond b (inf false) (round binary64 false (1 * 1 * down e) (m * up e * 1)))
    by true = never
    by false = round-time (1 * 1 * down e) (m * up e * 1)

sum-after : (x y d e : ℕ) → x * (e * d) ≤ (x * d + y) * e
sum-after x y d e =
    let a : x * (e * d) ≡ x * d * e = ap (λ (n : ℕ). x * n) (mul_comm e d) ∙ sym (mul_assoc x d e) in
    rw a (mul-le-mul_right e (omega arith))

pub later-time : {t y : Float} → Time t → Time y → Time (add binary64 t y) × T (le t (add binary64 t y))
unfolding add le
later-time never never = (never, tt)
later-time never (at g) = (never, tt)
later-time (at f) never = (never, tt)
later-time (at {m = m} {e = e} f) (at {m = n} {e = d} g) =
    let a = m * up e * down d + n * up d * down e in
    let c = down e * down d in (
      round-time a c,
      subst (λ (x : Float). T (le x (round binary64 false a c))) (round_keeps binary64 m e f)
          (round_mono binary64 (m * up e) (down e) a c (down_pos e) (mul-pos (down_pos e) (down_pos d)) (sum-after (m * up e) (n * up d * down e) (down d) (down e))),
    )

-- ---- the mark at a later time

scaled : (r g x y d e : ℕ) → x * d ≤ y * e → r * x * (g * d) ≤ r * y * (g * e)
scaled r g x y d e h =
    let a : (k z : ℕ) → r * z * (g * k) ≡ r * g * (z * k) = λ k z. mul-mul-mul_comm r z g k in
    rw (a d x, a e y) (mul-le-mul_left (r * g) h)

above-all : (x : Float) → to_unsigned 64 x ≤ to_unsigned 64 (inf false)
above-all x = let h = to_unsigned-lt 64 x in unfold to_unsigned in omega arith

-- a rate that is not 0
some-rate : (r : ℕ) (k : ℤ) (n : ℕ) → r * up k * 1 ≡ n * down k → 0 < n → r ≡ 0 → ⊥
some-rate r k n v p z =
    let q : r * up k ≡ 0 = rw (z, zero-mul) in
    let h = mul-pos p (down_pos k) in
    omega arith

endless : (r : ℕ) (k : ℤ) → (r ≡ 0 → ⊥) → mul binary64 (fin false r k) (inf false) ≡ inf false
unfolding mul
endless r k h = rw (ne_eqb r 0 h)

finite-marks : (r : ℕ) (k : ℤ) (m : ℕ) (e : ℤ) (i : ℕ) (d : ℤ) → T (le (fin false m e) (fin false i d)) → to_unsigned 64 (mul binary64 (fin false r k) (fin false m e)) ≤ to_unsigned 64 (mul binary64 (fin false r k) (fin false i d))
unfolding mul
finite-marks r k m e i d h =
    unsigned-mono (round-time (r * up k * (m * up e)) (down k * down e)) (round-time (r * up k * (i * up d)) (down k * down d))
    (round_mono binary64 (r * up k * (m * up e)) (down k * down e) (r * up k * (i * up d)) (down k * down d) (mul-pos (down_pos k) (down_pos e)) (mul-pos (down_pos k) (down_pos d))
    (scaled (r * up k) (down k) (m * up e) (i * up d) (down d) (down e) (le-cross m e i d h)))

-- at a rate of n samples per second
pub mark-mono : (rate : Float) (n : ℕ) → HasValue rate false n 1 → 0 < n → {t u : Float} → Time t → Time u → T (le t u)
    → to_unsigned 64 (mul binary64 rate t) ≤ to_unsigned 64 (mul binary64 rate u)
mark-mono nan n v p f g h = absurd v
mark-mono (inf s) n v p f g h = absurd v
mark-mono (fin true r k) n v p f g h = absurd (true≢false v.0)
mark-mono (fin false r k) n v p never never h = le_refl _
mark-mono (fin false r k) n v p never (at {m = i} {e = d} g) h = absurd (past_all i d h)
mark-mono (fin false r k) n v p (at {m = m} {e = e} f) never h = rw (endless r k (some-rate r k n v.1 p)) (above-all (mul binary64 (fin false r k) (fin false m e)))
mark-mono (fin false r k) n v p (at {m = m} {e = e} f) (at {m = i} {e = d} g) h = finite-marks r k m e i d h

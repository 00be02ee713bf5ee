-- Why `f32_to_nearest` gives `to_nearest`: a large f32 is a whole number, and twice a smaller one is exact in f64. Assumes nothing.
use Rattle.std.proofs.Common.{◌≡◌, ℕ, suc, ◌+◌, ◌-◌, ◌*◌, ◌/◌, ◌^◌, ◌<◌, ◌≤◌, true, false, not, T, ℤ, pos, negsuc, sym, refl, ap, ◌∙◌, subst, le_trans, lt_of_lt_of_le, le_of_lt, zero-lt-suc, mul_assoc, mul_comm, div-lt_iff_lt-mul, mul-pos, one-mul, pow-suc, lt_of_not-le, mul-one, mul_right_comm, not-le_of_lt, arith, lit<, lit≤, pow_pos, pow_mono, pow-add, shl_lt}
use native.Mathlib.Nat.{min-eq_left}
use lib.Ieee.{Float, nan, inf, fin, binary32, binary64, up, down, fits, le, mul, round, to_unsigned}
use lib.Ieee.Exact.{HasValue, round_exact}
use lib.Ieee.Fits.{down_pos}
use Rattle.float.proofs.Sign.{signed, round-signed}
use Rattle.float.proofs.Integers.{from_le, from-nle, not-le}
use Rattle.float.specs.Nearest.{half_up, to_nearest}
use Rattle.float.proofs.NearestLaws.{of-halves, nearest-value, unsigned-value, whole-stays, Parts, parts, with-fraction}

-- ---- from 2 ^ 23 on it is truncated
whole_from : (m : ℕ) (e : ℤ) → Parts m e → 2 ^ 23 ≤ m * up e / down e → HasValue (fin false m e) false (m * up e) 1
whole_from m (pos k) p h = (refl, refl)
whole_from m (negsuc k) p h = absurd (omega (arith, with-fraction m k p.digits))

pub by_whole : (w : ℕ) (x : Float) → T (fits binary32 x) → T (le (fin false 1 (pos 23)) x) → to_unsigned w x ≡ to_nearest w x
by_whole w nan f t = unfold le in absurd t
by_whole w (inf true) f t = unfold le in absurd t
by_whole w (inf false) f t = unfold to_unsigned in unfold to_nearest in refl
by_whole w (fin true m e) f t = absurd (not-le 23 m e t)
by_whole w (fin false m e) f t = whole-stays w (fin false m e) false (m * up e) (whole_from m e (parts false m e f) (from_le 23 m e t))

-- ---- twice an f32, which an f64 has exactly
twice : (a l : ℕ) → 2 * a * 2 ^ l ≡ a * 2 ^ suc l
twice a l = mul_right_comm 2 a (2 ^ l) ∙ mul_comm (2 * 2 ^ l) a ∙ ap (λ (z : ℕ). a * z) (mul_comm 2 (2 ^ l) ∙ sym (pow-suc 2 l))

scaled-up : (m k l : ℕ) → 2 * (m * 2 ^ k) * 2 ^ l ≡ m * 2 ^ (k + suc l) * 1
scaled-up m k l = twice (m * 2 ^ k) l ∙ mul_assoc m (2 ^ k) (2 ^ suc l) ∙ ap (λ (z : ℕ). m * z) (sym (pow-add 2 k (suc l))) ∙ sym (mul-one _)

scaled-down : (m j i l : ℕ) → j + i ≡ suc l → 2 * (m * 1) * 2 ^ l ≡ m * 2 ^ j * (1 * 2 ^ i)
scaled-down m j i l e = twice (m * 1) l ∙ ap (λ (z : ℕ). m * 1 * 2 ^ z) (sym e) ∙ rw (pow-add 2 j i, mul-one m, one-mul (2 ^ i)) (sym (mul_assoc m (2 ^ j) (2 ^ i)))

bounded : (a j k l : ℕ) → a * 2 ^ k < 2 ^ j → a * 2 ^ (k + l) < 2 ^ (j + l)
bounded a j k l h = subst (λ (z : ℕ). z < 2 ^ (j + l)) (mul_assoc a (2 ^ k) (2 ^ l) ∙ ap (λ (z : ℕ). a * z) (sym (pow-add 2 k l))) (shl_lt j l h)

doubled : (m : ℕ) (e : ℤ) → Parts m e → HasValue (mul binary64 (fin false 1 (pos 1)) (fin false m e)) false (1 * 2 ^ 1 * (m * up e)) (1 * down e)
unfolding mul
doubled m (pos k) p =
    round_exact binary64 false (1 * 2 ^ 1 * (m * 2 ^ k)) (1 * 1) m (k + 1075) (lit< tt) (lt_of_lt_of_le p.digits (lit≤ tt))
    (lt_of_lt_of_le (bounded m 128 k 1075 p.small) (lit≤ tt))
    (scaled-up m k 1074)
doubled m (negsuc k) p =
    let few : suc k < 150 = lt_of_not-le (λ (h : 150 ≤ suc k). not-le_of_lt (lit< tt) (le_trans (pow_mono h) p.fine)) in
    round_exact binary64 false (1 * 2 ^ 1 * (m * 1)) (1 * 2 ^ suc k) m (1075 - suc k) (mul-pos (zero-lt-suc 0) (pow_pos (suc k))) (lt_of_lt_of_le p.digits (lit≤ tt))
    (lt_of_lt_of_le (shl_lt 24 (1075 - suc k) p.digits) (pow_mono {j = 2098} (omega arith)))
    (scaled-down m (1075 - suc k) (suc k) 1074 (omega arith))

abbrev pub halves : Float → ℕ
halves x = to_unsigned 64 (mul binary64 (fin false 1 (pos 1)) x)

-- how many halves there are fits, and the nearest follows from them
abbrev pub Halved : Float → Type 0
Halved x = (halves x < 2 ^ 24) × ((halves x + 1) / 2 ≡ to_nearest 64 x)

negative : (x : Float) → to_unsigned 64 (signed true x) ≡ 0
unfolding to_unsigned
negative nan = refl
negative (inf s) = refl
negative (fin s m e) = refl

halves-below : (m : ℕ) (e : ℤ) → Halved (fin true m e)
unfolding mul to_nearest
halves-below m e =
    let none : halves (fin true m e) ≡ 0 = ap (to_unsigned 64) (round-signed true false binary64 (1 * 2 ^ 1 * (m * up e)) (1 * down e)) ∙ negative (round binary64 false (1 * 2 ^ 1 * (m * up e)) (1 * down e)) in
    (rw none (lit< tt), rw none refl)

halves-above : (m : ℕ) (e : ℤ) → Parts m e → m * up e * 1 < 1 * 2 ^ 23 * down e → Halved (fin false m e)
halves-above m e p h =
    let a = m * up e in
    let c = down e in
    let C : 0 < c = down_pos e in
    let l : 2 * a / c < 2 ^ 24 = (div-lt_iff_lt-mul C).1 (omega arith) in
    let n : halves (fin false m e) ≡ 2 * a / c = unsigned-value 64 _ false (1 * 2 ^ 1 * a) (1 * c) (rw (one-mul c) C) (doubled m e p) ∙ rw (one-mul c) (min-eq_left (le_trans (le_of_lt l) (lit≤ tt))) in
    let few : half_up a c ≤ 2 ^ 64 - 1 = omega (arith, of-halves a c C) in
    (rw n l, rw n (of-halves a c C ∙ sym (nearest-value 64 (fin false m e) false a c C (refl, refl) ∙ min-eq_left few)))

pub by-halves : (x : Float) → T (fits binary32 x) → T (not (le (fin false 1 (pos 23)) x)) → Halved x
by-halves nan f t = unfold mul in unfold to_unsigned in unfold to_nearest in (lit< tt, refl)
by-halves (inf true) f t = unfold mul in unfold to_unsigned in unfold to_nearest in (lit< tt, refl)
by-halves (inf false) f t = unfold le in absurd t
by-halves (fin true m e) f t = halves-below m e
by-halves (fin false m e) f t = halves-above m e (parts false m e f) (from-nle 23 m e t)

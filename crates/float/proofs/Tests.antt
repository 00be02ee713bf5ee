-- What a test on a float or on its pattern tells. Assumes nothing.
use Rattle.std.proofs.Common.{◌≡◌, ℕ, ◌*◌, ◌%◌, ◌≤◌, Bool, true, false, not, T, sym, refl, ap, ◌∙◌, subst, true≢false, nltb→le, le-ltb}
use lib.Ieee.{Float, nan, inf, fin, Format, binary32, hid, ones, top, fits, is_nan, nan_bits, of_bits, to_bits, ne, div}
use lib.Ieee.Bits.{of_bits-to_bits, nan_bits_is, nan_bits_above}
use lib.Ieee.Compare.{differs_from_itself}

pub yes : {b : Bool} → b ≡ true → T b
yes h = subst T (sym h) tt

pub no : {b : Bool} → b ≡ false → T (not b)
no h = subst (λ (a : Bool). T (not a)) (sym h) tt

-- ---- `x != x`
pub is-nan : (x : Float) → ne x x ≡ true → x ≡ nan
is-nan x h = differs_from_itself x (yes h)

pub is_number : (x : Float) → ne x x ≡ false → T (not (is_nan x))
unfolding ne is_nan
is_number nan h = absurd (true≢false h)
is_number (inf s) h = tt
is_number (fin s m e) h = tt

-- `0.0 / 0.0`
pub the_nan : div binary32 (of_bits binary32 0) (of_bits binary32 0) ≡ nan
unfolding div of_bits
the_nan = refl

-- ---- patterns: a NaN's, without the sign's bit, is above the infinity's
pub no-nan-bits : (f : Format) (n : ℕ) → n % top f ≤ ones f * hid f → T (not (nan_bits f n))
no-nan-bits f n h = rw (nan_bits_above f n, le-ltb (ones f * hid f) (n % top f) h) tt

pub number-bits : (f : Format) (x : Float) → T (fits f x) → T (not (is_nan x)) → to_bits f x % top f ≤ ones f * hid f
number-bits f x F N = nltb→le (ones f * hid f) (to_bits f x % top f) (subst (λ (b : Bool). T (not b)) (ap is_nan (sym (of_bits-to_bits f x F)) ∙ sym (nan_bits_is f (to_bits f x)) ∙ nan_bits_above f (to_bits f x)) N)

pub nan-bits : (n : ℕ) → T (nan_bits binary32 n) → of_bits binary32 n ≡ nan
nan-bits n t = go (of_bits binary32 n) (rw nan_bits_is at t)
  where
    go : (x : Float) → T (is_nan x) → x ≡ nan
    go nan u = refl
    go (inf s) u = unfold is_nan in absurd u
    go (fin s m e) u = unfold is_nan in absurd u

-- What comes back for a sample is what comes back for its magnitude, with its sign.
use mathlib.Core.Path.{◌≡◌, refl, ap, ◌∙◌}
use mathlib.Core.Bool.{Bool, true, false}
use Prim.Native.Nat.{ℕ, ◌+◌, ◌-◌, ◌*◌, ◌%◌, ◌≤◌}
use native.Mathlib.Omega.{arith}
use borrow.Author.Tests.{lt-ltb, le-ltb}
use lib.Dec.{ltb}
use lib.IntN.{ℤ, pos, negsuc, neg_ℤ, nat_abs}
use lib.Signed.{lt_z}
use Rattle.base.specs.Choice.{pick}
use Rattle.ulaw.specs.Ulaw.{quantised_value, last_interval, ulaw_of, sample_of}
use Rattle.accuracy.specs.Claims.{Coded, with_sign_of}
use Rattle.accuracy.proofs.Rounding.{back}
use Rattle.accuracy.proofs.Magnitudes.{interval-most}

-- sign and interval m in the byte, whose bits are inverted
inverted : (t : Bool) (m : ℕ) → m ≤ 127 → 255 - (255 - (pick t 128 0 + m)) ≡ pick t 128 0 + m
inverted true m h = omega arith
inverted false m h = omega arith

pub code_of : (x : ℤ) → 255 - ulaw_of x ≡ pick (lt_z x (pos 0)) 128 0 + last_interval 127 (nat_abs x)
unfolding ulaw_of
code_of x = inverted (lt_z x (pos 0)) _ (interval-most (nat_abs x))

-- .. and what they stand for
signed : (t : Bool) (m : ℕ) → m ≤ 127 → (f : ℕ → ℕ)
    → pick (ltb (pick t 128 0 + m) 128) (pos (f ((pick t 128 0 + m) % 128))) (neg_ℤ (pos (f ((pick t 128 0 + m) % 128))))
    ≡ pick t (neg_ℤ (pos (f m))) (pos (f m))
signed true m h f = let e : (128 + m) % 128 ≡ m = omega arith in rw (le-ltb (128 + m) 128 (omega arith), e)
signed false m h f = let e : (0 + m) % 128 ≡ m = omega arith in rw (lt-ltb (0 + m) 128 (omega arith), e)

sign_of : (x : ℤ) (n : ℕ) → pick (lt_z x (pos 0)) (neg_ℤ (pos n)) (pos n) ≡ with_sign_of x n
sign_of (pos k) n = rw (le-ltb k 0 (omega arith))
sign_of (negsuc k) n = refl

abbrev pub returned : ℤ → ℤ
returned x = with_sign_of x (back (nat_abs x))

there_and_back : (x : ℤ) → sample_of (ulaw_of x) ≡ returned x
unfolding sample_of
there_and_back x =
    rw (code_of x) (signed (lt_z x (pos 0)) _ (interval-most (nat_abs x)) (λ (m : ℕ). 4 * quantised_value m) ∙ sign_of x (back (nat_abs x)))

pub result-of : (x : ℤ) (c : Coded x) → c.result ≡ returned x
result-of x c = c.decoded ∙ ap sample_of c.encoded ∙ there_and_back x

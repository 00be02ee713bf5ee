-- Tallies joined one after the other, and their bounds.
use mathlib.Core.Path.{◌≡◌, refl, ◌∙◌}
use mathlib.Core.Bool.{Bool, true, false, not}
use mir.Val.{bool_byte}
use Prim.Native.Nat.{ℕ, zero, suc, ◌+◌, ◌*◌, ◌≤◌, ◌<◌}
use native.Mathlib.Omega.{arith}
use native.Mathlib.Nat.{mul-suc}
use native.Mathlib.Numerals.{add-one}
use lib.Dec.{eqb}
use Rattle.base.specs.Choice.{pick}
use Rattle.vectors.specs.declared.Tally.{Tally}
use Rattle.vectors.specs.Tallies.{one, joined, all_of, Within}

-- ---- bounds

pub one-within : (same : Bool) → Within (one same) 1
unfolding one
one-within true = record { compared = omega arith; wrong = omega arith; first = omega arith }
one-within false = record { compared = omega arith; wrong = omega arith; first = omega arith }

-- one comparison, by its numbers
pub one_is : (same : Bool) {w f : ℕ} → w ≡ bool_byte (not same) → f ≡ bool_byte same → record { compared = 1; wrong = w; first = f } ≡ one same
unfolding one
one_is true e g = rw (e, g) refl
one_is false e g = rw (e, g) refl

pub wider : {t : Tally} (m n : ℕ) → m ≤ n → Within t m → Within t n
wider m n h w = record { compared = omega arith; wrong = omega arith; first = omega arith }

pub joined-within : (s t : Tally) (m n : ℕ) → Within s m → Within t n → Within (joined s t) (m + n)
unfolding joined
joined-within s t m n v w = record { compared = omega arith; wrong = omega arith; first = go (eqb s.wrong 0) }
  where
    go : (b : Bool) → pick b (s.compared + t.first) s.first ≤ m + n
    go true = omega arith
    go false = omega arith

pub none_within : {t : Tally} → (t.compared ≡ 0) × ((t.wrong ≡ 0) × (t.first ≡ 0)) → Within t 0
none_within e = record { compared = omega arith; wrong = omega arith; first = omega arith }

pub more-within : {t x r : Tally} (m k : ℕ) → Within t (m * k) → Within x m → r ≡ joined t x → Within r (m * (k + 1))
more-within {t} {x} m k v w er =
    let e : m * k + m ≡ m * (k + 1) = rw add-one (omega (arith, mul-suc m k)) in
    rw er (rw e at (joined-within t x (m * k) m v w))

module _ (f : ℕ → Tally) where
  pub all_none : {t : Tally} → (t.compared ≡ 0) × ((t.wrong ≡ 0) × (t.first ≡ 0)) → t ≡ all_of f 0
  unfolding all_of
  all_none e = rw (e.0, e.1.0, e.1.1) refl

  pub all_more : {t x r : Tally} (n : ℕ) → t ≡ all_of f n → x ≡ f n → r ≡ joined t x → r ≡ all_of f (n + 1)
  unfolding all_of
  all_more n et ex er = er ∙ rw (add-one, et, ex)

  -- of comparisons, no number is above how many there are
  pub all-within : ((k : ℕ) → Within (f k) 1) → (n : ℕ) → Within (all_of f n) n
  unfolding all_of
  all-within w zero = none_within (refl, (refl, refl))
  all-within w (suc n) = rw (← add-one) (joined-within (all_of f n) (f n) n 1 (all-within w n) (w n))

pub all_same : (f g : ℕ → Tally) (n : ℕ) → ((k : ℕ) → k < n → f k ≡ g k) → all_of f n ≡ all_of g n
unfolding all_of
all_same f g zero e = refl
all_same f g (suc n) e = rw (all_same f g n (λ k h. e k (omega arith)), e n (omega arith))

-- What one period leaves in a history: each place as it was, or an output of the filter.
use mathlib.Core.Path.{◌≡◌, refl, ◌∙◌}
use mathlib.Core.List.{List, [], ◌∷◌}
use Prim.Native.Nat.{ℕ, zero, suc, ◌^◌, ◌≤◌, ◌<◌}
use lib.Dec.{T}
use lib.ListN.{length, get_or, set, length-set}
use lib.Ieee.{Float, binary32, add, mul, of_int, fits}
use lib.Ieee.Fits.{add-fits, of_int-fits}
use Rattle.base.proofs.WordLaws.{low-lt}
use Rattle.ulaw.specs.Ulaw.{sample_of}
use Rattle.lpc.specs.Filter.{Filter}
use Rattle.lpc.specs.Fixed.{divided, fixed_next, fixed_filter}
use Rattle.lpc.specs.Floating.{float_sum, float_next, float_filter}
use Rattle.lpc.specs.Ring.{Ring, ago, pushed, ring_after}
use Rattle.lpc.proofs.RingLaws.{after-low}

set-each : {A : Type 0} (P : A → Type 0) (d : A) (h : List A) (k : ℕ) (y : A) → P y → ((i : ℕ) → P (get_or h i d)) → (i : ℕ) → P (get_or (set h k y) i d)
set-each P d [] k y q e i = e i
set-each P d (x ∷ h) zero y q e zero = q
set-each P d (x ∷ h) zero y q e (suc i) = e (suc i)
set-each P d (x ∷ h) (suc k) y q e zero = e zero
set-each P d (x ∷ h) (suc k) y q e (suc i) = set-each P d h k y q (λ j. e (suc j)) i

module _ {A : Type 0} (f : Filter A) (order : ℕ) (row : List ℕ) where
  -- what holds of every output, and of every place before, holds of every place after
  pub ring-each : (P : A → Type 0) (d : A) → ((y : ℕ → A) (x : ℕ) → P (f.next row y x)) → (r : Ring A) → ((i : ℕ) → P (get_or r.history i d)) → (xs : List ℕ)
      → (i : ℕ) → P (get_or (ring_after f order row r xs).history i d)
  unfolding ring_after
  ring-each P d n r e [] = e
  ring-each P d n r e (x ∷ xs) =
      let y = f.next row (ago f order r) x in
      ring-each P d n (pushed f order r y) (set-each P d r.history r.place y (n (ago f order r) x) e) xs

  pub ring-length : (r : Ring A) (xs : List ℕ) → length (ring_after f order row r xs).history ≡ length r.history
  unfolding ring_after
  ring-length r [] = refl
  ring-length r (x ∷ xs) = let y = f.next row (ago f order r) x in ring-length (pushed f order r y) xs ∙ length-set r.history r.place y

  pub ring-low : (r : Ring A) → r.place ≤ order → (xs : List ℕ) → (ring_after f order row r xs).place ≤ order
  unfolding ring_after
  ring-low r l [] = l
  ring-low r l (x ∷ xs) = let y = f.next row (ago f order r) x in ring-low (pushed f order r y) (after-low order r.place l) xs

-- an output of the fixed filter is a word of 32 bits
pub fixed_word : (least range : Float) (row : List ℕ) (y : ℕ → ℕ) (x : ℕ) → (fixed_filter least range).next row y x < 2 ^ 32
unfolding fixed_filter fixed_next divided
fixed_word least range row y x = low-lt 32 _

-- an output of the float filter is a value that binary32 holds
sum_fits : (acc : Float) (cs : List Float) (y : ℕ → Float) (k : ℕ) → T (fits binary32 acc) → T (fits binary32 (float_sum acc cs y k))
unfolding float_sum
sum_fits acc [] y k h = h
sum_fits acc (c ∷ cs) y k h = sum_fits (add binary32 acc (mul binary32 c (y k))) cs y (suc k) (add-fits binary32 acc (mul binary32 c (y k)))

pub float_fits : (least range : Float) (row : List ℕ) (y : ℕ → Float) (x : ℕ) → T (fits binary32 ((float_filter least range).next row y x))
unfolding float_filter float_next
float_fits least range row y x = sum_fits (of_int binary32 (sample_of x)) _ y 0 (of_int-fits binary32 (sample_of x))

-- A loop over a period's excitation: what is still to come, one turn, and the end.
use mathlib.Core.Path.{◌≡◌, refl, ap, ◌∙◌}
use mathlib.Core.List.{List, [], ◌∷◌}
use Prim.Native.Nat.{ℕ, suc, ◌+◌, ◌*◌, ◌≤◌, ◌<◌}
use native.Mathlib.Numerals.{add-one}
use native.Mathlib.Omega.{arith}
use lib.ListN.{length, get_or, drop, set, drop_of_length-le}
use lib.Seq.{sets, drop-cons, length-sets}
use Rattle.base.specs.Buffers.{over, flat}
use Rattle.base.specs.Bytes.{bytes_of}
use Rattle.base.proofs.BufferLaws.{sets-append, sets_over, length-flat}
use Rattle.base.proofs.ByteLaws.{length-bytes_of}
use Rattle.lpc.specs.Filter.{Filter}
use Rattle.lpc.specs.Ring.{Ring, place_after, ago, pushed, ring_after, ring_samples}
use Rattle.lpc.proofs.RingLaws.{after-low}

module _ {A : Type 0} (f : Filter A) (order : ℕ) (row xs : List ℕ) where
  -- the bytes of the samples
  abbrev pub spoken_bytes : Ring A → List ℕ → List ℕ
  spoken_bytes r ys = flat (bytes_of 2) (ring_samples f order row r ys)

  pub length-spoken : (r : Ring A) (ys : List ℕ) → length (ring_samples f order row r ys) ≡ length ys
  unfolding ring_samples
  length-spoken r [] = refl
  length-spoken r (y ∷ ys) = ap suc (length-spoken (pushed f order r (f.next row (ago f order r) y)) ys)

  module _ (r₀ : Ring A) (d₀ : List ℕ) where
    -- after i samples the ring is r, and the buffer d
    pub record Run (r : Ring A) (d : List ℕ) (i : ℕ) : Type 0 where
      pub few : i ≤ length xs
      pub low : r.place ≤ order
      pub room : length d ≡ length d₀
      pub ring : ring_after f order row r (drop i xs) ≡ ring_after f order row r₀ xs
      pub bytes : sets d (2 * i) (spoken_bytes r (drop i xs)) ≡ sets d₀ 0 (spoken_bytes r₀ xs)

    pub run-start : r₀.place ≤ order → Run r₀ d₀ 0
    run-start l = record { few = omega arith; low = l; room = refl; ring = refl; bytes = refl }

    module _ (r : Ring A) (d : List ℕ) (i : ℕ) (h : Run r d i) (l : i < length xs) where
      abbrev now : A
      now = f.next row (ago f order r) (get_or xs i 0)

      ring-turn : ring_after f order row (pushed f order r now) (drop (i + 1) xs) ≡ ring_after f order row r₀ xs
      unfolding ring_after
      ring-turn = rw (add-one i) (rw (drop-cons xs i 0 l) at h.ring)

      bytes-turn : sets (sets d (2 * i) (bytes_of 2 (f.out now))) (2 * (i + 1)) (spoken_bytes (pushed f order r now) (drop (i + 1) xs)) ≡ sets d₀ 0 (spoken_bytes r₀ xs)
      unfolding ring_samples flat
      bytes-turn =
          let n : 2 * (i + 1) ≡ 2 * i + length (bytes_of 2 (f.out now)) = rw length-bytes_of (omega arith) in
          rw (n, ← sets-append, add-one i) (rw (drop-cons xs i 0 l) at h.bytes)

      pub run-turn : (y : A) (e : List ℕ) (place : ℕ) → y ≡ now → e ≡ sets d (2 * i) (bytes_of 2 (f.out y)) → place ≡ place_after order r.place → Run (record { history = set r.history r.place y; place = place }) e (i + 1)
      run-turn y e place p q s =
          rw (q, p, s) (record {
            few = omega arith;
            low = after-low order r.place h.low;
            room = length-sets d (2 * i) (bytes_of 2 (f.out now)) ∙ h.room;
            ring = ring-turn;
            bytes = bytes-turn;
          })

    pub run_end : (r : Ring A) (d : List ℕ) (i : ℕ) → Run r d i → length xs ≤ i → 2 * length xs ≤ length d₀ → (r ≡ ring_after f order row r₀ xs) × (d ≡ over (spoken_bytes r₀ xs) d₀)
    unfolding ring_after ring_samples flat
    run_end r d i h l room =
        let n : length (spoken_bytes r₀ xs) ≤ length d₀ = rw (length-flat (bytes_of 2) 2 (length-bytes_of 2), length-spoken) room in
        (rw (drop_of_length-le xs l) at h.ring, rw (drop_of_length-le xs l) at h.bytes ∙ sets_over (spoken_bytes r₀ xs) d₀ n)

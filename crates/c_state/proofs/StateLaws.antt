-- A filter state in bytes: what is stored.
use mathlib.Core.Path.{◌≡◌, refl, sym, ap, ◌∙◌}
use mathlib.Core.List.{List, ◌++◌}
use Prim.Native.Nat.{ℕ, ◌+◌, ◌%◌, ◌^◌, ◌≤◌}
use native.Mathlib.Omega.{arith}
use lib.ListN.{length, take, drop, length-append, length-take}
use lib.Seq.{sets}
use lib.Ieee.{binary32, to_bits}
use Rattle.base.specs.Buffers.{over, upto}
use Rattle.base.specs.Bytes.{bytes_of}
use Rattle.base.proofs.BufferLaws.{over-all, over-part, sets-append, sets_over, length-flat, length-upto}
use Rattle.base.proofs.ByteLaws.{length-bytes_of, bytes_of-low}
use Rattle.lpc.specs.declared.FilterState.{FilterState}
use Rattle.c_state.specs.State.{filter_number, word_of, head_bytes, history_bytes, bytes_of_state}

-- ---- storing

-- a store where the last one ended
sets-next : (l p q : List ℕ) (i j : ℕ) → i + length p ≡ j → sets (sets l i p) j q ≡ sets l i (p ++ q)
sets-next l p q i j e = sym (sets-append l i p q ∙ ap (λ (n : ℕ). sets (sets l i p) n q) e)

-- seven numbers one after the other
pub stored-seven : (d : List ℕ) (a b c e f g h : ℕ) → 36 ≤ length d
    → sets (sets (sets (sets (sets (sets (sets d 0 (bytes_of 4 a)) 4 (bytes_of 4 b)) 8 (bytes_of 4 c)) 12 (bytes_of 4 e)) 16 (bytes_of 4 f)) 20 (bytes_of 8 g)) 28 (bytes_of 8 h)
    ≡ over (bytes_of 4 a ++ (bytes_of 4 b ++ (bytes_of 4 c ++ (bytes_of 4 e ++ (bytes_of 4 f ++ (bytes_of 8 g ++ bytes_of 8 h)))))) d
stored-seven d a b c e f g h l =
    let d₁ = sets d 0 (bytes_of 4 a) in
    let d₂ = sets d₁ 4 (bytes_of 4 b) in
    let d₃ = sets d₂ 8 (bytes_of 4 c) in
    let d₄ = sets d₃ 12 (bytes_of 4 e) in
    let d₅ = sets d₄ 16 (bytes_of 4 f) in
    let gh = bytes_of 8 g ++ bytes_of 8 h in
    let fh = bytes_of 4 f ++ gh in
    let eh = bytes_of 4 e ++ fh in
    let ch = bytes_of 4 c ++ eh in
    let bh = bytes_of 4 b ++ ch in
    sets-next d₅ (bytes_of 8 g) (bytes_of 8 h) 20 28 (rw length-bytes_of)
    ∙ sets-next d₄ (bytes_of 4 f) gh 16 20 (rw length-bytes_of)
    ∙ sets-next d₃ (bytes_of 4 e) fh 12 16 (rw length-bytes_of)
    ∙ sets-next d₂ (bytes_of 4 c) eh 8 12 (rw length-bytes_of)
    ∙ sets-next d₁ (bytes_of 4 b) ch 4 8 (rw length-bytes_of)
    ∙ sets-next d (bytes_of 4 a) bh 0 4 (rw length-bytes_of)
    ∙ sets_over (bytes_of 4 a ++ bh) d (simp (length-append, length-bytes_of) l)

-- what `store_head` does, store by store
module _ (s : FilterState) (d l₁ l₂ l₃ l₄ l₅ l₆ l₇ : List ℕ) (a b c e f : ℕ) (room : 36 ≤ length d) where
  pub stored-head : a ≡ filter_number s.filter → b ≡ s.order % 2 ^ 32 → c ≡ s.ring_place % 2 ^ 32
      → e ≡ to_bits binary32 s.coeff_min → f ≡ to_bits binary32 s.coeff_range
      → l₁ ≡ sets d 0 (bytes_of 4 a) → l₂ ≡ sets l₁ 4 (bytes_of 4 b) → l₃ ≡ sets l₂ 8 (bytes_of 4 c) → l₄ ≡ sets l₃ 12 (bytes_of 4 e) → l₅ ≡ sets l₄ 16 (bytes_of 4 f)
      → l₆ ≡ sets l₅ 20 (bytes_of 8 s.period) → l₇ ≡ sets l₆ 28 (bytes_of 8 s.sample_place)
      → l₇ ≡ over (head_bytes s) d
  unfolding head_bytes
  stored-head ea eb ec ee ef e₁ e₂ e₃ e₄ e₅ e₆ e₇ =
      let fb : bytes_of 4 b ≡ bytes_of 4 s.order = ap (bytes_of 4) eb ∙ bytes_of-low 4 s.order in
      let fc : bytes_of 4 c ≡ bytes_of 4 s.ring_place = ap (bytes_of 4) ec ∙ bytes_of-low 4 s.ring_place in
      rw (e₇, e₆, e₅, e₄, e₃, e₂, e₁, fb, fc, ea, ee, ef)
      (stored-seven d (filter_number s.filter) s.order s.ring_place (to_bits binary32 s.coeff_min) (to_bits binary32 s.coeff_range) s.period s.sample_place room)

pub length-head : (s : FilterState) → length (head_bytes s) ≡ 36
unfolding head_bytes bytes_of
length-head s = refl

pub length-history : (s : FilterState) → length (history_bytes s) ≡ 132
length-history s = length-flat (bytes_of 4) 4 (length-bytes_of 4) (upto (word_of s) 33) ∙ rw length-upto

-- what `store` does: the head h is there, and the bytes 36 to 168 were lent and came back as p
pub stored-state : (s : FilterState) (d h p : List ℕ) → 168 ≤ length d → h ≡ over (head_bytes s) d → p ≡ over (history_bytes s) (take 132 (drop 36 h))
    → take 36 h ++ (p ++ drop 132 (drop 36 h)) ≡ over (bytes_of_state s) d
unfolding bytes_of_state
stored-state s d h p room eh ep =
    let l = length-history s in
    let short : length (take 132 (drop 36 h)) ≤ 132 = rw length-take (omega arith) in
    let q : p ≡ history_bytes s = ep ∙ over-all (history_bytes s) (take 132 (drop 36 h)) (rw l short) in
    rw (q, eh) (over-part (head_bytes s) (history_bytes s) d 36 132 (length-head s) l)

-- What a turn of the decoder's loop keeps: the bytes still to come from the present state, stored behind those written so far, are the whole answer.
use mathlib.Core.Path.{◌≡◌, refl, sym, ap, ◌∙◌}
use mathlib.Core.List.{List, [], ◌∷◌}
use Prim.Native.Nat.{ℕ, zero, suc, ◌+◌, ◌*◌, ◌/◌, ◌%◌, ◌<◌, ◌≤◌}
use native.Mathlib.Numerals.{add-one}
use native.Mathlib.Omega.{arith}
use lib.ListN.{length, drop, set, get_or, length-set, drop_of_length-le}
use lib.Seq.{sets, drop-cons}
use Rattle.base.specs.Buffers.{over}
use Rattle.base.proofs.BufferLaws.{sets_over}
use Rattle.ulaw.specs.Ulaw.{ulaw_of}
use Rattle.adpcm.specs.Decoder.{fresh, signals_of, next_of, sample_in, codes_of, decoded_from, decoded, state_at}
use Rattle.adpcm.specs.Words.{Words, Coding}
use Rattle.adpcm.specs.declared.AdpcmState.{AdpcmState}
use Rattle.adpcm.specs.declared.Signals.{Signals}
use Rattle.adpcm.specs.declared.Coded.{Coded}

-- ---- the codes

code-high : (bs : List ℕ) (i : ℕ) → get_or (codes_of bs) (2 * i) 0 ≡ get_or bs i 0 / 16
unfolding codes_of
code-high [] i = refl
code-high (b ∷ bs) zero = refl
code-high (b ∷ bs) (suc i) =
    let e : 2 * suc i ≡ suc (suc (2 * i)) = omega arith in
    rw e (code-high bs i)

code-low : (bs : List ℕ) (i : ℕ) → get_or (codes_of bs) (suc (2 * i)) 0 ≡ get_or bs i 0 % 16
unfolding codes_of
code-low [] i = refl
code-low (b ∷ bs) zero = refl
code-low (b ∷ bs) (suc i) =
    let e : 2 * suc i ≡ suc (suc (2 * i)) = omega arith in
    rw e (code-low bs i)

pub even-code : (bs : List ℕ) (k : ℕ) → k % 2 ≡ 0 → get_or bs (k / 2) 0 / 16 ≡ get_or (codes_of bs) k 0
even-code bs k h =
    let e : k ≡ 2 * (k / 2) = omega arith in
    sym (ap (λ (n : ℕ). get_or (codes_of bs) n 0) e ∙ code-high bs (k / 2))

pub odd_code : (bs : List ℕ) (k : ℕ) → (k % 2 ≡ 0 → ⊥) → get_or bs (k / 2) 0 % 16 ≡ get_or (codes_of bs) k 0
odd_code bs k h =
    let e : k ≡ suc (2 * (k / 2)) = omega arith in
    sym (ap (λ (n : ℕ). get_or (codes_of bs) n 0) e ∙ code-low bs (k / 2))

length-codes_of : (bs : List ℕ) → length (codes_of bs) ≡ 2 * length bs
unfolding codes_of
length-codes_of [] = refl
length-codes_of (b ∷ bs) = omega (arith, length-codes_of bs)

-- ---- the loop

pub record At (packed out₀ out : List ℕ) (s : AdpcmState) (k : ℕ) : Type 0 where
  pub within : k ≤ 2 * length packed
  pub long : length out ≡ length out₀
  pub words : Words s
  pub filled : sets out k (decoded_from s (drop k (codes_of packed))) ≡ sets out₀ 0 (decoded packed)

pub start : (packed out₀ : List ℕ) (s : AdpcmState) → s ≡ fresh → Words s → At packed out₀ out₀ s 0
unfolding decoded
start packed out₀ s e w = record { within = omega arith; long = refl; words = w; filled = rw e }

abbrev after : AdpcmState → ℕ → AdpcmState
after s i = next_of s i (signals_of s i)

-- one byte a stored, and the state t after it
stored : (codes out whole : List ℕ) (s t : AdpcmState) (k i a : ℕ) → k < length codes → i ≡ get_or codes k 0
    → a ≡ ulaw_of (sample_in (signals_of s i)) → t ≡ after s i
    → sets out k (decoded_from s (drop k codes)) ≡ whole → sets (set out k a) (k + 1) (decoded_from t (drop (k + 1) codes)) ≡ whole
unfolding decoded_from
stored codes out whole s t k i a more ei ea et e =
    let k1 : k + 1 ≡ suc k = omega arith in
    rw (k1, et, ea, ei) (rw (drop-cons codes k 0 more) at e)

pub turn : (packed out₀ out : List ℕ) (s : AdpcmState) (k i : ℕ) → At packed out₀ out s k → k < 2 * length packed
    → i ≡ get_or (codes_of packed) k 0 → {r : Coded} → Coding s i r → At packed out₀ (set out k r.byte) r.state (k + 1)
turn packed out₀ out s k i at more e {r} c =
    record {
      within = omega arith;
      long = simp length-set at.long;
      words = c.words;
      filled = stored (codes_of packed) out (sets out₀ 0 (decoded packed)) s r.state k i r.byte (rw length-codes_of more) e c.byte c.state at.filled;
    }

length-decoded_from : (s : AdpcmState) (is : List ℕ) → length (decoded_from s is) ≡ length is
unfolding decoded_from
length-decoded_from s [] = refl
length-decoded_from s (i ∷ is) = ap suc (length-decoded_from (after s i) is)

pub length-decoded : (packed : List ℕ) → length (decoded packed) ≡ 2 * length packed
unfolding decoded
length-decoded packed = length-decoded_from fresh (codes_of packed) ∙ length-codes_of packed

pub end : (packed out₀ out : List ℕ) (s : AdpcmState) (k : ℕ) → At packed out₀ out s k → 2 * length packed ≤ k → 2 * length packed ≤ length out₀ → out ≡ over (decoded packed) out₀
unfolding decoded_from
end packed out₀ out s k at done room =
    let none : length (codes_of packed) ≤ k = rw length-codes_of done in
    (rw (drop_of_length-le (codes_of packed) {i = k} none) at at.filled) ∙ sets_over (decoded packed) out₀ (rw length-decoded room)

-- ---- the delays before a code

module _ (codes : List ℕ) where
  pub state-first : {s : AdpcmState} → s ≡ fresh → s ≡ state_at codes 0
  unfolding state_at
  state-first e = e

  pub state-next : {s t : AdpcmState} {g : Signals} (k i : ℕ) → s ≡ state_at codes k → i ≡ get_or codes k 0 → g ≡ signals_of s i → t ≡ next_of s i g
      → t ≡ state_at codes (k + 1)
  unfolding state_at
  state-next k i es ei eg et = et ∙ rw (add-one, eg, es, ei)

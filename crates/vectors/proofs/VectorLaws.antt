-- What is compared, from what the calls ensure.
use mathlib.Core.Path.{◌≡◌, ◌∙◌}
use mathlib.Core.Bool.{false}
use mathlib.Core.List.{List}
use Prim.Native.Nat.{ℕ, ◌+◌, ◌*◌, ◌-◌, ◌%◌, ◌≤◌, ◌<◌}
use native.Mathlib.Omega.{arith}
use lib.Dec.{eqb}
use borrow.Author.Tests.{le-leb, lt-leb}
use lib.ListN.{length, get_or, take, drop, length-drop, get_or-append}
use lib.Seq.{take_all}
use Rattle.base.specs.Buffers.{over}
use Rattle.base.specs.Bytes.{little_endian, u16_at}
use Rattle.adpcm.specs.Decoder.{signals_of, codes_of, decoded, state_at}
use Rattle.adpcm.specs.declared.AdpcmState.{AdpcmState}
use Rattle.adpcm.specs.declared.Signals.{Signals}
use Rattle.adpcm.proofs.Turns.{length-decoded}
use Rattle.vectors.specs.declared.Tally.{Tally}
use Rattle.vectors.specs.Tallies.{one, joined, all_of}
use Rattle.vectors.specs.Vectors.{encoding, run, sample, byte, period, period_at}
use Rattle.vectors.proofs.TallyLaws.{all_same}

-- one comparison
pub one_same : {r : Tally} {a b x y : ℕ} → r ≡ one (eqb a b) → a ≡ x → b ≡ y → r ≡ one (eqb x y)
one_same e p q = e ∙ rw (p, q)

-- a run whose record was read
pub run_of : {r : Tally} {word count : ℕ} (runs : List ℕ) (i : ℕ) → word ≡ little_endian 2 runs (5 * i) → count ≡ little_endian 2 runs (5 * i + 2)
    → r ≡ all_of (encoding word (get_or runs (5 * i + 4) 0)) count → r ≡ run runs i
unfolding run
run_of runs i ew ec e = e ∙ rw (ew, ec)

-- ---- the decoder

-- a code's sample, at its delays
pub sample-at : {x : Tally} {s : AdpcmState} {g : Signals} (packed words : List ℕ) (k i : ℕ) → s ≡ state_at (codes_of packed) k → i ≡ get_or (codes_of packed) k 0
    → g ≡ signals_of s i → x ≡ one (eqb (4 * g.sr % 65536) (u16_at words k)) → x ≡ sample packed words k
sample-at packed words k i es ei eg ex = ex ∙ rw (eg, es, ei)

-- a period whose bytes stand at the front of a longer buffer
pub period-of : {s b r : Tally} (packed words want out buf : List ℕ) → s ≡ all_of (sample packed words) (2 * length packed) → out ≡ over (decoded packed) buf
    → b ≡ all_of (byte out want) (2 * length packed) → r ≡ joined s b → r ≡ period packed words want
unfolding period over
period-of packed words want out buf es eo eb er =
    let p = decoded packed in
    let front : (k : ℕ) → k < 2 * length packed → byte out want k ≡ byte p want k =
    λ k h. rw (eo, get_or-append p (drop (length p) buf) 0 k (rw length-decoded h)) in
    er ∙ rw (es, eb, all_same (byte out want) (byte p want) (2 * length packed) front)

-- ---- the list of periods

whole : (l : List ℕ) (n : ℕ) → take (length l - n) (drop n l) ≡ drop n l
whole l n = take_all (length l - n) (drop n l) (rw length-drop (omega arith))

module _ (periods codes words want : List ℕ) (i : ℕ) {from count : ℕ} (ef : from ≡ u16_at periods (2 * i)) (ec : count ≡ u16_at periods (2 * i + 1)) where
  -- one whose record was read, in the parts of the files that it is about
  pub period-within : {r : Tally} → from + count ≤ length codes
      → r ≡ period (take (from + count - from) (drop from codes)) (take (length words - 4 * from) (drop (4 * from) words)) (take (length want - 2 * from) (drop (2 * from) want))
      → r ≡ period_at periods codes words want i
  unfolding period_at
  period-within h e =
      let n : from + count - from ≡ count = omega arith in
      let t = le-leb (from + count) (length codes) h in
      e ∙ rw (n, whole words (4 * from), whole want (2 * from), ← ef, ← ec, t)

  pub period-outside : {r : Tally} → length codes < from + count → r ≡ one false → r ≡ period_at periods codes words want i
  unfolding period_at
  period-outside h e = let t = lt-leb (from + count) (length codes) h in e ∙ rw (← ef, ← ec, t)

-- Document 01: a spoken call's pulls, and demand 3's plain machine.
use Rattle.std.specs.Prelude.{List, [], ◌∷◌, ℕ, ◌+◌, ◌*◌, ◌/◌, eqb, ltb, length, get_or, take, Err, None, Ok, Option, Result, Some}
use Rattle.refusal.specs.declared.Refusal.{Refusal}
use Rattle.base.specs.Choice.{pick}
use Rattle.base.specs.Buffers.{over, flat}
use Rattle.base.specs.Bytes.{bytes_of, elements}
use Rattle.refusal.specs.declared.Refusal.TheVariants.{ShortSlice}
use Rattle.lpc.specs.declared.FilterState.{FilterState}
use Rattle.call.specs.Pull.{Lent, pull_of}

-- what one pull shows of itself: its answer, and every byte of its slice afterwards
pub record Shown : Type 0 where
  pub answer : Result (Option ℕ) Refusal
  pub slice : List ℕ

-- Pulls one after the other, a slice each: 'each other the state the last one returned or left'.
unfoldable pub pulls : FilterState → Lent → List (List ℕ) → List Shown
pulls s l [] = []
pulls s l (d ∷ ds) =
    let o = pull_of s l d in
    record { answer = o.pulled.answer; slice = o.slice } ∷ pulls o.pulled.state l ds

-- what one pull counts
abbrev pub gave_count : Result (Option ℕ) Refusal → ℕ
gave_count (Ok (Some n)) = 1
gave_count (Ok None) = 0
gave_count (Err r) = 0

-- The plain machine 'holds the periods of samples .. and a count. A pull shows it only its slice: if all periods are counted, it says
-- done; if the slice is shorter than the next period, it refuses with 14; else it gives that period, writing its samples to the slice's
-- front, ..
unfoldable pub shows : List (List ℕ) → ℕ → List ℕ → Shown
shows ps k d =
    let p = get_or ps k [] in
    pick (eqb k (length ps)) (record { answer = Ok None; slice = d })
    (pick (ltb (length d / 2) (length p)) (record { answer = Err ShortSlice; slice = d })
    (record { answer = Ok (Some (length p)); slice = over (flat (bytes_of 2) p) d }))

-- .. and counts it.'
unfoldable pub machine : List (List ℕ) → ℕ → List (List ℕ) → List Shown
machine ps k [] = []
machine ps k (d ∷ ds) = shows ps k d ∷ machine ps (k + gave_count (shows ps k d).answer) ds

-- ---- what a list of pulls wrote

-- the bytes that one pull gave
abbrev pub gave_bytes : Result (Option ℕ) Refusal → List ℕ → List ℕ
gave_bytes (Ok (Some n)) d = take (2 * n) d
gave_bytes (Ok None) d = []
gave_bytes (Err r) d = []

-- 'what they wrote, joined in order'
unfoldable pub written : List Shown → List ℕ
written os = flat (λ (o : Shown). gave_bytes o.answer o.slice) os

-- the samples that these bytes say
abbrev pub samples_written : List Shown → List ℕ
samples_written os = elements 2 (written os)

-- the samples of periods, joined, as bytes
abbrev pub bytes_of_periods : List (List ℕ) → List ℕ
bytes_of_periods ps = flat (bytes_of 2) (flat (λ (p : List ℕ). p) ps)

-- 'as many periods as they gave'
unfoldable pub given : List Shown → ℕ
given [] = 0
given (o ∷ os) = gave_count o.answer + given os

-- some pull said done
pub data SaysDone : List Shown → Type 0 where
  here : {d : List ℕ} {os : List Shown} → SaysDone (record { answer = Ok None; slice = d } ∷ os)
  there : {o : Shown} {os : List Shown} → SaysDone os → SaysDone (o ∷ os)

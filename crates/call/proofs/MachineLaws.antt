-- What a list of pulls wrote: the samples of the first periods, as many as were given, and all of them once a pull says done; and what each pull
-- of the list answers.
use Rattle.std.specs.Prelude.{Err, None, Ok, Option, Result, Some}
use mathlib.Core.Path.{◌≡◌, refl, ap, subst, ◌∙◌}
use mathlib.Core.List.{List, [], ◌∷◌, ◌++◌}
use mathlib.Core.Logic.{⊎_elim}
use Prim.Native.Nat.{ℕ, zero, suc, ◌+◌, ◌*◌, ◌/◌, ◌≤◌, ◌<◌}
use native.Mathlib.Nat.{eq-or-lt_of_le, zero-add, add-zero, add_assoc}
use native.Mathlib.Numerals.{add-one, one-add}
use native.Mathlib.Omega.{arith}
use lib.ListN.{length, get_or, take, drop}
use lib.Seq.{drop-cons, take-length}
use Rattle.base.specs.Buffers.{over, flat}
use Rattle.base.specs.Bytes.{bytes_of}
use Rattle.base.proofs.CaseLaws.{by_order}
use Rattle.base.proofs.BufferLaws.{take-over, flat_append, length-flat}
use Rattle.base.proofs.ByteLaws.{length-bytes_of}
use Rattle.refusal.specs.declared.Refusal.{Refusal}
use Rattle.refusal.specs.declared.Refusal.TheVariants.{ShortSlice}
use Rattle.call.specs.Machine.{Shown, shows, machine, gave_count, written, bytes_of_periods, given, SaysDone, there}
use Rattle.call.proofs.PullLaws.{shows-done, shows-short, shows-gives, machine-done, machine-short, machine-gives}

-- where some pull says done, but not the first
after-refused : {r : Refusal} {d : List ℕ} {os : List Shown} → SaysDone (record { answer = Err r; slice = d } ∷ os) → SaysDone os
after-refused (there s) = s

after-given : {n : ℕ} {d : List ℕ} {os : List Shown} → SaysDone (record { answer = Ok (Some n); slice = d } ∷ os) → SaysDone os
after-given (there s) = s

-- ---- what was written

module _ (ps : List (List ℕ)) where
  abbrev Writes : List Shown → ℕ → Type 0
  Writes os k = written os ≡ bytes_of_periods (take (given os) (drop k ps))

  module _ (d : List ℕ) (ds : List (List ℕ)) (k : ℕ) where
    writes-done : Writes (machine ps k ds) k → k ≡ length ps → Writes (machine ps k (d ∷ ds)) k
    unfolding written given flat
    writes-done ih q = rw (machine-done ps k d ds q, zero-add) ih

    writes_short : Writes (machine ps k ds) k → k < length ps → length d / 2 < length (get_or ps k []) → Writes (machine ps k (d ∷ ds)) k
    unfolding written given flat
    writes_short ih m h = let n : k ≡ length ps → ⊥ = λ q. omega arith in rw (machine-short ps k d ds n h, zero-add) ih

    writes-gives : Writes (machine ps (k + 1) ds) (k + 1) → k < length ps → length (get_or ps k []) ≤ length d / 2 → Writes (machine ps k (d ∷ ds)) k
    unfolding written given flat
    writes-gives ih m h =
        let n : k ≡ length ps → ⊥ = λ q. omega arith in
        let p = get_or ps k [] in
        let t : take (2 * length p) (over (flat (bytes_of 2) p) d) ≡ flat (bytes_of 2) p = take-over (flat (bytes_of 2) p) d (2 * length p) (length-flat (bytes_of 2) 2 (length-bytes_of 2) p) in
        rw (machine-gives ps k d ds n h, t, one-add, drop-cons ps k [] m, ← add-one k, flat_append) (ap (λ (q : List ℕ). flat (bytes_of 2) p ++ q) ih)

  writes : (ds : List (List ℕ)) (k : ℕ) → k ≤ length ps → Writes (machine ps k ds) k
  unfolding written given flat machine
  writes [] k l = refl
  writes (d ∷ ds) k l =
      ⊎_elim (writes-done d ds k (writes ds k l))
      (λ m. by_order (length d / 2) (length (get_or ps k [])) (writes_short d ds k (writes ds k l) m) (writes-gives d ds k (writes ds (k + 1) (omega arith)) m))
      (eq-or-lt_of_le l)

  -- 'what they wrote, joined in order, is the samples of as many periods as they gave, from the first on'
  pub machine-writes : (ds : List (List ℕ)) → written (machine ps 0 ds) ≡ bytes_of_periods (take (given (machine ps 0 ds)) ps)
  machine-writes ds = writes ds 0 (omega arith)

  -- ---- each pull of a list

  -- what each answer says of the count and the slice
  abbrev pub Answered : ℕ → List ℕ → Result (Option ℕ) Refusal → Type 0
  Answered k d (Ok (Some n)) = k < length ps
  Answered k d (Ok None) = k ≡ length ps
  Answered k d (Err r) = (r ≡ ShortSlice) × (length d / 2 < length (get_or ps k []))

  answered : (k : ℕ) (d : List ℕ) → k ≤ length ps → Answered k d (shows ps k d).answer
  answered k d l =
      ⊎_elim (λ q. rw (shows-done ps k d q) q)
      (λ m. by_order (length d / 2) (length (get_or ps k []))
      (λ h. rw (shows-short ps k d (λ q. omega arith) h) (refl, h))
      (λ h. rw (shows-gives ps k d (λ q. omega arith) h) m))
      (eq-or-lt_of_le l)

  step-within : (k : ℕ) (d : List ℕ) → k ≤ length ps → k + gave_count (shows ps k d).answer ≤ length ps
  step-within k d l = go (shows ps k d).answer (answered k d l)
    where
      go : (a : Result (Option ℕ) Refusal) → Answered k d a → k + gave_count a ≤ length ps
      go (Ok (Some n)) h = omega arith
      go (Ok None) h = omega arith
      go (Err r) h = omega arith

  -- pull i of a list, after what those before it gave
  pub machine-at : (ds : List (List ℕ)) (k i : ℕ) (o : Shown) → i < length ds → get_or (machine ps k ds) i o ≡ shows ps (k + given (take i (machine ps k ds))) (get_or ds i [])
  unfolding given machine
  machine-at [] k i o h = absurd (omega arith)
  machine-at (d ∷ ds) k zero o h = rw add-zero
  machine-at (d ∷ ds) k (suc i) o h = rw (← add_assoc) (machine-at ds (k + gave_count (shows ps k d).answer) i o (omega arith))

  -- no more are given than there are, nor by the pulls up to one of them
  pub machine-within : (ds : List (List ℕ)) (k : ℕ) → k ≤ length ps → k + given (machine ps k ds) ≤ length ps
  unfolding given machine
  machine-within [] k l = omega arith
  machine-within (d ∷ ds) k l = rw (← add_assoc) (machine-within ds (k + gave_count (shows ps k d).answer) (step-within k d l))

  pub before-within : (ds : List (List ℕ)) (k i : ℕ) → k ≤ length ps → k + given (take i (machine ps k ds)) ≤ length ps
  unfolding given machine
  before-within ds k zero l = omega arith
  before-within [] k (suc i) l = omega arith
  before-within (d ∷ ds) k (suc i) l = rw (← add_assoc) (before-within ds (k + gave_count (shows ps k d).answer) i (step-within k d l))

  -- after k periods were given: done exactly where these are all, and refused only for a short slice
  pub shows-done-all : (k : ℕ) (d : List ℕ) → k ≤ length ps → (shows ps k d).answer ≡ Ok None → k ≡ length ps
  shows-done-all k d l e = subst (Answered k d) e (answered k d l)

  pub shows-refused : (k : ℕ) (d : List ℕ) (r : Refusal) → k ≤ length ps → (shows ps k d).answer ≡ Err r → (r ≡ ShortSlice) × (length d / 2 < length (get_or ps k []))
  shows-refused k d r l e = subst (Answered k d) e (answered k d l)

  -- ---- done

  none_left : (ds : List (List ℕ)) → given (machine ps (length ps) ds) ≡ 0
  none_left ds = let w = machine-within ds (length ps) (omega arith) in omega arith

  -- a list in which some pull says done gave all the periods that were left
  abbrev GivesAll : List (List ℕ) → ℕ → Type 0
  GivesAll ds k = SaysDone (machine ps k ds) → k + given (machine ps k ds) ≡ length ps

  module _ (d : List ℕ) (ds : List (List ℕ)) (k : ℕ) where
    all_done : k ≡ length ps → GivesAll (d ∷ ds) k
    unfolding given
    all_done q s = rw (machine-done ps k d ds q, zero-add, q, none_left ds) (omega arith)

    all_short : GivesAll ds k → k < length ps → length d / 2 < length (get_or ps k []) → GivesAll (d ∷ ds) k
    unfolding given
    all_short ih m h s =
        let n : k ≡ length ps → ⊥ = λ q. omega arith in
        let e = machine-short ps k d ds n h in
        rw (e, zero-add) (ih (after-refused (rw e at s)))

    all-given : GivesAll ds (k + 1) → k < length ps → length (get_or ps k []) ≤ length d / 2 → GivesAll (d ∷ ds) k
    unfolding given
    all-given ih m h s =
        let n : k ≡ length ps → ⊥ = λ q. omega arith in
        let e = machine-gives ps k d ds n h in
        let i = ih (after-given (rw e at s)) in
        rw e (omega arith)

  gives_all : (ds : List (List ℕ)) (k : ℕ) → k ≤ length ps → GivesAll ds k
  unfolding machine
  gives_all [] k l = λ s. elim s [ ]
  gives_all (d ∷ ds) k l =
      ⊎_elim (all_done d ds k)
      (λ m. by_order (length d / 2) (length (get_or ps k [])) (all_short d ds k (gives_all ds k l) m) (all-given d ds k (gives_all ds (k + 1) (omega arith)) m))
      (eq-or-lt_of_le l)

  pub machine-done-all : (ds : List (List ℕ)) → SaysDone (machine ps 0 ds) → written (machine ps 0 ds) ≡ bytes_of_periods ps
  machine-done-all ds s =
      let e = gives_all ds 0 (omega arith) s in
      let g : given (machine ps 0 ds) ≡ length ps = omega arith in
      machine-writes ds ∙ ap bytes_of_periods (ap (λ (n : ℕ). take n ps) g ∙ take-length ps)

-- The simple join by both rules: the steps are the same outside of the empty periods at the heads of later units.
use mathlib.Core.Path.{◌≡◌, refl, sym, subst}
use mathlib.Core.Bool.{Bool, true, false}
use mathlib.Core.List.{List, [], ◌∷◌, ◌++◌}
use Prim.Native.Nat.{ℕ, zero, suc, ◌+◌, ◌-◌, ◌≤◌, ◌<◌}
use native.Mathlib.Omega.{arith}
use borrow.Author.Tests.{leb-true, le-leb, lt-leb, eqb-true, eqb-false}
use lib.Dec.{leb, eqb}
use lib.Ieee.{Float}
use lib.ListN.{length, drop, replicate}
use Rattle.base.specs.Buffers.{flat}
use Rattle.base.proofs.BoundLaws as bounds
use Rattle.base.proofs.BoundLaws.{Each}
use Rattle.base.proofs.CaseLaws.{by_order}
use Rattle.voice.specs.Voice.{Voice}
use Rattle.voice.specs.Periods.{samples_of, samples_from}
use Rattle.units.specs.declared.Unit.{Unit}
use Rattle.units.specs.Units.{limit, ending_at}
use Rattle.marks.specs.NaturalMarks.{period_count, marks_of_periods, place_after_unit, natural_marks, natural_units}
use Rattle.marks.specs.Checking.{last_of, up_to}
use Rattle.marks.specs.Rising.{Rising}
use Rattle.marks.proofs.RiseLaws.{natural-rises}
use Rattle.marks.proofs.UpToLaws.{up_to-by}
use Rattle.excitation.specs.Nearest.{pace_of, place_after_size}
use Rattle.excitation.specs.Shares.{up_to_end, share_count, shares_from}
use Rattle.excitation.specs.Makers.{makers_shares}
use Rattle.excitation.proofs.ShareLaws.{front_mark, take-up_to, up_to-stops}
use Rattle.reporting.proofs.NumberLaws as number
use Rattle.reporting.proofs.NumberLaws.{Numbered}
use Rattle.joint.specs.EmptyHeads.{empty_head, later_heads, empty_heads}
use Rattle.joint.proofs.PaceLaws.{stays-at-0}
use Rattle.joint.proofs.StepLaws as step
use Rattle.joint.proofs.StepLaws.{Step, step_at, steps, start, steps_of_share, number_of, Moves}

-- ---- marks up to a place, and those after them

abbrev after : ℕ → List ℕ → List ℕ
after end ms = drop (length (up_to end ms)) ms

-- steps of size zero, for marks at a place, by units up to a number
data Empties (place n : ℕ) : List ℕ → List Step → Type 0 where
  nil : Empties place n [] []
  cons : {u : Unit} {x : Float} {ms : List ℕ} {xs : List Step} → number_of u ≤ n → Empties place n ms xs → Empties place n (place ∷ ms) (step_at u x place place ∷ xs)

up-to-more : {place m n : ℕ} {ms : List ℕ} {xs : List Step} → m ≤ n → Empties place m ms xs → Empties place n ms xs
up-to-more h nil = nil
up-to-more h (cons {u} l e) = cons {u = u} (omega arith) (up-to-more h e)

-- marks that do not fall from a place on: a unit's steps for those up to it
at_place : (u : Unit) (pace x : Float) (end : ℕ) (ms : List ℕ) → Rising end ms
    → Empties end (number_of u) (up_to end ms) (steps u pace x end (up_to end ms)) × (last_of end (up_to end ms) ≡ end)
unfolding up_to steps last_of
at_place u pace x end [] r = (nil, refl)
at_place u pace x end (m ∷ ms) r = by (leb m end) refl (λ y. at_place u pace y end ms)
  where
    by : (t : Bool) → leb m end ≡ t → ((y : Float) → Rising end ms → Empties end (number_of u) (up_to end ms) (steps u pace y end (up_to end ms)) × (last_of end (up_to end ms) ≡ end))
        → let f = front_mark t m (up_to end ms) in
        Empties end (number_of u) f (steps u pace x end f) × (last_of end f ≡ end)
    by true e ih =
        let l = leb-true m end e in
        let k = r.0 in
        let q : m ≡ end = omega arith in
        let i = ih (place_after_size x pace (m - end)) (subst (λ (n : ℕ). Rising n ms) q r.1) in
        rw q (cons {u = u} (omega arith) (rw q at i.0), i.1)
    by false e ih = (nil, refl)

-- ---- one unit that ends at `end`; ns are the marks of those after it, and `rest` the steps of what it leaves of them by the old rule

module _ (v : Voice) (u : Unit) (pace : Float) (end : ℕ) (ns : List ℕ) (rises : Rising end ns) (rest : ℕ → List ℕ → List Step) (listed : List Bool) (new : List Step)
    (others : (xs : List Step) → Empties end (number_of u) (up_to end ns) xs → Moves listed (xs ++ rest end (after end ns)) new) where
  -- by the old rule, of marks ms: its steps, and the others'
  abbrev old : Float → ℕ → List ℕ → List Step
  old x mark ms = steps u pace x mark (up_to end ms) ++ rest (last_of mark (up_to end ms)) (after end ms)

  -- n periods from p on, up to its end: it takes their marks, and those of others that are at its end
  takes-own : (x : Float) (place p n : ℕ) → place + samples_from v p n ≡ end
      → Moves (replicate n false ++ listed) (old x place (marks_of_periods v place p n ++ ns)) (steps u pace x place (marks_of_periods v place p n) ++ new)
  unfolding marks_of_periods samples_from steps last_of
  takes-own x place p zero e =
      let q : place ≡ end = omega arith in
      let a = at_place u pace x end ns rises in
      rw (q, a.1) (others _ a.0)
  takes-own x place p (suc n) e =
      let m = place + samples_of v p in
      let l : m ≤ end = omega arith in
      rw (up_to-by end m (marks_of_periods v m (suc p) n ++ ns) true (le-leb m end l)) (step.same (takes-own (place_after_size x pace (m - place)) m (suc p) n (omega arith)))

  -- a later unit that starts at a place: the marks of the empty periods at its head were taken before, by units up to `low`, in the steps xs
  module _ (calm : place_after_size start pace 0 ≡ start) (place low : ℕ) (above : low < number_of u) where
    abbrev Later : List Bool → List ℕ → Type 0
    Later bs own =
        (xs : List Step) → Empties place low (up_to place (own ++ ns)) xs
        → Moves (bs ++ listed) (xs ++ old start place (after place (own ++ ns))) (steps u pace start place own ++ new)

    one-empty : (bs : List Bool) (own : List ℕ) → Later bs own → Later (true ∷ bs) (place ∷ own)
    unfolding steps
    one-empty bs own ih xs e =
        let f : up_to place (place ∷ (own ++ ns)) ≡ place ∷ up_to place (own ++ ns) = up_to-by place place (own ++ ns) true (le-leb place place (omega arith)) in
        let d : place - place ≡ 0 = omega arith in
        rw (f, d, calm) (by xs (rw f at e) refl)
      where
        by : {mark : ℕ} {ms : List ℕ} (xs : List Step) → Empties place low (mark ∷ ms) xs → ms ≡ up_to place (own ++ ns)
            → Moves (true ∷ (bs ++ listed)) (xs ++ old start place (after place (own ++ ns))) (step_at u start place place ∷ (steps u pace start place own ++ new))
        by [] e q = elim e [ ]
        by (x ∷ xs) (cons {u = w} l e) q = step.moved {u = w} {w = u} (omega arith) (ih xs (subst (λ (ms : List ℕ). Empties place low ms xs) q e))

    none-empty : (bs : List Bool) (own : List ℕ) → up_to place (own ++ ns) ≡ [] → Moves (bs ++ listed) (old start place (own ++ ns)) (steps u pace start place own ++ new) → Later bs own
    none-empty bs own f p xs e = rw f (by xs (rw f at e))
      where
        by : (xs : List Step) → Empties place low [] xs → Moves (bs ++ listed) (xs ++ old start place (own ++ ns)) (steps u pace start place own ++ new)
        by [] nil = p
        by (_ ∷ _) e = elim e [ ]

    later-own : (p n : ℕ) → place + samples_from v p n ≡ end → Later (empty_head v p n) (marks_of_periods v place p n)
    unfolding empty_head marks_of_periods samples_from steps last_of
    later-own p zero e =
        let q : place ≡ end = omega arith in
        λ xs t. rw (q, up_to-stops end end (omega arith) ns) (others xs (up-to-more (omega arith) (rw q at t)))
    later-own p (suc n) e = by (eqb (samples_of v p) 0) refl (later-own (suc p) n)
      where
        by : (t : Bool) → eqb (samples_of v p) 0 ≡ t → (place + samples_from v (suc p) n ≡ end → Later (empty_head v (suc p) n) (marks_of_periods v place (suc p) n))
            → Later (elim t [ true ↦ true ∷ empty_head v (suc p) n | false ↦ replicate (suc n) false ]) ((place + samples_of v p) ∷ marks_of_periods v (place + samples_of v p) (suc p) n)
        by true c ih =
            let z = eqb-true (samples_of v p) 0 c in
            let q : place + samples_of v p ≡ place = omega arith in
            subst (λ (m : ℕ). Later (true ∷ empty_head v (suc p) n) (m ∷ marks_of_periods v m (suc p) n)) (sym q) (one-empty (empty_head v (suc p) n) (marks_of_periods v place (suc p) n) (ih (omega arith)))
        by false c ih =
            let z = eqb-false (samples_of v p) 0 c in
            let m = place + samples_of v p in
            let h : place < m = by_order 0 (samples_of v p) (λ l. omega arith) (λ l. absurd (z (omega arith))) in
            none-empty (replicate (suc n) false) (m ∷ marks_of_periods v m (suc p) n) (up_to-by place m (marks_of_periods v m (suc p) n ++ ns) false (lt-leb m place h))
            (takes-own start place p (suc n) e)

-- ---- unit after unit

module _ (v : Voice) where
  -- a unit has no more samples than a call may have
  abbrev pub Short : Unit → Type 0
  Short u = samples_from v u.first_period (period_count u) ≤ limit

  -- the steps by the old rule, of the marks that are left, and by the new one
  abbrev pub old_steps : ℕ → ℕ → List Unit → List ℕ → List Step
  old_steps place mark us ms = flat (steps_of_share v) (shares_from false place mark (natural_units v place us) ms)

  abbrev pub new_steps : ℕ → List Unit → List Step
  new_steps place us = flat (steps_of_share v) (makers_shares v place us)

  module _ (place : ℕ) (u : Unit) where
    abbrev end : ℕ
    end = place_after_unit v place u

    abbrev pace : Float
    pace = pace_of v (ending_at u end) place

    calm : Short u → place_after_size start pace 0 ≡ start
    unfolding pace_of
    calm h =
        let n = samples_from v u.first_period (period_count u) in
        let e : place + n - place ≡ n = omega arith in
        rw e (stays-at-0 n (omega arith))

    old-unit : (us : List Unit) (ms : List ℕ)
        → old_steps place place (u ∷ us) ms ≡ steps (ending_at u end) pace start place (up_to end ms) ++ old_steps end (last_of place (up_to end ms)) us (after end ms)
    unfolding flat shares_from natural_units share_count up_to_end steps_of_share
    old-unit us ms = rw (take-up_to end ms)

  -- units after one with the number `low`; what it took of the marks at its end, the place, is xs
  later : (n place low : ℕ) (us : List Unit) → Numbered n low us → Each Short us → (xs : List Step) → Empties place low (up_to place (natural_marks v place us)) xs
      → Moves (later_heads v (natural_units v place us)) (xs ++ old_steps place place us (after place (natural_marks v place us))) (new_steps place us)
  unfolding later_heads natural_marks flat makers_shares steps_of_share shares_from natural_units up_to
  later n place low [] number.nil bounds.nil [] nil = step.none
  later n place low [] number.nil bounds.nil (_ ∷ _) t = elim t [ ]
  later n place low (u ∷ us) (number.cons a b k) (bounds.cons s e) xs t =
      let to = end place u in
      let q = old-unit place u us (after place (natural_marks v place (u ∷ us))) in
      rw q (later-own v (ending_at u to) (pace place u) to (natural_marks v to us) (natural-rises v to us)
      (λ mark ms. old_steps to mark us ms) (later_heads v (natural_units v to us)) (new_steps to us) (later n to (number_of u) us k e)
      (calm place u s) place low b u.first_period (period_count u) refl xs t)

  pub both-rules : (n : ℕ) (us : List Unit) → Numbered n 0 us → Each Short us → Moves (empty_heads v (natural_units v 0 us)) (old_steps 0 0 us (natural_marks v 0 us)) (new_steps 0 us)
  unfolding empty_heads natural_marks flat makers_shares steps_of_share shares_from natural_units
  both-rules n [] number.nil bounds.nil = step.none
  both-rules n (u ∷ us) (number.cons a b k) (bounds.cons s e) =
      let to = end 0 u in
      rw (old-unit 0 u us) (takes-own v (ending_at u to) (pace 0 u) to (natural_marks v to us) (natural-rises v to us)
      (λ mark ms. old_steps to mark us ms) (later_heads v (natural_units v to us)) (new_steps to us) (later n to (number_of u) us k e)
      start 0 u.first_period (period_count u) refl)

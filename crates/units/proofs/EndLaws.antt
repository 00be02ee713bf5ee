-- The greatest target end, pair by pair, and the refusal by it.
use Rattle.std.specs.Prelude.{Err, None, Ok, Option, Some}
use mathlib.Core.Path.{◌≡◌, refl, ap, ◌∙◌}
use mathlib.Core.Bool.{Bool}
use mathlib.Core.List.{List, [], ◌∷◌}
use Prim.Native.Nat.{ℕ, ◌+◌, ◌≤◌, ◌<◌, max}
use native.Mathlib.Omega.{arith}
use borrow.Author.Tests.{le-leb, lt-leb}
use Rattle.base.proofs.CaseLaws.{by_order}
use Rattle.refusal.specs.declared.Refusal.{Refusal}
use Rattle.refusal.specs.declared.Refusal.TheVariants.{PastLimit}
use Rattle.voice.specs.Voice.{Voice}
use Rattle.sheet.specs.Sheet.{as_f32, sheet_of}
use Rattle.sheet.specs.Answers.{segment_read}
use Rattle.sheet.specs.Places.{answer_in, sheet_places}
use Rattle.sheet.specs.declared.Places.{Places}
use Rattle.sheet.proofs.WalkLaws.{ahead_none}
use Rattle.sheet.proofs.ReadLaws.{sheet-ahead}
use Rattle.units.specs.declared.Unit.{Unit}
use Rattle.units.specs.declared.PairWalk.{PairWalk}
use Rattle.units.specs.Selecting.{folded}
use Rattle.units.specs.Units.{limit, samples_at, midway, units_of_pair, units_all, units_of, end_refusal, greatest_end, answered_ends, checked_ends}
use Rattle.units.specs.Walking.{coming, units_coming}
use Rattle.units.proofs.StepLaws.{folded-nil, coming-first, coming-none, After, coming-next}

-- ---- the refusal, by the greatest of all ends

passed : (us : List Unit) → greatest_end us ≤ limit → end_refusal us ≡ None
unfolding end_refusal greatest_end
passed [] h = refl
passed (u ∷ us) h =
    let l : u.target_end ≤ limit = omega arith in
    rw (le-leb u.target_end limit l) (passed us (omega arith))

refused : (us : List Unit) → limit < greatest_end us → end_refusal us ≡ Some PastLimit
unfolding end_refusal greatest_end
refused [] h = absurd (omega arith)
refused (u ∷ us) h =
    by_order limit u.target_end
    (λ l. rw (lt-leb u.target_end limit l))
    (λ l. rw (le-leb u.target_end limit l) (refused us (omega arith)))

module _ (us : List Unit) where
  answer-fit : greatest_end us ≤ limit → Ok (greatest_end us) ≡ checked_ends us
  unfolding checked_ends
  answer-fit h = let e = passed us h in rw e

  answer-past : limit < greatest_end us → Err PastLimit ≡ checked_ends us
  unfolding checked_ends
  answer-past h = let e = refused us h in rw e

  -- what an answer says
  pub checked-refused : (r : Refusal) → checked_ends us ≡ Err r → end_refusal us ≡ Some r
  unfolding checked_ends
  checked-refused r e = by (end_refusal us) e
    where
      by : (o : Option Refusal) → answered_ends o (greatest_end us) ≡ Err r → o ≡ Some r
      by None q = let z : ◌≡◌ {A = ℕ} 0 1 = cc in absurd (omega arith)
      by (Some c) q = cc

  pub checked-fit : (greatest : ℕ) → checked_ends us ≡ Ok greatest → (end_refusal us ≡ None) × (greatest_end us ≡ greatest)
  checked-fit greatest e =
      by_order limit (greatest_end us)
      (λ l. let a = answer-past l in absurd (let z : ◌≡◌ {A = ℕ} 0 1 = cc in omega arith))
      (λ l. let a = answer-fit l in (passed us l, cc))

-- ---- one turn of the loop

module _ (sheet : List ℕ) (rate : ℕ) where
  abbrev pub AllEnds : (List Unit → Type 0) → Type 0
  AllEnds P = (v : Voice) (fold : Bool) → v.header.rate ≡ rate → P (units_of v (folded fold (sheet_of sheet).segments))

  -- where the greatest is known, so is the answer
  module _ (greatest : ℕ) (a : AllEnds (λ us. greatest ≡ greatest_end us)) where
    pub ends-past : limit < greatest → AllEnds (λ us. Err PastLimit ≡ checked_ends us)
    ends-past h v fold r = let e = a v fold r in answer-past _ (omega arith)

    pub ends-fit : greatest ≤ limit → AllEnds (λ us. Ok greatest ≡ checked_ends us)
    ends-fit h v fold r = let e = a v fold r in ap Ok e ∙ answer-fit _ (omega arith)

  -- no segment, no unit
  pub greatest-none : (p : Places) → answer_in (sheet_places sheet) ≡ Ok p → p.segments.count ≡ 0 → AllEnds (λ us. 0 ≡ greatest_end us)
  unfolding units_all greatest_end
  greatest-none p e z v fold r =
      let empty : folded fold (sheet_of sheet).segments ≡ [] = ap (folded fold) (ahead_none _ sheet _ _ _ z (sheet-ahead sheet p e).segments) ∙ folded-nil fold in
      rw empty

  module _ (count : ℕ) where
    -- the greatest so far, with those that are still to come, is the greatest of all
    abbrev pub Greatest : PairWalk → ℕ → Type 0
    Greatest w greatest =
        (v : Voice) (fold : Bool) → v.header.rate ≡ rate
        → max greatest (greatest_end (units_coming v fold sheet count w)) ≡ greatest_end (units_of v (folded fold (sheet_of sheet).segments))

    pub greatest-first : (w : PairWalk) → w.remaining + 1 ≡ count → (sheet_of sheet).segments ≡ segment_read sheet w.left ∷ coming sheet count w → Greatest w 0
    greatest-first w n e v fold r = let a = ap greatest_end (coming-first v fold sheet count w n e) in omega arith

    pub greatest-last : (w : PairWalk) (greatest : ℕ) → w.remaining ≡ 0 → Greatest w greatest → AllEnds (λ us. greatest ≡ greatest_end us)
    unfolding greatest_end
    greatest-last w greatest z g v fold r =
        let a : greatest_end (units_coming v fold sheet count w) ≡ 0 = ap greatest_end (coming-none v fold sheet count w z) in
        let b = g v fold r in
        omega arith

    module _ (w x : PairWalk) (greatest : ℕ) (g : Greatest w greatest) (n : After sheet count w x) where
      abbrev first : ℕ
      first = samples_at rate (as_f32 w.left.end)

      abbrev second : ℕ
      second = samples_at rate (midway (as_f32 w.left.end) (as_f32 x.left.end))

      pair-greatest : (v : Voice) (fold : Bool) → v.header.rate ≡ rate
          → greatest_end (units_coming v fold sheet count w) ≡ max first (max second (greatest_end (units_coming v fold sheet count x)))
      unfolding greatest_end units_of_pair
      pair-greatest v fold r =
          ap greatest_end (coming-next v fold sheet count w x n)
          ∙ ap (λ (k : ℕ). max (samples_at k (as_f32 w.left.end)) (max (samples_at k (midway (as_f32 w.left.end) (as_f32 x.left.end))) (greatest_end (units_coming v fold sheet count x)))) r

      pub greatest-next : (next : ℕ) → next ≡ max greatest (max first second) → Greatest x next
      greatest-next next e v fold r =
          let a = g v fold r in
          let b = pair-greatest v fold r in
          omega arith

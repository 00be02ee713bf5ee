-- The marks of the simple join, unit by unit: what a loop over the units goes by.
use Rattle.std.specs.Prelude.{Err, None, Ok, Option, Result, Some}
use Rattle.std.proofs.Common.{◌≡◌, ℕ, zero, suc, ◌+◌, ◌-◌, ◌*◌, ◌≤◌, Bool, true, false, leb, List, [], ◌∷◌, ◌++◌, length, sym, refl, ap, ◌∙◌, subst, arith, length-append}
use lib.Seq.{sets, length-sets}
use Rattle.base.specs.Choice.{pick}
use Rattle.base.specs.Lists.{or_next}
use Rattle.base.specs.Buffers.{over, flat}
use Rattle.base.specs.Bytes.{bytes_of}
use Rattle.base.proofs.BufferLaws.{sets-append, flat_append, length-flat}
use Rattle.base.proofs.ByteLaws.{length-bytes_of}
use Rattle.base.proofs.BoundLaws.{Each, cons}
use Rattle.refusal.specs.declared.Refusal.{Refusal}
use Rattle.refusal.specs.declared.Refusal.TheVariants.{PastLimit}
use Rattle.voice.specs.Voice.{Voice}
use Rattle.voice.specs.Periods.{samples_of, samples_from}
use Rattle.units.specs.declared.Unit.{Unit}
use Rattle.units.specs.Units.{limit}
use Rattle.marks.specs.PitchMarks.{most_marks}
use Rattle.marks.specs.NaturalMarks.{period_count, marks_of_periods, place_after_unit, natural_marks, mark_refusal}
use Rattle.marks.specs.Checking.{unit_answered, unit_marks}
use Rattle.marks.proofs.LimitLaws.{Low, refusal-low}
use Rattle.marks.proofs.StoreLaws.{Stores, store-none, store-all}
use Rattle.marks.proofs.UnitLaws.{length-periods}

-- ---- two lists of marks

pub refusal-append : (left : ℕ) (a b : List ℕ) → mark_refusal left (a ++ b) ≡ or_next (mark_refusal left a) (mark_refusal (left - length a) b)
unfolding mark_refusal
refusal-append left [] b = let e : left - 0 ≡ left = omega arith in rw e
refusal-append zero (m ∷ a) b = refl
refusal-append (suc n) (m ∷ a) b =
    let e : suc n - suc (length a) ≡ n - length a = omega arith in
    rw e (by (leb m limit) (refusal-append n a b))
  where
    by : (t : Bool) → mark_refusal n (a ++ b) ≡ or_next (mark_refusal n a) (mark_refusal (n - length a) b)
        → pick t (mark_refusal n (a ++ b)) (Some PastLimit) ≡ or_next (pick t (mark_refusal n a) (Some PastLimit)) (mark_refusal (n - length a) b)
    by true i = i
    by false i = refl

none_both : (a b : Option Refusal) → or_next a b ≡ None → (a ≡ None) × (b ≡ None)
none_both None b e = (refl, e)
none_both (Some r) b e = let z : ◌≡◌ {A = ℕ} 0 1 = cc in absurd (omega arith)

-- as many marks as are allowed
refusal-count : (left : ℕ) (ms : List ℕ) → mark_refusal left ms ≡ None → length ms ≤ left
unfolding mark_refusal
refusal-count left [] e = omega arith
refusal-count zero (m ∷ ms) e = let z : ◌≡◌ {A = ℕ} 0 1 = cc in absurd (omega arith)
refusal-count (suc n) (m ∷ ms) e = by (leb m limit) e (refusal-count n ms)
  where
    by : (t : Bool) → pick t (mark_refusal n ms) (Some PastLimit) ≡ None → (mark_refusal n ms ≡ None → length ms ≤ n) → suc (length ms) ≤ suc n
    by true e i = let l = i e in omega arith
    by false e i = let z : ◌≡◌ {A = ℕ} 0 1 = cc in absurd (omega arith)

-- where no mark of a unit is above the limit, the place after it is not
place-low : (v : Voice) (place p n : ℕ) → place ≤ limit → Each Low (marks_of_periods v place p n) → place + samples_from v p n ≤ limit
unfolding marks_of_periods samples_from
place-low v place p zero h e = omega arith
place-low v place p (suc n) h (cons l e) = let i = place-low v (place + samples_of v p) (suc p) n l e in omega arith

-- ---- the check

-- the marks of a unit
abbrev pub of_unit : Voice → ℕ → Unit → List ℕ
of_unit v place u = marks_of_periods v place u.first_period (period_count u)

natural-unit : (v : Voice) (place : ℕ) (u : Unit) (us : List Unit) → natural_marks v place (u ∷ us) ≡ of_unit v place u ++ natural_marks v (place_after_unit v place u) us
unfolding natural_marks
natural-unit v place u us = refl

length-unit : (v : Voice) (place : ℕ) (u : Unit) → length (of_unit v place u) ≡ period_count u
length-unit v place u = length-periods v place u.first_period (period_count u)

module _ (v : Voice) (place left : ℕ) (u : Unit) (us : List Unit) where
  abbrev others : List ℕ
  others = natural_marks v (place_after_unit v place u) us

  natural-refusal : mark_refusal left (natural_marks v place (u ∷ us)) ≡ or_next (mark_refusal left (of_unit v place u)) (mark_refusal (left - period_count u) others)
  natural-refusal = let n = length-unit v place u in ap (mark_refusal left) (natural-unit v place u us) ∙ refusal-append left (of_unit v place u) others ∙ rw n

  abbrev answer : Result (ℕ × ℕ) Refusal
  answer = unit_marks v place u.first_period (period_count u) left

  -- the refusal of a unit is that of all
  pub natural-refused : (r : Refusal) → answer ≡ Err r → mark_refusal left (natural_marks v place (u ∷ us)) ≡ Some r
  unfolding unit_marks
  natural-refused r e = natural-refusal ∙ by (mark_refusal left (of_unit v place u)) e
    where
      by : (o : Option Refusal) → unit_answered o (place_after_unit v place u) (left - period_count u) ≡ Err r → or_next o (mark_refusal (left - period_count u) others) ≡ Some r
      by None e = let z : ◌≡◌ {A = ℕ} 0 1 = cc in absurd (omega arith)
      by (Some c) e = cc

  -- after a unit that is not refused, the others decide
  pub record Passed (place₁ left₁ : ℕ) : Type 0 where
    pub spoken : mark_refusal left (of_unit v place u) ≡ None
    pub next : place₁ ≡ place_after_unit v place u
    pub counted : left₁ + period_count u ≡ left
    pub rest : mark_refusal left (natural_marks v place (u ∷ us)) ≡ mark_refusal left₁ (natural_marks v place₁ us)

  pub natural-passed : (place₁ left₁ : ℕ) → answer ≡ Ok (place₁, left₁) → Passed place₁ left₁
  unfolding unit_marks
  natural-passed place₁ left₁ e = by (mark_refusal left (of_unit v place u)) refl e
    where
      by : (o : Option Refusal) → mark_refusal left (of_unit v place u) ≡ o → unit_answered o (place_after_unit v place u) (left - period_count u) ≡ Ok (place₁, left₁) → Passed place₁ left₁
      by (Some c) q e = let z : ◌≡◌ {A = ℕ} 0 1 = cc in absurd (omega arith)
      by None q e =
          let p : ◌≡◌ {A = ℕ × ℕ} (place_after_unit v place u, left - period_count u) (place₁, left₁) = cc in
          let a : place_after_unit v place u ≡ place₁ = ap (λ (x : ℕ × ℕ). x.0) p in
          let b : left - period_count u ≡ left₁ = ap (λ (x : ℕ × ℕ). x.1) p in
          let c = refusal-count left (of_unit v place u) q in
          let n = length-unit v place u in
          record { spoken = q; next = sym a; counted = omega arith; rest = natural-refusal ∙ rw (q, a, b) }

-- no unit is left
pub natural-none : (v : Voice) (place left : ℕ) → mark_refusal left (natural_marks v place []) ≡ None
unfolding natural_marks mark_refusal
natural-none v place left = refl

pub natural-length : (v : Voice) (place : ℕ) (u : Unit) (us : List Unit) → length (natural_marks v place (u ∷ us)) ≡ period_count u + length (natural_marks v (place_after_unit v place u) us)
natural-length v place u us = ap length (natural-unit v place u us) ∙ length-append (of_unit v place u) _ ∙ ap (λ (n : ℕ). n + length (natural_marks v (place_after_unit v place u) us)) (length-unit v place u)

-- ---- the store

-- marks that are stored in two parts
store-part : (d : List ℕ) (i n : ℕ) (ms ns all : List ℕ) → length ms ≡ n → Stores d i (ms ++ ns) all → Stores (sets d (4 * i) (flat (bytes_of 4) ms)) (i + n) ns all
store-part d i n ms ns all l s =
    let r : 4 * i + 4 * (length ms + length ns) ≤ length d = rw length-append at s.room in
    let e : 4 * i + length (flat (bytes_of 4) ms) ≡ 4 * (i + n) = rw (length-flat (bytes_of 4) 4 (length-bytes_of 4) ms) (omega arith) in
    record {
      room = rw length-sets (omega arith);
      whole =
          ap (λ (k : ℕ). sets (sets d (4 * i) (flat (bytes_of 4) ms)) k (flat (bytes_of 4) ns)) (sym e)
          ∙ sym (sets-append d (4 * i) (flat (bytes_of 4) ms) (flat (bytes_of 4) ns))
          ∙ ap (sets d (4 * i)) (sym (flat_append (bytes_of 4) ms ns))
          ∙ s.whole;
    }

-- the units are still to store, the first of which begins at a place, from element i on
pub record UnitsStoring (v : Voice) (place left : ℕ) (us : List Unit) (d : List ℕ) (i : ℕ) (all : List ℕ) : Type 0 where
  pub spoken : mark_refusal left (natural_marks v place us) ≡ None
  pub low : place ≤ limit
  pub stores : Stores d i (natural_marks v place us) all

module _ (v : Voice) (place left : ℕ) (u : Unit) (us : List Unit) (d : List ℕ) (i : ℕ) (all : List ℕ) (k : UnitsStoring v place left (u ∷ us) d i all) where
  both : (mark_refusal left (of_unit v place u) ≡ None) × (mark_refusal (left - period_count u) (natural_marks v (place_after_unit v place u) us) ≡ None)
  both = none_both _ _ (sym (natural-refusal v place left u us) ∙ k.spoken)

  parted : Stores d i (of_unit v place u ++ natural_marks v (place_after_unit v place u) us) all
  parted = subst (λ (ms : List ℕ). Stores d i ms all) (natural-unit v place u us) k.stores

  pub units-low : place_after_unit v place u ≤ limit
  units-low = place-low v place u.first_period (period_count u) k.low (refusal-low left (of_unit v place u) both.0)

  pub units-room : 4 * i + 4 * period_count u ≤ length d
  units-room =
      let r : 4 * i + 4 * (length (of_unit v place u) + length (natural_marks v (place_after_unit v place u) us)) ≤ length d = rw length-append at parted.room in
      let l = length-unit v place u in
      omega arith

  pub units-storing : (d₁ : List ℕ) → d₁ ≡ sets d (4 * i) (flat (bytes_of 4) (of_unit v place u)) → UnitsStoring v (place_after_unit v place u) (left - period_count u) us d₁ (i + period_count u) all
  units-storing d₁ e = record { spoken = both.1; low = units-low; stores = rw e (store-part d i (period_count u) (of_unit v place u) _ all (length-unit v place u) parted) }

-- before the first unit
pub units-first : (v : Voice) (us : List Unit) (d : List ℕ) → mark_refusal most_marks (natural_marks v 0 us) ≡ None → 4 * length (natural_marks v 0 us) ≤ length d
    → UnitsStoring v 0 most_marks us d 0 (over (flat (bytes_of 4) (natural_marks v 0 us)) d)
units-first v us d e h = record { spoken = e; low = omega arith; stores = store-all d (natural_marks v 0 us) h }

-- after the last one
pub units-stored : (v : Voice) (place left : ℕ) (d : List ℕ) (i : ℕ) (all : List ℕ) → UnitsStoring v place left [] d i all → d ≡ all
unfolding natural_marks
units-stored v place left d i all k = store-none d i all k.stores

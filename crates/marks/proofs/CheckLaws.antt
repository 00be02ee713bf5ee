-- The loop that checks pitch marks.
use Rattle.std.specs.Prelude.{Err, None, Ok, Option, Result, Some}
use Rattle.marks.specs.declared.Counts.{Counts}
use Rattle.std.proofs.Common.{◌≡◌, ℕ, suc, ◌+◌, ◌<◌, ◌≤◌, Bool, true, false, ◌&&◌, leb, List, [], length, sym, refl, ap, ◌∙◌, subst, arith}
use Rattle.refusal.specs.declared.Refusal.{Refusal}
use Rattle.sheet.specs.declared.Places.{Places}
use Rattle.sheet.specs.Sheet.{sheet_of}
use Rattle.sheet.specs.Places.{answer_in, sheet_places}
use Rattle.units.specs.Units.{limit}
use Rattle.marks.specs.declared.Walk.{Walk}
use Rattle.marks.specs.declared.Tally.{Tally}
use Rattle.marks.specs.PitchMarks.{Made, most_marks, pitch_marks}
use Rattle.marks.specs.Walking.{coming, Reads, fresh_walk, Steps, beginning, stops}
use Rattle.marks.specs.Checking.{last_of, up_to, answered, checked_marks, takes, tallied}
use Rattle.marks.proofs.UpToLaws.{up_to-by}
use Rattle.marks.proofs.WalkLaws.{fresh-coming}

-- ---- what is answered once some marks are counted

-- the marks that are still taken
abbrev pub front : Bool → ℕ → List ℕ → List ℕ
front true end ms = up_to end ms
front false end ms = []

abbrev pub answer : ℕ → Bool → ℕ → ℕ → ℕ → Made → Result Counts Refusal
answer end taking count taken last m =
    let f = front taking end m.marks in
    answered m.refusal (count + length m.marks) (taken + length f) (last_of last f)

unfoldable pub answer_from : ℕ → Tally → Made → Result Counts Refusal
answer_from end t m = answer end t.taking t.count t.taken t.last m

abbrev pub fresh_tally : Tally
fresh_tally = record { taking = true; count = 0; taken = 0; last = 0 }

answer-whole : (end : ℕ) (m : Made) → answer_from end fresh_tally m ≡ checked_marks end m
unfolding answer_from checked_marks
answer-whole end m =
    let e : 0 + length m.marks ≡ length m.marks = omega arith in
    let f : 0 + length (up_to end m.marks) ≡ length (up_to end m.marks) = omega arith in
    rw (e, f)

answer-refused : (end : ℕ) (t : Tally) (r : Refusal) → answer_from end t (stops (Some r)) ≡ Err r
unfolding answer_from
answer-refused end t r = refl

answer-done : (end : ℕ) (t : Tally) → answer_from end t (stops None) ≡ Ok (record { marks = t.count; taken = t.taken; last = t.last })
unfolding answer_from last_of up_to
answer-done end t = by t.taking
  where
    e : t.count + 0 ≡ t.count
    e = omega arith

    f : t.taken + 0 ≡ t.taken
    f = omega arith

    by : (o : Bool) → answer end o t.count t.taken t.last (stops None) ≡ Ok (record { marks = t.count; taken = t.taken; last = t.last })
    by true = rw (e, f)
    by false = rw (e, f)

answer-mark : (end : ℕ) (t : Tally) (m : ℕ) (rest : Made) → answer_from end t (beginning m rest) ≡ answer_from end (tallied t m (takes t end m)) rest
unfolding answer_from last_of
answer-mark end t m rest = by t.taking (leb m end) refl
  where
    e : (n k : ℕ) → n + suc k ≡ n + 1 + k
    e n k = omega arith

    by : (o l : Bool) → leb m end ≡ l → answer end o t.count t.taken t.last (beginning m rest) ≡ answer_from end (tallied t m (o && l)) rest
    by true true q = rw (up_to-by end m rest.marks true q, e t.count (length rest.marks), e t.taken (length (up_to end rest.marks)))
    by true false q = rw (up_to-by end m rest.marks false q, e t.count (length rest.marks))
    by false l q = rw (e t.count (length rest.marks))

-- ---- one turn

-- after the marks of a tally, the same is to be answered
pub record Counting (sheet : List ℕ) (end : ℕ) (w₀ w : Walk) (t : Tally) : Type 0 where
  pub same : answer_from end t (coming sheet w) ≡ answer_from end fresh_tally (coming sheet w₀)
  pub ahead : Reads sheet w
  pub counted : t.count + w.left ≡ most_marks
  pub fewer : t.taken ≤ t.count
  pub low : t.last ≤ limit

module _ (sheet : List ℕ) (end : ℕ) (w₀ w : Walk) (t : Tally) (k : Counting sheet end w₀ w t) where
  begins : {m : Made} → coming sheet w ≡ m → answer_from end t m ≡ answer_from end fresh_tally (coming sheet w₀)
  begins q = sym (ap (answer_from end t) q) ∙ k.same

  pub counting-refused : (r : Refusal) → coming sheet w ≡ stops (Some r) → Err r ≡ answer_from end fresh_tally (coming sheet w₀)
  counting-refused r q = sym (answer-refused end t r) ∙ begins q

  pub counting-done : coming sheet w ≡ stops None → Ok (record { marks = t.count; taken = t.taken; last = t.last }) ≡ answer_from end fresh_tally (coming sheet w₀)
  counting-done q = sym (answer-done end t) ∙ begins q

  module _ (m : ℕ) (n : Walk) (i : Steps sheet w m n) where
    pub counting-few : t.count < most_marks
    counting-few =
        let c = k.counted in
        let l = i.counted in
        omega arith

    pub counting-mark : (u : Tally) → u ≡ tallied t m (takes t end m) → Counting sheet end w₀ n u
    counting-mark u e =
        subst (Counting sheet end w₀ n) (sym e) (by (takes t end m) (sym (answer-mark end t m (coming sheet n)) ∙ begins i.is))
      where
        by : (b : Bool) → answer_from end (tallied t m b) (coming sheet n) ≡ answer_from end fresh_tally (coming sheet w₀) → Counting sheet end w₀ n (tallied t m b)
        by true h =
            let c = k.counted in
            let f = k.fewer in
            let l = i.counted in
            record { same = h; ahead = i.ahead; counted = omega arith; fewer = omega arith; low = i.low }
        by false h =
            let c = k.counted in
            let f = k.fewer in
            let l = i.counted in
            record { same = h; ahead = i.ahead; counted = omega arith; fewer = omega arith; low = k.low }

-- ---- all turns

module _ (sheet : List ℕ) (end : ℕ) (p : Places) (rate : ℕ) (w : Walk) (e : answer_in (sheet_places sheet) ≡ Ok p) (f : w ≡ fresh_walk p rate) where
  pub counting-first : Counting sheet end w w fresh_tally
  counting-first = record { same = refl; ahead = (fresh-coming sheet p rate w e f).1; counted = rw f; fewer = omega arith; low = omega arith }

  pub counting-all : answer_from end fresh_tally (coming sheet w) ≡ checked_marks end (pitch_marks rate (sheet_of sheet).targets)
  counting-all = ap (answer_from end fresh_tally) (fresh-coming sheet p rate w e f).0 ∙ answer-whole end (pitch_marks rate (sheet_of sheet).targets)

-- ---- what an answer says

module _ (end : ℕ) (m : Made) where
  abbrev by_refusal : Option Refusal → Result Counts Refusal
  by_refusal o = answered o (length m.marks) (length (up_to end m.marks)) (last_of 0 (up_to end m.marks))

  pub checked_refused : (r : Refusal) → checked_marks end m ≡ Err r → m.refusal ≡ Some r
  unfolding checked_marks
  checked_refused r e = by m.refusal e
    where
      by : (o : Option Refusal) → by_refusal o ≡ Err r → o ≡ Some r
      by None e = let z : ◌≡◌ {A = ℕ} 0 1 = cc in absurd (omega arith)
      by (Some c) e = cc

  pub checked-made : (c : Counts) → checked_marks end m ≡ Ok c
      → (m.refusal ≡ None) × (length m.marks ≡ c.marks) × (length (up_to end m.marks) ≡ c.taken) × (last_of 0 (up_to end m.marks) ≡ c.last)
  unfolding checked_marks
  checked-made c e = by m.refusal e
    where
      by : (o : Option Refusal) → by_refusal o ≡ Ok c
          → (o ≡ None) × (length m.marks ≡ c.marks) × (length (up_to end m.marks) ≡ c.taken) × (last_of 0 (up_to end m.marks) ≡ c.last)
      by None e = (refl, cc, cc, cc)
      by (Some r) e = let z : ◌≡◌ {A = ℕ} 0 1 = cc in absurd (omega arith)

-- The check's answer, by what refuses first.
use Rattle.std.specs.Prelude.{Err, None, Ok, Option, Result, Some}
use mathlib.Core.Path.{◌≡◌, refl, sym, ap, subst, ◌∙◌}
use mathlib.Core.Bool.{Bool, true, false}
use mathlib.Core.List.{List}
use Prim.Native.Nat.{ℕ, ◌≤◌}
use native.Mathlib.Omega.{arith}
use Rattle.base.specs.Choice.{pick}
use Rattle.refusal.specs.declared.Refusal.{Refusal}
use Rattle.refusal.specs.declared.Refusal.TheVariants.{MissingPair}
use Rattle.voice.specs.declared.DiphoneVoice.{DiphoneVoice}
use Rattle.voice.specs.Voice.{voice_of}
use Rattle.voice.specs.Opening.{opening_refusal, IsOpen}
use Rattle.sheet.specs.declared.Places.{Places}
use Rattle.sheet.specs.Sheet.{sheet_of, sheet_refusal}
use Rattle.sheet.specs.Places.{answer_in, sheet_places, refusal_of}
use Rattle.sheet.proofs.ReadLaws.{answer-refusal}
use Rattle.units.specs.declared.Selection.{Selection}
use Rattle.marks.specs.PitchMarks.{most_marks}
use Rattle.call.specs.declared.Need.{Need}
use Rattle.call.specs.declared.Settings.{Settings}
use Rattle.call.specs.Call.{plan_of, missing_refusal, read_refusal}
use Rattle.call.specs.Buffers.{check_refusal}
use Rattle.call.proofs.CheckLaws.{plan-then, passed-all}
use Rattle.checking.specs.declared.Fit.{Fit}
use Rattle.marks.specs.declared.Counts.{Counts}
use Rattle.checking.specs.Joining.{Asks, Joins, need_by}
use Rattle.checking.specs.Checks.{places_read, fit_of, answer_checked, checked_of, Passes}
use Rattle.checking.proofs.NeedLaws.{need-filled}

-- the answer on a sheet holds what refuses it
pub read-refusal : (sheet : List ℕ) → refusal_of (answer_in (sheet_places sheet)) ≡ sheet_refusal sheet
read-refusal sheet = answer-refusal sheet _ refl

-- an answer, where the opening may refuse first
abbrev pub after_opening : Option Refusal → Result Fit Refusal → Result Fit Refusal
after_opening None a = a
after_opening (Some r) a = Err r

module _ (file sheet : List ℕ) (o : Settings) where
  pub opening-refused : (r : Refusal) → opening_refusal file ≡ Some r → check_refusal file sheet o ≡ Some r
  unfolding check_refusal
  opening-refused r e = rw e

  pub sheet-refused : (r : Refusal) → opening_refusal file ≡ None → sheet_refusal sheet ≡ Some r → check_refusal file sheet o ≡ Some r
  unfolding check_refusal
  sheet-refused r e f = rw (e, f)

  pub read-decides : (x : Option Refusal) → opening_refusal file ≡ None → sheet_refusal sheet ≡ None → read_refusal (voice_of file) (sheet_of sheet) o ≡ x → check_refusal file sheet o ≡ x
  unfolding check_refusal
  read-decides x e f g = rw (e, f) g

  -- ---- the answer

  pub refused-checked : (r : Refusal) → check_refusal file sheet o ≡ Some r → Err r ≡ checked_of file sheet o
  unfolding checked_of
  refused-checked r e = sym (ap (answer_checked (fit_of file sheet o)) e)

  -- by what the opening answers, whatever follows it
  pub checked_by : checked_of file sheet o ≡ after_opening (opening_refusal file) (checked_of file sheet o)
  checked_by = by (opening_refusal file) refl
    where
      by : (x : Option Refusal) → opening_refusal file ≡ x → checked_of file sheet o ≡ after_opening x (checked_of file sheet o)
      by None e = refl
      by (Some r) e = sym (refused-checked r (opening-refused r e))

  pub passed-checked : (f : Fit) → Passes file sheet o f → Ok f ≡ checked_of file sheet o
  unfolding checked_of
  passed-checked f h =
      ap (λ (x : Fit). Ok x) (same h.opened.places (sym (ap places_read h.places)) h.need) ∙ sym (ap (answer_checked (fit_of file sheet o)) h.passed)
    where
      same : {d d' : DiphoneVoice} {p p' : Places} {n n' : Need} → d ≡ d' → p ≡ p' → n ≡ n'
          → ◌≡◌ {A = Fit} (record { voice = d; places = p; need = n }) (record { voice = d'; places = p'; need = n' })
      same a b c = cc

  passes-fit : check_refusal file sheet o ≡ None → Passes file sheet o (fit_of file sheet o)
  passes-fit e =
      let a = passed-all file sheet o e in
      record {
        passed = e;
        opened = record { places = refl; fit = a.opening };
        places = by (answer_in (sheet_places sheet)) (read-refusal sheet ∙ a.reading);
        need = refl;
      }
    where
      by : (r : Result Places Refusal) → refusal_of r ≡ None → r ≡ Ok (places_read r)
      by (Ok p) e = refl
      by (Err r) e = absurd (let z : ◌≡◌ {A = ℕ} 0 1 = cc in omega arith)

  -- what an answer shows
  module _ (r : Result Fit Refusal) (e : r ≡ checked_of file sheet o) where
    pub checked_refused : (c : Refusal) → r ≡ Err c → check_refusal file sheet o ≡ Some c
    unfolding checked_of
    checked_refused c q = by (check_refusal file sheet o) (sym e ∙ q)
      where
        by : (x : Option Refusal) → answer_checked (fit_of file sheet o) x ≡ Err c → x ≡ Some c
        by None k = absurd (let z : ◌≡◌ {A = ℕ} 0 1 = cc in omega arith)
        by (Some y) k = let s : y ≡ c = cc in ap (λ (z : Refusal). Some z) s

    pub checked-passed : (f : Fit) → r ≡ Ok f → Passes file sheet o f
    unfolding checked_of
    checked-passed f q = by (check_refusal file sheet o) refl (sym e ∙ q)
      where
        by : (x : Option Refusal) → check_refusal file sheet o ≡ x → answer_checked (fit_of file sheet o) x ≡ Ok f → Passes file sheet o f
        by None i k = let s : fit_of file sheet o ≡ f = cc in subst (Passes file sheet o) s (passes-fit i)
        by (Some y) i k = absurd (let z : ◌≡◌ {A = ℕ} 0 1 = cc in omega arith)

-- ---- 16, then 10 to 12

module _ (file index sheet : List ℕ) (by : Selection) (o : Settings) (asks : Asks file index sheet by o) (t : Bool)
    (pairs : missing_refusal (voice_of file) (sheet_of sheet) o ≡ pick t None (Some MissingPair)) where
  abbrev opened : IsOpen file by.voice
  opened = asks.searchable.opened

  decided : (x : Option Refusal) → read_refusal (voice_of file) (sheet_of sheet) o ≡ x → check_refusal file sheet o ≡ x
  decided x e = read-decides file sheet o x opened.fit (sym (read-refusal sheet) ∙ ap refusal_of asks.read) e

  missing : (u : Bool) → t ≡ u → missing_refusal (voice_of file) (sheet_of sheet) o ≡ pick u None (Some MissingPair)
  missing u e = pairs ∙ ap (λ (x : Bool). pick x None (Some MissingPair)) e

  pub pair-refused : t ≡ false → Err MissingPair ≡ checked_of file sheet o
  unfolding read_refusal
  pair-refused e = let m = missing false e in refused-checked file sheet o MissingPair (decided (Some MissingPair) (rw m refl))

  module _ (e : t ≡ true) (j : Result Counts Refusal) (is : Joins (plan_of (voice_of file) (sheet_of sheet) o) j) where
    joins : (k : Result Counts Refusal) → j ≡ k → Joins (plan_of (voice_of file) (sheet_of sheet) o) k
    joins k e = subst (λ (x : Result Counts Refusal). Joins (plan_of (voice_of file) (sheet_of sheet) o) x) e is

    by-plan : (x : Option Refusal) → (plan_of (voice_of file) (sheet_of sheet) o).refusal ≡ x → check_refusal file sheet o ≡ x
    by-plan x q = decided x (plan-then _ _ o (missing true e) ∙ q)

    pub join-refused : (r : Refusal) → j ≡ Err r → Err r ≡ checked_of file sheet o
    join-refused r q = refused-checked file sheet o r (by-plan (Some r) (joins (Err r) q))

    module _ (c : Counts) (q : j ≡ Ok c) where
      pub join-few : c.taken ≤ most_marks
      join-few = let m = (joins (Ok c) q).1 in omega (arith, m.few, m.fewer)

      pub join-passed : (n : Need) → n ≡ need_by (voice_of file) c → Ok (record { voice = by.voice; places = by.places; need = n }) ≡ checked_of file sheet o
      join-passed n i =
          let m = joins (Ok c) q in
          passed-checked file sheet o _
          (record {
            passed = by-plan None m.0;
            opened = opened;
            places = asks.read;
            need = i ∙ need-filled file opened.fit (sheet_of sheet) o c m.1;
          })

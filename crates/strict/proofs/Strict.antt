-- A1: all of it, over the contracts.
use Rattle.std.specs.Prelude.{Err, None, Option, Some}
use mathlib.Core.Path.{◌≡◌, refl, sym, ap, subst, ◌∙◌}
use mathlib.Core.Bool.{Bool, true, false}
use mathlib.Core.List.{List, [], ◌∷◌}
use Prim.Native.Nat.{ℕ, ◌*◌}
use native.Mathlib.Omega.{arith}
use lib.Dec.{leb}
use lib.ListN.{length}
use Rattle.base.specs.Choice.{pick}
use Rattle.base.specs.Lists.{every, or_next}
use Rattle.base.proofs.ListLaws.{next-none}
use Rattle.refusal.specs.declared.Refusal.{Refusal}
use Rattle.refusal.specs.declared.Refusal.TheVariants.{BadMagic, SectionCut, NotDiphone, MissingSection, BadHeader, BadTables, BadIndex, BadSheet, NotFinite, BadSlope, PastLimit, TooManyMarks, ShortBuffer, ShortSlice, BadState, MissingPair, LongText}
use Rattle.refusal.specs.Number.{answer_of}
use Rattle.voice.specs.Voice.{voice_of}
use Rattle.voice.specs.Opening.{opening_refusal}
use Rattle.voice.specs.Extends.{Extends}
use Rattle.sheet.specs.Sheet.{sheet_of, sheet_refusal}
use Rattle.sheet.specs.Begins.{Begins}
use Rattle.units.specs.Selecting.{first_tried_found}
use Rattle.pairs.specs.Pairs.{tried_found}
use Rattle.call.specs.declared.Settings.{Settings}
use Rattle.call.specs.Call.{plan_of, missing_refusal, read_refusal, periods_taken, periods_of}
use Rattle.call.specs.Buffers.{Buffers, need_of, fits, check_refusal, call_refusal, answer_by, planned_of, buffers_after}
use Rattle.call.specs.SpokenCall.{SpokenCall, voice_in, sheet_in, periods_in}
use Rattle.call.proofs.CheckLaws.{missing-loose, missing-strict, pair-first, plan-then, passed-all}
use Rattle.reporting.specs.Report.{report_of, refusal_of_report, lines_left}
use Rattle.c_state.specs.State.{state_length}
use Rattle.c_plan.specs.Reports.{report_length}
use Rattle.c_plan.specs.Plan.{Handed, refusal_of_need, need_left, refusal_of_plan, handed_after}
use Rattle.law.specs.Longer.{SameSettings, BeginsWith}
use Rattle.law.specs.Made.{PlanMade}
use Rattle.law.specs.MadeInC.{PlanMadeInC}
use Rattle.law.proofs.Demand3.{plan-made, extension, demand3}
use Rattle.law.proofs.InC.{plan-in-c}
use Rattle.unnamed.specs.Kept.{NeedMadeInC, ReportMadeInC}
use Rattle.unnamed.proofs.AlikeLaws.{need-in-c, report-in-c}
use Rattle.strict.specs.Claims.{strictly, AnswersAsOff, Planned16, Number16, AsOff, Misses, RefusesBy, Refuses, old_check_refusal, AsBefore, StrictCalls}
use Rattle.strict.proofs.PairLaws.{lacks-pair, lacks-none, all-by-name}
use Rattle.strict.proofs.OffLaws.{check-same, planned-same, buffers-same, plan-same, handed-same, need-refused-same, need-same, report-refused-same, report-same}
use Rattle.strict.proofs.Causes.{Other, not-other, opening-other, sheet-other, plan-other}

-- ---- what refuses with 16

module _ (file sheet : List ℕ) (o : Settings) where
  misses-then : Misses file sheet o → check_refusal file sheet o ≡ Some MissingPair
  unfolding check_refusal
  misses-then m =
      let a = m.opens in
      let b = m.reads in
      let c = pair-first (voice_of file) (sheet_of sheet) o m.strict (lacks-none (voice_of file) o.fold (sheet_of sheet).segments m.lacks) in
      rw (a, b, c) refl

  -- a cause of document 01's is not it
  other : (r : Option Refusal) → Other r → r ≡ Some MissingPair → ⊥
  other r h e = not-other (subst Other e h)

  misses-only : check_refusal file sheet o ≡ Some MissingPair → Misses file sheet o
  unfolding check_refusal read_refusal
  misses-only e =
      by (opening_refusal file) refl (sheet_refusal sheet) refl (missing_refusal (voice_of file) (sheet_of sheet) o) refl e
      (λ f. other (opening_refusal file) (opening-other file) f) (λ f. other (sheet_refusal sheet) (sheet-other sheet) f)
      (λ f. other (plan_of (voice_of file) (sheet_of sheet) o).refusal (plan-other (voice_of file) (sheet_of sheet) o) f)
      (lacking o.strict refl (tried_found (voice_of file) o.fold (sheet_of sheet).segments) refl)
    where
      lacking : (t : Bool) → o.strict ≡ t → (u : Bool) → tried_found (voice_of file) o.fold (sheet_of sheet).segments ≡ u
          → (r : Refusal) → missing_refusal (voice_of file) (sheet_of sheet) o ≡ Some r → opening_refusal file ≡ None → sheet_refusal sheet ≡ None → Misses file sheet o
      lacking true s false f r m a b = record { strict = s; opens = a; reads = b; lacks = lacks-pair (voice_of file) o.fold (sheet_of sheet).segments f }
      lacking true s true f r m a b =
          absurd (let k = sym m ∙ missing-strict (voice_of file) (sheet_of sheet) o s ∙ ap (λ (x : Bool). pick x None (Some MissingPair)) f in let z : ◌≡◌ {A = ℕ} 0 1 = cc in omega arith)
      lacking false s u f r m a b = absurd (let k = sym m ∙ missing-loose (voice_of file) (sheet_of sheet) o s in let z : ◌≡◌ {A = ℕ} 0 1 = cc in omega arith)

      by : (a : Option Refusal) → opening_refusal file ≡ a → (b : Option Refusal) → sheet_refusal sheet ≡ b → (c : Option Refusal) → missing_refusal (voice_of file) (sheet_of sheet) o ≡ c
          → or_next a (or_next b (or_next c (plan_of (voice_of file) (sheet_of sheet) o).refusal)) ≡ Some MissingPair
          → (opening_refusal file ≡ Some MissingPair → ⊥) → (sheet_refusal sheet ≡ Some MissingPair → ⊥) → ((plan_of (voice_of file) (sheet_of sheet) o).refusal ≡ Some MissingPair → ⊥)
          → ((r : Refusal) → missing_refusal (voice_of file) (sheet_of sheet) o ≡ Some r → opening_refusal file ≡ None → sheet_refusal sheet ≡ None → Misses file sheet o)
          → Misses file sheet o
      by (Some x) p b q c r e h k l m = absurd (h (p ∙ e))
      by None p (Some y) q c r e h k l m = absurd (k (q ∙ e))
      by None p None q (Some z) r e h k l m = m z r p q
      by None p None q None r e h k l m = absurd (l e)

-- 13 behind it is not it
short-next : (a : Option Refusal) (t : Bool) → or_next a (pick t None (Some ShortBuffer)) ≡ Some MissingPair → a ≡ Some MissingPair
short-next None true e = absurd (let z : ◌≡◌ {A = ℕ} 0 1 = cc in omega arith)
short-next None false e = absurd (let z : ◌≡◌ {A = ℕ} 0 1 = cc in omega arith)
short-next (Some x) t e = e

-- nor has another refusal its number
sixteen : (u : Option Refusal) → answer_of u ≡ 16 → u ≡ Some MissingPair
sixteen None e = absurd (omega arith)
sixteen (Some BadMagic) e = absurd (omega arith)
sixteen (Some SectionCut) e = absurd (omega arith)
sixteen (Some NotDiphone) e = absurd (omega arith)
sixteen (Some MissingSection) e = absurd (omega arith)
sixteen (Some BadHeader) e = absurd (omega arith)
sixteen (Some BadTables) e = absurd (omega arith)
sixteen (Some BadIndex) e = absurd (omega arith)
sixteen (Some BadSheet) e = absurd (omega arith)
sixteen (Some NotFinite) e = absurd (omega arith)
sixteen (Some BadSlope) e = absurd (omega arith)
sixteen (Some PastLimit) e = absurd (omega arith)
sixteen (Some TooManyMarks) e = absurd (omega arith)
sixteen (Some ShortBuffer) e = absurd (omega arith)
sixteen (Some ShortSlice) e = absurd (omega arith)
sixteen (Some BadState) e = absurd (omega arith)
sixteen (Some MissingPair) e = refl
sixteen (Some LongText) e = absurd (omega arith)

-- ---- each function's refusal, by the check's

module _ (file sheet : List ℕ) (o : Settings) where
  abbrev Checked16 : Type 0
  Checked16 = check_refusal file sheet o ≡ Some MissingPair

  call-then : (b : Buffers) → Checked16 → call_refusal file sheet o b ≡ Some MissingPair
  unfolding call_refusal
  call-then b e = rw e refl

  call-only : (b : Buffers) → call_refusal file sheet o b ≡ Some MissingPair → Checked16
  unfolding call_refusal
  call-only b e = short-next (check_refusal file sheet o) (fits (voice_of file) (sheet_of sheet) o b) e

  planned-then : (b : Buffers) → Checked16 → Planned16 (planned_of file sheet o b) × (buffers_after file sheet o b ≡ b)
  unfolding planned_of buffers_after
  planned-then b e = let c = call-then b e in rw c (refl, refl)

  planned-only : (b : Buffers) → Planned16 (planned_of file sheet o b) → Checked16
  unfolding planned_of
  planned-only b e = call-only b (by (call_refusal file sheet o b) e)
    where
      by : (r : Option Refusal) → (answer_by (voice_of file) (sheet_of sheet) o r).answer ≡ Err MissingPair → r ≡ Some MissingPair
      by None e = absurd (let z : ◌≡◌ {A = ℕ} 0 1 = cc in omega arith)
      by (Some c) e = let s : c ≡ MissingPair = cc in ap (λ (x : Refusal). Some x) s

  plan-then16 : (h : Handed) → Checked16 → Number16 (answer_of (refusal_of_plan file sheet o h)) × (handed_after file sheet o h ≡ h)
  unfolding refusal_of_plan handed_after
  plan-then16 h e = let c = call-then h.buffers e in rw c (refl, refl)

  plan-only : (h : Handed) → Number16 (answer_of (refusal_of_plan file sheet o h)) → Checked16
  unfolding refusal_of_plan
  plan-only h e = call-only h.buffers (short-next (call_refusal file sheet o h.buffers) (every (leb state_length (length h.state) ∷ leb report_length (length h.summary) ∷ [])) (sixteen (refusal_of_plan file sheet o h) e))

  need-then : (old : List ℕ) → Checked16 → Number16 (answer_of (refusal_of_need file sheet o (length old))) × (need_left file sheet o old ≡ old)
  unfolding refusal_of_need
  need-then old e = rw e (refl, refl)

  need-only : (old : List ℕ) → Number16 (answer_of (refusal_of_need file sheet o (length old))) → Checked16
  unfolding refusal_of_need
  need-only old e = short-next (check_refusal file sheet o) (leb report_length (length old)) (sixteen (refusal_of_need file sheet o (length old)) e)

  report-then : (old : List ℕ) → Checked16 → Number16 (answer_of (refusal_of_report file sheet o (length old))) × (lines_left file sheet o old ≡ old)
  unfolding refusal_of_report lines_left
  report-then old e = rw e (refl, refl)

  report-only : (old : List ℕ) → Number16 (answer_of (refusal_of_report file sheet o (length old))) → Checked16
  unfolding refusal_of_report
  report-only old e = short-next (check_refusal file sheet o) (leb (16 * length (report_of (voice_of file) (sheet_of sheet) o)) (length old)) (sixteen (refusal_of_report file sheet o (length old)) e)

-- ---- where what a call answers and leaves is a definition's

module _ (file sheet : List ℕ) {R L : Type 0} (Made : Settings → L → R → L → Type 0) (Is16 : R → Type 0) (answer : Settings → L → R) (leaves : Settings → L → L)
    (is : (o : Settings) (old : L) (r : R) (left : L) → Made o old r left → (r ≡ answer o old) × (left ≡ leaves o old))
    (then16 : (o : Settings) (old : L) → check_refusal file sheet o ≡ Some MissingPair → Is16 (answer o old) × (leaves o old ≡ old)) where
  as-off : (o : Settings) (old : L) → let on = strictly true o in let off = strictly false o in
      (check_refusal file sheet on ≡ check_refusal file sheet off → (answer on old ≡ answer off old) × (leaves on old ≡ leaves off old))
      → AnswersAsOff (λ x. Made x old) Is16 o
  as-off o old same r r₁ left left₁ m m₁ n =
      let x = is (strictly true o) old r left m in
      let y = is (strictly false o) old r₁ left₁ m₁ in
      let s = same (check-same file sheet o (λ e. n (subst Is16 (sym x.0) (then16 (strictly true o) old e).0))) in
      (x.0 ∙ s.0 ∙ sym y.0, x.1 ∙ s.1 ∙ sym y.1)

  refuses-by : ((o : Settings) (old : L) → Is16 (answer o old) → check_refusal file sheet o ≡ Some MissingPair) → RefusesBy Made Is16 file sheet
  refuses-by only =
      record {
        then16 = λ o old left r m k.
            let x = is o old r left m in
            let t = then16 o old (misses-then file sheet o k) in
            (subst Is16 (sym x.0) t.0, x.1 ∙ t.1);
        only16 = λ o old left r m k. misses-only file sheet o (only o old (subst Is16 (is o old r left m).0 k));
      }

as-with-off : (o : Settings) → AsOff o
as-with-off o =
    record {
      plan = λ file sheet b.
          as-off file sheet (λ x b. PlanMade file sheet x b) Planned16 _ _ (λ x b r left. plan-made file sheet x b left r) (planned-then file sheet) o b
          (λ s. (planned-same file sheet o s b, buffers-same file sheet o s b));
      plan_in_c = λ file sheet h.
          as-off file sheet (λ x h. PlanMadeInC file sheet x h) Number16 _ _ (plan-in-c file sheet) (plan-then16 file sheet) o h
          (λ s. (ap answer_of (plan-same file sheet o s h), handed-same file sheet o s h));
      need_in_c = λ file sheet old.
          as-off file sheet (λ x old. NeedMadeInC file sheet x old) Number16 _ _ (need-in-c file sheet) (need-then file sheet) o old
          (λ s. (ap answer_of (need-refused-same file sheet o s (length old)), need-same file sheet o s old));
      report_in_c = λ file sheet old.
          as-off file sheet (λ x old. ReportMadeInC file sheet x old) Number16 _ _ (report-in-c file sheet) (report-then file sheet) o old
          (λ s. (ap answer_of (report-refused-same file sheet o s (length old)), report-same file sheet o s old));
    }

refuses-exactly : (file sheet : List ℕ) → Refuses file sheet
refuses-exactly file sheet =
    record {
      plan = refuses-by file sheet (λ x b. PlanMade file sheet x b) Planned16 _ _ (λ x b r left. plan-made file sheet x b left r) (planned-then file sheet) (planned-only file sheet);
      plan_in_c = refuses-by file sheet (λ x h. PlanMadeInC file sheet x h) Number16 _ _ (plan-in-c file sheet) (plan-then16 file sheet) (plan-only file sheet);
      need_in_c = refuses-by file sheet (λ x old. NeedMadeInC file sheet x old) Number16 _ _ (need-in-c file sheet) (need-then file sheet) (need-only file sheet);
      report_in_c = refuses-by file sheet (λ x old. ReportMadeInC file sheet x old) Number16 _ _ (report-in-c file sheet) (report-then file sheet) (report-only file sheet);
    }

-- ---- a spoken call

-- it is one with strict off too
loose : (file sheet : List ℕ) (o : Settings) (b : Buffers) → call_refusal file sheet o b ≡ None → call_refusal file sheet (strictly false o) b ≡ None
unfolding call_refusal check_refusal read_refusal missing_refusal fits need_of periods_taken plan_of
loose file sheet o b e =
    let k = next-none (check_refusal file sheet o) _ e in
    let p = passed-all file sheet o k.0 in
    let a = p.opening in
    let r = p.reading in
    let l = p.plan in
    rw (a, r, l) k.1

abbrev loosely : SpokenCall → SpokenCall
loosely c =
    record {
      voice_file = c.voice_file;
      sheet_file = c.sheet_file;
      settings = strictly false c.settings;
      lent = c.lent;
      bytes = c.bytes;
      not_refused = loose c.voice_file c.sheet_file c.settings c.lent c.not_refused;
    }

longer-loosely : (c d : SpokenCall) → SameSettings (strictly false d.settings) (strictly false c.settings) → Extends (voice_in d) (voice_in c)
    → Begins (sheet_in d) (sheet_in c) → first_tried_found (voice_in c) c.settings.fold (sheet_in c).segments ≡ true → BeginsWith d c (periods_in d) (periods_in c)
unfolding periods_of periods_taken plan_of
longer-loosely c d s x b f = let e = extension (loosely c) (loosely d) (record { settings = s; extends = x; begins = b; found = f }) in record { heads = e.heads; equal = e.equal }

-- each pair of it, where it is strict, by a name that it tries
found-then : (t : Bool) → pick t None (Some MissingPair) ≡ None → t ≡ true
found-then true e = refl
found-then false e = absurd (let z : ◌≡◌ {A = ℕ} 0 1 = cc in omega arith)

all_found : (file sheet : List ℕ) (o : Settings) (b : Buffers) → call_refusal file sheet o b ≡ None → o.strict ≡ true
    → tried_found (voice_of file) o.fold (sheet_of sheet).segments ≡ true
unfolding call_refusal
all_found file sheet o b e s =
    let p = passed-all file sheet o (next-none (check_refusal file sheet o) _ e).0 in
    found-then _ (sym (missing-strict (voice_of file) (sheet_of sheet) o s) ∙ p.pairs)

-- ---- strict off

old-check : (file sheet : List ℕ) (o : Settings) → o.strict ≡ false → check_refusal file sheet o ≡ old_check_refusal file sheet o
unfolding check_refusal
old-check file sheet o e = let p = plan-then (voice_of file) (sheet_of sheet) o (missing-loose (voice_of file) (sheet_of sheet) o e) in rw p

as_before : (file sheet : List ℕ) (o : Settings) → o.strict ≡ false → AsBefore file sheet o
unfolding planned_of buffers_after call_refusal
as_before file sheet o e =
    let c = old-check file sheet o e in
    record {
      check = c;
      plan = λ b after r made. let p = plan-made file sheet o b after r made in rw c at p;
    }

pub strict-calls : StrictCalls
strict-calls =
    record {
      as_off = as-with-off;
      refuses = refuses-exactly;
      off = as_before;
      by_name = λ file sheet o b after r m made strict spoken.
          all-by-name (voice_of file) o.fold (sheet_of sheet).segments (all_found file sheet o b (demand3.spoken file sheet o b after r m made spoken) strict);
      by_name_in_c = λ file sheet o h after made strict.
          all-by-name (voice_of file) o.fold (sheet_of sheet).segments (all_found file sheet o h.buffers (demand3.spoken_in_c file sheet o h after made) strict);
      longer = longer-loosely;
    }

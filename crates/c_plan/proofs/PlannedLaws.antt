-- What `diphone_need` and `diphone_plan` answer and leave, case by case.
use Rattle.std.specs.Prelude.{Err, None, Ok, Option, Some}
use mathlib.Core.Path.{◌≡◌, refl, sym, ap, subst, ◌∙◌}
use mathlib.Core.Bool.{Bool, true, false}
use mathlib.Core.List.{List, [], ◌∷◌}
use Prim.Native.Nat.{ℕ, ◌≤◌, ◌<◌}
use native.Mathlib.Omega.{arith}
use borrow.Author.Tests.{le-leb, lt-leb}
use lib.Dec.{leb}
use lib.ListN.{length}
use Rattle.base.specs.Choice.{pick}
use Rattle.base.specs.Lists.{every, or_next}
use Rattle.base.specs.Buffers.{over}
use Rattle.base.proofs.ListLaws.{every-pass, every-fail, every_one}
use Rattle.refusal.specs.declared.Refusal.{Refusal}
use Rattle.refusal.specs.declared.Refusal.TheVariants.{ShortBuffer}
use Rattle.refusal.specs.Number.{number_of}
use Rattle.refusal.proofs.NumberLaws.{number-some}
use Rattle.voice.specs.Voice.{voice_of}
use Rattle.sheet.specs.Sheet.{sheet_of}
use Rattle.lpc.specs.declared.FilterState.{FilterState}
use Rattle.call.specs.declared.Settings.{Settings}
use Rattle.call.specs.declared.Need.{Need}
use Rattle.call.specs.declared.Summary.{Summary}
use Rattle.call.specs.declared.Planned.{Planned}
use Rattle.call.specs.Buffers.{Buffers, need_of, filled, fits, check_refusal, call_refusal, summary_of, fresh_of, answer_by, planned_of, over_all, left_by, buffers_after}
use Rattle.base.specs.Buffers.{unless_refused}
use Rattle.refusal.specs.Number.{answer_of}
use Rattle.c_plan.specs.Reports.{need_bytes, summary_bytes}
use Rattle.c_state.specs.State.{bytes_of_state}
use Rattle.c_plan.specs.Plan.{short_report, refusal_of_need, need_left, Handed, refusal_of_plan, handed_by, handed_after}

-- ---- the answer 0

-- 0 is no refusal's number
pub answered-none : (u : Option Refusal) → 0 ≡ answer_of u → u ≡ None
answered-none None e = refl
answered-none (Some c) e = absurd (let l = number-some c in omega arith)

-- ---- diphone_need

abbrev pub NeedEnds : List ℕ → List ℕ → Settings → List ℕ → ℕ → List ℕ → Type 0
NeedEnds file sheet o report r after = (r ≡ answer_of (refusal_of_need file sheet o (length report))) × (after ≡ need_left file sheet o report)

module _ (file sheet : List ℕ) (o : Settings) (report : List ℕ) where
  pub need-refused : (c : Refusal) (r : ℕ) → check_refusal file sheet o ≡ Some c → r ≡ number_of c → NeedEnds file sheet o report r report
  unfolding refusal_of_need
  need-refused c r e q = rw (e, q) (refl, refl)

  pub need-passed : (n : Need) (r : ℕ) (after : List ℕ) → check_refusal file sheet o ≡ None → n ≡ need_of (voice_of file) (sheet_of sheet) o
      → r ≡ answer_of (short_report (length report)) → after ≡ unless_refused (short_report (length report)) (need_bytes n) report
      → NeedEnds file sheet o report r after
  unfolding refusal_of_need
  need-passed n r after e q a b = rw e (a, b ∙ ap (λ (m : Need). unless_refused (short_report (length report)) (need_bytes m) report) q)

-- a report that is long enough, or not
pub report-long : (n : ℕ) → 48 ≤ n → short_report n ≡ None
report-long n h = ap (λ (t : Bool). pick t None (Some ShortBuffer)) (le-leb 48 n h)

pub report-short : (n : ℕ) → n < 48 → short_report n ≡ Some ShortBuffer
report-short n h = ap (λ (t : Bool). pick t None (Some ShortBuffer)) (lt-leb 48 n h)

-- ---- diphone_plan

abbrev pub PlanEnds : List ℕ → List ℕ → Settings → Handed → ℕ → Handed → Type 0
PlanEnds file sheet o h r after = (r ≡ answer_of (refusal_of_plan file sheet o h)) × (after ≡ handed_after file sheet o h)

pub by-settings : (file sheet : List ℕ) {o p : Settings} (h : Handed) {r : ℕ} {after : Handed} → p ≡ o → PlanEnds file sheet p h r after → PlanEnds file sheet o h r after
by-settings file sheet h {r} {after} e k = subst (λ (x : Settings). PlanEnds file sheet x h r after) e k

module _ (file sheet : List ℕ) (o : Settings) (h : Handed) where
  abbrev enough : Bool
  enough = every (leb 168 (length h.state) ∷ leb 48 (length h.summary) ∷ [])

  by-refusal : (q : Option Refusal) (r : ℕ) (after : Handed) → refusal_of_plan file sheet o h ≡ q → r ≡ answer_of q → after ≡ handed_by file sheet o h q → PlanEnds file sheet o h r after
  unfolding handed_after
  by-refusal q r after e a b = (a ∙ sym (ap answer_of e), b ∙ sym (ap (handed_by file sheet o h) e))

  pub plan-refused : (c : Refusal) (r : ℕ) → refusal_of_plan file sheet o h ≡ Some c → r ≡ number_of c → PlanEnds file sheet o h r h
  plan-refused c r e q = by-refusal (Some c) r h e q refl

  -- the check refuses
  pub check-refused : (c : Refusal) → check_refusal file sheet o ≡ Some c → refusal_of_plan file sheet o h ≡ Some c
  unfolding refusal_of_plan call_refusal
  check-refused c e = rw e

  -- the state or the summary is short
  by-short : enough ≡ false → check_refusal file sheet o ≡ None → refusal_of_plan file sheet o h ≡ Some ShortBuffer
  unfolding refusal_of_plan call_refusal
  by-short e p = rw (p, e) (either (fits (voice_of file) (sheet_of sheet) o h.buffers))
    where
      either : (t : Bool) → or_next (pick t None (Some ShortBuffer)) (Some ShortBuffer) ≡ Some ShortBuffer
      either true = refl
      either false = refl

  pub state-short : length h.state < 168 → check_refusal file sheet o ≡ None → refusal_of_plan file sheet o h ≡ Some ShortBuffer
  state-short k p = by-short (every-fail _ _ (lt-leb 168 (length h.state) k)) p

  pub summary-short : 168 ≤ length h.state → length h.summary < 48 → check_refusal file sheet o ≡ None → refusal_of_plan file sheet o h ≡ Some ShortBuffer
  summary-short j k p = by-short (every-pass _ _ (le-leb 168 (length h.state) j) ∙ every-fail _ _ (lt-leb 48 (length h.summary) k)) p

  -- both are long enough: it is the call's
  module _ (j : 168 ≤ length h.state) (k : 48 ≤ length h.summary) where
    pub by_call : refusal_of_plan file sheet o h ≡ call_refusal file sheet o h.buffers
    unfolding refusal_of_plan
    by_call =
        ap (λ (t : Bool). or_next (call_refusal file sheet o h.buffers) (pick t None (Some ShortBuffer))) (every-pass _ _ (le-leb 168 (length h.state) j) ∙ every_one _ ∙ le-leb 48 (length h.summary) k)
        ∙ none-next (call_refusal file sheet o h.buffers)
      where
        none-next : (r : Option Refusal) → or_next r None ≡ r
        none-next None = refl
        none-next (Some c) = refl

    pub call-refused : (p : Planned) (c : Refusal) (after : Buffers) (r : ℕ) → p ≡ planned_of file sheet o h.buffers → after ≡ buffers_after file sheet o h.buffers
        → p.answer ≡ Err c → r ≡ number_of c → PlanEnds file sheet o h r (record { buffers = after; state = h.state; summary = h.summary })
    unfolding planned_of buffers_after
    call-refused p c after r e l q n =
        let x = refused-by (call_refusal file sheet o h.buffers) (sym (ap (λ (p : Planned). p.answer) e) ∙ q) in
        let y : after ≡ h.buffers = l ∙ ap (left_by (filled (voice_of file) (sheet_of sheet) o) h.buffers) x in
        by-refusal (Some c) r _ (by_call ∙ x) n (ap (λ (b : Buffers). record { buffers = b; state = h.state; summary = h.summary }) y)
      where
        refused-by : (u : Option Refusal) → (answer_by (voice_of file) (sheet_of sheet) o u).answer ≡ Err c → u ≡ Some c
        refused-by None e = let z : ◌≡◌ {A = ℕ} 0 1 = cc in absurd (omega arith)
        refused-by (Some d) e = cc

    pub call-spoken : (p : Planned) (m : Summary) (after : Buffers) (state summary : List ℕ) → p ≡ planned_of file sheet o h.buffers → after ≡ buffers_after file sheet o h.buffers
        → p.answer ≡ Ok m → state ≡ over (bytes_of_state p.state) h.state → summary ≡ over (summary_bytes m) h.summary
        → PlanEnds file sheet o h 0 (record { buffers = after; state = state; summary = summary })
    unfolding planned_of buffers_after
    call-spoken p m after state summary e l q s t =
        let x = spoken-by (call_refusal file sheet o h.buffers) (sym (ap (λ (p : Planned). p.answer) e) ∙ q) in
        let f : p.state ≡ fresh_of (voice_of file) o = ap (λ (p : Planned). p.state) (e ∙ ap (answer_by (voice_of file) (sheet_of sheet) o) x.0) in
        let y : after ≡ over_all (filled (voice_of file) (sheet_of sheet) o) h.buffers = l ∙ ap (left_by (filled (voice_of file) (sheet_of sheet) o) h.buffers) x.0 in
        let w = s ∙ ap (λ (a : FilterState). over (bytes_of_state a) h.state) f in
        let v = t ∙ ap (λ (a : Summary). over (summary_bytes a) h.summary) x.1 in
        by-refusal None 0 _ (by_call ∙ x.0) refl (all_same y w v)
      where
        spoken-by : (u : Option Refusal) → (answer_by (voice_of file) (sheet_of sheet) o u).answer ≡ Ok m → (u ≡ None) × (m ≡ summary_of (voice_of file) (sheet_of sheet) o)
        spoken-by None e = (refl, cc)
        spoken-by (Some d) e = let z : ◌≡◌ {A = ℕ} 0 1 = cc in absurd (omega arith)

        all_same : {a a' : Buffers} {b b' c c' : List ℕ} → a ≡ a' → b ≡ b' → c ≡ c' → ◌≡◌ {A = Handed} (record { buffers = a; state = b; summary = c }) (record { buffers = a'; state = b'; summary = c' })
        all_same p q r = cc

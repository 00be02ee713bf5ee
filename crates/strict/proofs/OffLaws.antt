-- What a call answers and leaves reads strict by its refusal alone.
use Rattle.std.specs.Prelude.{None, Option, Some}
use mathlib.Core.Path.{◌≡◌, refl, ap, ◌∙◌}
use mathlib.Core.Bool.{Bool, true, false, not}
use mathlib.Core.List.{List}
use Prim.Native.Nat.{ℕ}
use lib.ListN.{length}
use Rattle.base.specs.Choice.{pick}
use Rattle.base.specs.Lists.{or_next}
use Rattle.base.specs.Buffers.{unless_refused}
use Rattle.refusal.specs.declared.Refusal.{Refusal}
use Rattle.refusal.specs.declared.Refusal.TheVariants.{ShortBuffer, MissingPair}
use Rattle.voice.specs.Voice.{voice_of}
use Rattle.voice.specs.Opening.{opening_refusal}
use Rattle.sheet.specs.Sheet.{sheet_of, sheet_refusal}
use Rattle.pairs.specs.Pairs.{tried_found}
use Rattle.call.specs.declared.Settings.{Settings}
use Rattle.call.specs.Call.{plan_of, missing_refusal, read_refusal, periods_taken}
use Rattle.call.specs.Buffers.{Buffers, filled, need_of, fits, check_refusal, call_refusal, summary_of, fresh_of, answer_by, planned_of, left_by, buffers_after}
use Rattle.reporting.specs.Report.{report_of, report_bytes, short_lines, refusal_of_report, lines_left}
use Rattle.c_plan.specs.Reports.{need_bytes}
use Rattle.c_plan.specs.Plan.{Handed, short_report, refusal_of_need, need_left, refusal_of_plan, handed_by, handed_after}
use Rattle.strict.specs.Claims.{strictly}

-- ---- the check

-- by what refuses the voice, the sheet and the plan
check-by : (a b : Option Refusal) (found : Bool) (p : Option Refusal)
    → (or_next a (or_next b (or_next (pick (not found) (Some MissingPair) None) p)) ≡ Some MissingPair → ⊥)
    → or_next a (or_next b (or_next (pick (not found) (Some MissingPair) None) p)) ≡ or_next a (or_next b p)
check-by (Some x) b t p h = refl
check-by None (Some y) t p h = refl
check-by None None true p h = refl
check-by None None false p h = absurd (h refl)

module _ (file sheet : List ℕ) (o : Settings) where
  abbrev on : Settings
  on = strictly true o

  abbrev off : Settings
  off = strictly false o

  pub check-same : (check_refusal file sheet on ≡ Some MissingPair → ⊥) → check_refusal file sheet on ≡ check_refusal file sheet off
  unfolding check_refusal read_refusal missing_refusal plan_of
  check-same h =
      check-by (opening_refusal file) (sheet_refusal sheet) (tried_found (voice_of file) o.fold (sheet_of sheet).segments) (plan_of (voice_of file) (sheet_of sheet) o).refusal h

  -- ---- all else, where the check is the same

  module _ (same : check_refusal file sheet on ≡ check_refusal file sheet off) where
    call_same : (b : Buffers) → call_refusal file sheet on b ≡ call_refusal file sheet off b
    unfolding call_refusal fits need_of periods_taken plan_of
    call_same b = ap (λ (r : Option Refusal). or_next r (pick (fits (voice_of file) (sheet_of sheet) o b) None (Some ShortBuffer))) same

    answer-same : (r : Option Refusal) → answer_by (voice_of file) (sheet_of sheet) on r ≡ answer_by (voice_of file) (sheet_of sheet) off r
    unfolding summary_of fresh_of periods_taken plan_of
    answer-same None = refl
    answer-same (Some r) = refl

    pub planned-same : (b : Buffers) → planned_of file sheet on b ≡ planned_of file sheet off b
    unfolding planned_of
    planned-same b = answer-same (call_refusal file sheet on b) ∙ ap (answer_by (voice_of file) (sheet_of sheet) off) (call_same b)

    pub buffers-same : (b : Buffers) → buffers_after file sheet on b ≡ buffers_after file sheet off b
    unfolding buffers_after filled periods_taken plan_of
    buffers-same b = ap (left_by (filled (voice_of file) (sheet_of sheet) o) b) (call_same b)

    pub plan-same : (h : Handed) → refusal_of_plan file sheet on h ≡ refusal_of_plan file sheet off h
    unfolding refusal_of_plan
    plan-same h = let c = call_same h.buffers in rw c

    pub handed-same : (h : Handed) → handed_after file sheet on h ≡ handed_after file sheet off h
    unfolding handed_after filled summary_of fresh_of periods_taken plan_of
    handed-same h = ap (handed_by file sheet o h) (plan-same h)

    pub need-refused-same : (n : ℕ) → refusal_of_need file sheet on n ≡ refusal_of_need file sheet off n
    unfolding refusal_of_need
    need-refused-same n = ap (λ (r : Option Refusal). or_next r (short_report n)) same

    pub need-same : (old : List ℕ) → need_left file sheet on old ≡ need_left file sheet off old
    unfolding need_of periods_taken plan_of
    need-same old = ap (λ (r : Option Refusal). unless_refused r (need_bytes (need_of (voice_of file) (sheet_of sheet) o)) old) (need-refused-same (length old))

    pub report-refused-same : (n : ℕ) → refusal_of_report file sheet on n ≡ refusal_of_report file sheet off n
    unfolding refusal_of_report report_of plan_of
    report-refused-same n = ap (λ (r : Option Refusal). or_next r (short_lines (length (report_of (voice_of file) (sheet_of sheet) o)) n)) same

    pub report-same : (old : List ℕ) → lines_left file sheet on old ≡ lines_left file sheet off old
    unfolding lines_left report_bytes report_of plan_of
    report-same old = ap (λ (r : Option Refusal). unless_refused r (report_bytes (voice_of file) (sheet_of sheet) o) old) (report-refused-same (length old))

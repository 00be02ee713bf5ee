-- What a call answers and leaves reads of its filter alone which one it ends up with.
use Rattle.std.specs.Prelude.{None, Option, Some}
use mathlib.Core.Path.{◌≡◌, refl, sym, ap, ◌∙◌}
use mathlib.Core.List.{List}
use Prim.Native.Nat.{ℕ}
use Rattle.refusal.specs.declared.Refusal.{Refusal}
use Rattle.voice.specs.Voice.{Voice, voice_of}
use Rattle.sheet.specs.Sheet.{Sheet, sheet_of}
use Rattle.call.specs.declared.Settings.{Settings}
use Rattle.call.specs.Call.{plan_of, missing_refusal, read_refusal, periods_taken, filter_in}
use Rattle.call.specs.Buffers.{Buffers, filled, need_of, fits, check_refusal, call_refusal, summary_of, fresh_of, answer_by, planned_of, buffers_after}
use Rattle.c_plan.specs.Plan.{Handed, refusal_of_need, need_left, refusal_of_plan, handed_after}
use Rattle.law.specs.Longer.{SameSettings}
use Rattle.unnamed.specs.Claims.{chosen}

-- settings with the filter named that they end up with
abbrev ended : Settings → Settings
ended o = chosen o (Some (filter_in o))

ended_same : {p o : Settings} → SameSettings p o → ended p ≡ ended o
ended_same s =
    let j = s.join in
    let f = s.filter in
    let g = s.fold in
    let t = s.strict in
    rw (j, f, g, t)

-- what reads them so is the same of the same settings
by-ended : {A : Type 0} (read : Settings → A) → ((o : Settings) → read o ≡ read (ended o)) → (p o : Settings) → SameSettings p o → read p ≡ read o
by-ended read e p o s = e p ∙ ap read (ended_same s) ∙ sym (e o)

answer-ended : (v : Voice) (s : Sheet) (o : Settings) (r : Option Refusal) → answer_by v s o r ≡ answer_by v s (ended o) r
unfolding summary_of fresh_of periods_taken plan_of
answer-ended v s o None = refl
answer-ended v s o (Some r) = refl

module _ (file sheet : List ℕ) (p o : Settings) (same : SameSettings p o) where
  pub planned-same : (b : Buffers) → planned_of file sheet p b ≡ planned_of file sheet o b
  unfolding planned_of call_refusal check_refusal read_refusal missing_refusal fits need_of periods_taken plan_of
  planned-same b =
      by-ended (λ (x : Settings). planned_of file sheet x b) (λ x. answer-ended (voice_of file) (sheet_of sheet) x (call_refusal file sheet x b)) p o same

  pub buffers-same : (b : Buffers) → buffers_after file sheet p b ≡ buffers_after file sheet o b
  unfolding buffers_after filled call_refusal check_refusal read_refusal missing_refusal fits need_of periods_taken plan_of
  buffers-same b = by-ended (λ (x : Settings). buffers_after file sheet x b) (λ x. refl) p o same

  pub plan-refused-same : (h : Handed) → refusal_of_plan file sheet p h ≡ refusal_of_plan file sheet o h
  unfolding refusal_of_plan call_refusal check_refusal read_refusal missing_refusal fits need_of periods_taken plan_of
  plan-refused-same h = by-ended (λ (x : Settings). refusal_of_plan file sheet x h) (λ x. refl) p o same

  pub handed-same : (h : Handed) → handed_after file sheet p h ≡ handed_after file sheet o h
  unfolding handed_after filled refusal_of_plan call_refusal check_refusal read_refusal missing_refusal fits need_of summary_of fresh_of periods_taken plan_of
  handed-same h = by-ended (λ (x : Settings). handed_after file sheet x h) (λ x. refl) p o same

  pub need-refused-same : (n : ℕ) → refusal_of_need file sheet p n ≡ refusal_of_need file sheet o n
  unfolding refusal_of_need check_refusal read_refusal missing_refusal plan_of
  need-refused-same n = by-ended (λ (x : Settings). refusal_of_need file sheet x n) (λ x. refl) p o same

  pub need-same : (old : List ℕ) → need_left file sheet p old ≡ need_left file sheet o old
  unfolding refusal_of_need check_refusal read_refusal missing_refusal need_of periods_taken plan_of
  need-same old = by-ended (λ (x : Settings). need_left file sheet x old) (λ x. refl) p o same

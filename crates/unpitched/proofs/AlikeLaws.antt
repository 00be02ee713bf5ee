-- A call on a sheet with its boxes filled in is the call on the sheet itself.
use Rattle.std.specs.Prelude.{None, Option, Some}
use mathlib.Core.Path.{◌≡◌, refl, sym, ap}
use mathlib.Core.List.{List}
use Prim.Native.Nat.{ℕ}
use lib.Dec.{ltb}
use lib.ListN.{length}
use Rattle.refusal.specs.declared.Refusal.{Refusal}
use Rattle.voice.specs.Voice.{Voice, voice_of}
use Rattle.sheet.specs.Sheet.{Sheet, sheet_of}
use Rattle.units.specs.Selecting.{folded}
use Rattle.call.specs.declared.JoinType.{JoinType}
use Rattle.call.specs.declared.JoinType.TheVariants.{None, Simple, ModifiedLpc}
use Rattle.call.specs.declared.Settings.{Settings}
use Rattle.call.specs.Call.{modified_plan, plan_by, plan_of, missing_refusal, read_refusal, periods_taken}
use Rattle.call.specs.Buffers.{Buffers, filled, need_of, fits, check_refusal, call_refusal, summary_of, answer_by, planned_of, buffers_after}
use Rattle.call.proofs.CallLaws.{two_segments}
use Rattle.c_plan.specs.Plan.{Handed, refusal_of_plan, handed_after}
use Rattle.unpitched.specs.Boxes.{filled_in, filled_sheet}
use Rattle.unpitched.specs.Claims.{BoxesFilled}
use Rattle.unpitched.proofs.BoxLaws.{marks-same}

-- ---- the plan, and what is made of it

module _ (v : Voice) (s : Sheet) (o : Settings) where
  by-filled : (j : JoinType)
      → plan_by j v (folded o.fold s.segments) (filled_in s.targets) ≡ plan_by j v (folded o.fold s.segments) s.targets
  unfolding plan_by modified_plan
  by-filled None = refl
  by-filled Simple = refl
  by-filled ModifiedLpc = let e = marks-same v.header.rate s.targets in rw e

  plan-filled : plan_of v (filled_sheet s) o ≡ plan_of v s o
  unfolding plan_of
  plan-filled = ap (two_segments (ltb (length s.segments) 2)) (by-filled o.join)

  periods-filled : periods_taken v (filled_sheet s) o ≡ periods_taken v s o
  unfolding periods_taken
  periods-filled = rw plan-filled

  read-filled : read_refusal v (filled_sheet s) o ≡ read_refusal v s o
  unfolding read_refusal missing_refusal
  read-filled = rw plan-filled

  fits-filled : (b : Buffers) → fits v (filled_sheet s) o b ≡ fits v s o b
  unfolding fits need_of
  fits-filled b = rw (periods-filled, plan-filled)

  fills-filled : filled v (filled_sheet s) o ≡ filled v s o
  unfolding filled
  fills-filled = rw (periods-filled, plan-filled)

  summary-filled : summary_of v (filled_sheet s) o ≡ summary_of v s o
  unfolding summary_of
  summary-filled = rw (periods-filled, plan-filled)

  answer-filled : (r : Option Refusal) → answer_by v (filled_sheet s) o r ≡ answer_by v s o r
  answer-filled None = rw summary-filled
  answer-filled (Some r) = refl

-- ---- the call

module _ (file sheet filled-sheet : List ℕ) (o : Settings) (f : BoxesFilled sheet filled-sheet) where
  abbrev v : Voice
  v = voice_of file

  abbrev s : Sheet
  s = sheet_of sheet

  check-alike : check_refusal file filled-sheet o ≡ check_refusal file sheet o
  unfolding check_refusal
  check-alike =
      let a = f.reads in
      let b = f.filled_reads in
      let e = f.is in
      rw (a, b, e, read-filled v s o)

  call-alike : (b : Buffers) → call_refusal file filled-sheet o b ≡ call_refusal file sheet o b
  unfolding call_refusal
  call-alike b = let e = f.is in rw (check-alike, e, fits-filled v s o b)

  pub planned-alike : (b : Buffers) → planned_of file sheet o b ≡ planned_of file filled-sheet o b
  unfolding planned_of
  planned-alike b = let e = f.is in rw (call-alike b, e, answer-filled v s o (call_refusal file sheet o b))

  pub buffers-alike : (b : Buffers) → buffers_after file sheet o b ≡ buffers_after file filled-sheet o b
  unfolding buffers_after
  buffers-alike b = let e = f.is in rw (call-alike b, e, fills-filled v s o)

  pub refusal-alike : (h : Handed) → refusal_of_plan file sheet o h ≡ refusal_of_plan file filled-sheet o h
  unfolding refusal_of_plan
  refusal-alike h = rw (call-alike h.buffers)

  pub handed-alike : (h : Handed) → handed_after file sheet o h ≡ handed_after file filled-sheet o h
  unfolding handed_after
  handed-alike h = let e = f.is in rw (sym (refusal-alike h), e, fills-filled v s o, summary-filled v s o)

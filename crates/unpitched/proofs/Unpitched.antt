-- A6: all of it, over the contracts.
use Rattle.std.specs.Prelude.{None, Ok}
use mathlib.Core.Path.{◌≡◌, sym, ap, subst, ◌∙◌}
use mathlib.Core.List.{List}
use Prim.Native.Nat.{ℕ}
use native.Mathlib.Omega.{arith}
use Rattle.base.specs.Buffers.{over}
use Rattle.base.specs.Bytes.{little_endian}
use Rattle.base.specs.Lists.{Heads}
use Rattle.voice.specs.Voice.{Voice, voice_of}
use Rattle.sheet.specs.Sheet.{Sheet, sheet_of}
use Rattle.sheet.specs.Begins.{Begins}
use Rattle.sheet.proofs.SheetLaws.{sheet-refers}
use Rattle.refusal.specs.Number.{answer_of}
use Rattle.call.specs.declared.Settings.{Settings}
use Rattle.call.specs.declared.Summary.{Summary}
use Rattle.call.specs.declared.Planned.{Planned}
use Rattle.call.specs.Call.{Plan, plan_of}
use Rattle.call.specs.Buffers.{Buffers, summary_of, filled, left_by, buffers_after}
use Rattle.call.proofs.CallLaws.{marks-ahead}
use Rattle.call.proofs.FilledLaws.{call-planned, marks-front}
use Rattle.call.proofs.FewLaws.{plan-most}
use Rattle.c_plan.specs.Plan.{Handed}
use Rattle.c_plan.specs.Reports.{summary_bytes}
use Rattle.c_plan.proofs.NumberLaws.{summary-stored}
use Rattle.law.specs.Longer.{SameSettings}
use Rattle.law.specs.Made.{PlanMade}
use Rattle.law.specs.MadeInC.{PlanMadeInC}
use Rattle.law.proofs.Demand3.{plan-made, same-summary, demand3}
use Rattle.law.proofs.InC.{plan-in-c, spoken-in-c, left-in-c}
use Rattle.unpitched.specs.Claims.{marks_left, marks_left_in_c, Unpitched}
use Rattle.unpitched.proofs.BoxLaws.{marks-filled, in-filled, in-written}
use Rattle.unpitched.proofs.AlikeLaws.{planned-alike, buffers-alike, refusal-alike, handed-alike}

-- ---- the marks that a spoken call leaves are those of its plan

abbrev plan_marks : List ℕ → List ℕ → Settings → List ℕ
plan_marks file sheet o = (plan_of (voice_of file) (sheet_of sheet) o).marks

marks-left : (file sheet : List ℕ) (o : Settings) (b after : Buffers) (r : Planned) (m : Summary) → PlanMade file sheet o b r after → r.answer ≡ Ok m
    → marks_left m after ≡ plan_marks file sheet o
unfolding buffers_after
marks-left file sheet o b after r m p e =
    let n = demand3.spoken file sheet o b after r m p e in
    let q : m ≡ summary_of (voice_of file) (sheet_of sheet) o = same-summary (sym e ∙ demand3.spoken_then file sheet o b after r p n) in
    let l = (plan-made file sheet o b after r p).1 ∙ ap (left_by (filled (voice_of file) (sheet_of sheet) o) b) n in
    rw (q, l) (marks-front (voice_of file) (sheet_of sheet) o (call-planned file sheet o b n) b.marks)

marks-left-in-c : (file sheet : List ℕ) (o : Settings) (h after : Handed) → PlanMadeInC file sheet o h 0 after → marks_left_in_c after ≡ plan_marks file sheet o
unfolding summary_of
marks-left-in-c file sheet o h after p =
    let v = voice_of file in
    let s = sheet_of sheet in
    let k = call-planned file sheet o h.buffers (spoken-in-c file sheet o h after p) in
    let few = plan-most v s o k in
    let count : little_endian 8 (over (summary_bytes (summary_of v s o)) h.summary) 24 ≡ (summary_of v s o).marks = summary-stored (summary_of v s o) h.summary 3 (omega arith) (omega arith) in
    let l = left-in-c file sheet o h after p in
    rw (l, count) (marks-front v s o k h.buffers.marks)

-- ---- a longer sheet

-- under the same settings the marks are the same
settings-alike : (v : Voice) (s : Sheet) (p o : Settings) → SameSettings p o → plan_of v s p ≡ plan_of v s o
unfolding plan_of
settings-alike v s p o e = let j = e.join in let f = e.fold in rw (j, f)

longer-marks : (file sheet longer : List ℕ) (o p : Settings) → SameSettings p o → Begins (sheet_of longer) (sheet_of sheet)
    → (plan_of (voice_of file) (sheet_of sheet) o).refusal ≡ None → Heads (plan_marks file sheet o) (plan_marks file longer p)
longer-marks file sheet longer o p e g n =
    subst (λ (x : Plan). Heads (plan_marks file sheet o) x.marks) (sym (settings-alike (voice_of file) (sheet_of longer) p o e))
    (marks-ahead (voice_of file) (sheet_of sheet) (sheet_of longer) g (sheet-refers sheet) o n)

-- ---- all of it

pub unpitched : Unpitched
unpitched =
    record {
      filled = marks-filled;
      none_empty = in-filled;
      written = in-written;
      alike = λ file sheet filled o b after after₁ r r₁ f p q.
          let x = plan-made file sheet o b after r p in
          let y = plan-made file filled o b after₁ r₁ q in
          (x.0 ∙ planned-alike file sheet filled o f b ∙ sym y.0, x.1 ∙ buffers-alike file sheet filled o f b ∙ sym y.1);
      alike_in_c = λ file sheet filled o h after after₁ r r₁ f p q.
          let x = plan-in-c file sheet o h r after p in
          let y = plan-in-c file filled o h r₁ after₁ q in
          (x.0 ∙ ap answer_of (refusal-alike file sheet filled o f h) ∙ sym y.0, x.1 ∙ handed-alike file sheet filled o f h ∙ sym y.1);
      begins = λ file sheet longer o p b b₁ after after₁ r r₁ m m₁ e g c s d t.
          let n = call-planned file sheet o b (demand3.spoken file sheet o b after r m c s) in
          rw (marks-left file sheet o b after r m c s, marks-left file longer p b₁ after₁ r₁ m₁ d t) (longer-marks file sheet longer o p e g n);
      begins_in_c = λ file sheet longer o p h h₁ after after₁ e g c d.
          let n = call-planned file sheet o h.buffers (spoken-in-c file sheet o h after c) in
          rw (marks-left-in-c file sheet o h after c, marks-left-in-c file longer p h₁ after₁ d) (longer-marks file sheet longer o p e g n);
    }

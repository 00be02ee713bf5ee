-- The report of a call that the first program speaks.
use Rattle.std.specs.Prelude.{Err, None, Ok, Result, Some}
use mathlib.Core.Path.{◌≡◌, sym, ap, subst, ◌∙◌}
use mathlib.Core.List.{List, [], ◌∷◌}
use Prim.Native.Nat.{ℕ, ◌*◌, ◌≤◌}
use native.Mathlib.Nat.{le_of_eq}
use native.Mathlib.Omega.{arith}
use borrow.Author.Tests.{le-leb}
use lib.ListN.{length, take, replicate, length-replicate}
use Rattle.base.specs.Buffers.{over, flat}
use Rattle.base.specs.Bytes.{Bytes}
use Rattle.base.proofs.BoundLaws.{Each, nil, cons}
use Rattle.base.proofs.BufferLaws.{length_over, take-over}
use Rattle.base.proofs.ListLaws.{next-none}
use Rattle.refusal.specs.declared.Refusal.{Refusal}
use Rattle.voice.specs.Voice.{voice_of}
use Rattle.sheet.specs.Sheet.{sheet_of}
use Rattle.call.specs.declared.Settings.{Settings}
use Rattle.call.specs.declared.Summary.{Summary}
use Rattle.call.specs.declared.Planned.{Planned}
use Rattle.call.specs.Buffers.{Buffers, check_refusal, call_refusal, planned_of}
use Rattle.transcript.specs.Program.{program_settings, program_buffers}
use Rattle.transcript.proofs.CallLaws.{opening, periods-fit, excitation-fit, answer-none, answer-some}
use Rattle.reporting.specs.Report.{Line, line_bytes, report_of, report_bytes, refusal_of_report, reported_of, lines_left}
use Rattle.reporting.specs.Claims.{OfPair}
use Rattle.reporting.proofs.ReportLaws.{EndsBy, as-many-lines, report-few, report-ends}
use Rattle.report.specs.Packed.{lines_in, Short, Printable}
use Rattle.reporting.proofs.LineLaws.{length-lines}
use Rattle.report.proofs.PackedLaws.{lines-back, printable}

-- ---- what the first program's call answers

pub answer-is : (file sheet : List ℕ) (settings : Settings) (r : Planned) → settings ≡ program_settings → r ≡ planned_of file sheet settings program_buffers
    → r.answer ≡ (planned_of file sheet program_settings program_buffers).answer
answer-is file sheet settings r p e = rw (e, p)

module _ (file sheet : List ℕ) (a : Result Summary Refusal) (e : a ≡ (planned_of file sheet program_settings program_buffers).answer) where
  pub spoken-none : {m : Summary} → a ≡ Ok m → call_refusal file sheet program_settings program_buffers ≡ None
  unfolding planned_of
  spoken-none {m} q = answer-none (voice_of file) (sheet_of sheet) program_settings m _ (sym e ∙ q)

  pub refused-some : {c : Refusal} → a ≡ Err c → call_refusal file sheet program_settings program_buffers ≡ Some c
  unfolding planned_of
  refused-some {c} q = answer-some (voice_of file) (sheet_of sheet) program_settings c _ (sym e ∙ q)

-- ---- what the report hands on

-- the front of the buffer that the report was handed in, and its lines
pub record Handed (ls : List Line) (left : List ℕ) (count : ℕ) : Type 0 where
  pub low : count ≤ 1024
  pub whole : length left ≡ 16384
  pub cut : length (take (16 * count) left) ≡ 16 * count
  pub fits : Printable (take (16 * count) left)
  pub lines : lines_in (take (16 * count) left) ≡ ls

short-by : (n : ℕ) (ls : List Line) → n ≤ 4096 → Each (OfPair 4096) ls → Each (EndsBy n) ls → Each Short ls
short-by n [] h nil nil = nil
short-by n (l ∷ ls) h (cons p d) (cons e k) =
    let low = p.low in
    let second = p.second in
    cons {x = l} (record { pair = omega arith; half = omega arith; first = omega arith; size = omega arith }) (short-by n ls h d k)

module _ (file sheet : List ℕ) (settings : Settings) (b : Buffers) (bytes : Bytes file) (n : call_refusal file sheet settings b ≡ None)
    (sizes : length b.sizes ≤ 4096) (excitation : length b.excitation ≤ 4096) where
  abbrev ls : List Line
  ls = report_of (voice_of file) (sheet_of sheet) settings

  few : length ls ≤ 1024
  few =
      let m = as-many-lines (voice_of file) (sheet_of sheet) settings in
      let h = periods-fit file sheet settings b bytes n in
      omega arith

  short : Each Short ls
  short =
      let h = excitation-fit file sheet settings b bytes n in
      short-by _ ls (omega arith) (report-few (voice_of file) sheet settings) (report-ends file (sheet_of sheet) settings (opening file sheet settings b bytes n))

  module _ (old : List ℕ) (long : length old ≡ 16384) where
    passes : refusal_of_report file sheet settings (length old) ≡ None
    unfolding refusal_of_report call_refusal
    passes =
        let h : 16 * length ls ≤ length old = let f = few in omega arith in
        rw ((next-none (check_refusal file sheet settings) _ n).0, le-leb _ _ h)

    -- it is not refused
    pub made : reported_of file sheet settings (length old) ≡ Ok (length ls)
    unfolding reported_of
    made = rw passes

    left_is : lines_left file sheet settings old ≡ over (flat line_bytes ls) old
    unfolding lines_left report_bytes
    left_is = rw passes

    pub never : (r : Result ℕ Refusal) (c : Refusal) → r ≡ reported_of file sheet settings (length old) → r ≡ Err c → ⊥
    never r c e q = let m = made in let z : ◌≡◌ {A = ℕ} 0 1 = cc in omega arith

    pub handed : (r : Result ℕ Refusal) (count : ℕ) (left : List ℕ) → r ≡ reported_of file sheet settings (length old) → left ≡ lines_left file sheet settings old → r ≡ Ok count → Handed ls left count
    handed r count left e l q =
        let m = made in
        let f = few in
        let c : count ≡ length ls = cc in
        let p = length-lines ls in
        let t : take (16 * count) left ≡ flat line_bytes ls = ap (take (16 * count)) (l ∙ left_is) ∙ take-over (flat line_bytes ls) old (16 * count) (p ∙ rw c) in
        record {
          low = omega arith;
          whole = ap length (l ∙ left_is) ∙ length_over (flat line_bytes ls) old (omega arith) ∙ long;
          cut = ap length t ∙ p ∙ rw c;
          fits = subst Printable (sym t) (printable ls short f);
          lines = ap lines_in t ∙ lines-back ls short;
        }

-- ---- by what the report's function ensures, for the first program's settings and buffers

-- the buffer that is lent
abbrev fresh : List ℕ
fresh = replicate 16384 0

fresh-long : length fresh ≡ 16384
fresh-long = length-replicate {A = ℕ} 16384 0

sizes-low : length (replicate {A = ℕ} 4096 0) ≤ 4096
sizes-low = le_of_eq (length-replicate {A = ℕ} 4096 0)

excitation-low : length (replicate {A = ℕ} 4096 255) ≤ 4096
excitation-low = le_of_eq (length-replicate {A = ℕ} 4096 255)

module _ (file sheet : List ℕ) (bytes : Bytes file) (n : call_refusal file sheet program_settings program_buffers ≡ None)
    (settings : Settings) (is : settings ≡ program_settings) (r : Result ℕ Refusal) (answers : r ≡ reported_of file sheet settings (length fresh)) where
  pub never-refused : (c : Refusal) → r ≡ Err c → ⊥
  never-refused c q = never file sheet program_settings program_buffers bytes n sizes-low excitation-low fresh fresh-long r c (rw is at answers) q

  pub hands : (count : ℕ) (left : List ℕ) → left ≡ lines_left file sheet settings fresh → r ≡ Ok count → Handed (report_of (voice_of file) (sheet_of sheet) program_settings) left count
  hands count left l q = handed file sheet program_settings program_buffers bytes n sizes-low excitation-low fresh fresh-long r count left (rw is at answers) (rw is at l) q

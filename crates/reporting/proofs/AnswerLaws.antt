-- What a report answers and leaves, case by case.
use Rattle.std.specs.Prelude.{Err, None, Ok, Option, Result, Some}
use mathlib.Core.Path.{◌≡◌, refl, sym, ap, ◌∙◌}
use mathlib.Core.Bool.{Bool, true, false}
use mathlib.Core.List.{List}
use Prim.Native.Nat.{ℕ, ◌*◌, ◌/◌, ◌≤◌, ◌<◌}
use native.Mathlib.Omega.{arith}
use borrow.Author.Tests.{le-leb, lt-leb}
use lib.Dec.{leb}
use lib.ListN.{length}
use Rattle.base.specs.Choice.{pick}
use Rattle.base.specs.Lists.{or_next}
use Rattle.base.specs.Buffers.{over, unless_refused}
use Rattle.refusal.specs.declared.Refusal.{Refusal}
use Rattle.refusal.specs.declared.Refusal.TheVariants.{ShortBuffer}
use Rattle.voice.specs.Voice.{voice_of}
use Rattle.sheet.specs.Sheet.{sheet_of}
use Rattle.call.specs.declared.Settings.{Settings}
use Rattle.call.specs.Buffers.{check_refusal}
use Rattle.reporting.specs.Report.{report_of, report_bytes, short_lines, refusal_of_report, answer_reported, reported_of, lines_left}

module _ (file sheet : List ℕ) (o : Settings) (lines : List ℕ) where
  abbrev pub Ends : Result ℕ Refusal → List ℕ → Type 0
  Ends r after = (r ≡ reported_of file sheet o (length lines)) × (after ≡ lines_left file sheet o lines)

  abbrev many : ℕ
  many = length (report_of (voice_of file) (sheet_of sheet) o)

  -- by the refusal
  ends_by : (x : Option Refusal) → refusal_of_report file sheet o (length lines) ≡ x
      → Ends (answer_reported many x) (unless_refused x (report_bytes (voice_of file) (sheet_of sheet) o) lines)
  unfolding reported_of lines_left
  ends_by x e = (ap (answer_reported many) (sym e), ap (λ (y : Option Refusal). unless_refused y (report_bytes (voice_of file) (sheet_of sheet) o) lines) (sym e))

  pub report-refused : (c : Refusal) → check_refusal file sheet o ≡ Some c → Ends (Err c) lines
  unfolding refusal_of_report
  report-refused c e = ends_by (Some c) (ap (λ (x : Option Refusal). or_next x (short_lines many (length lines))) e)

  module _ (passed : check_refusal file sheet o ≡ None) where
    by-room : (t : Bool) → leb (16 * many) (length lines) ≡ t → refusal_of_report file sheet o (length lines) ≡ pick t None (Some ShortBuffer)
    unfolding refusal_of_report
    by-room t e = ap (λ (x : Option Refusal). or_next x (short_lines many (length lines))) passed ∙ ap (λ (b : Bool). pick b None (Some ShortBuffer)) e

    module _ (count : ℕ) (is : count ≡ many) where
      pub report-short : length lines / 16 < count → Ends (Err ShortBuffer) lines
      report-short h = ends_by (Some ShortBuffer) (by-room false (lt-leb (16 * many) (length lines) (omega arith)))

      pub report-made : count ≤ length lines / 16 → (after : List ℕ) → after ≡ over (report_bytes (voice_of file) (sheet_of sheet) o) lines → Ends (Ok count) after
      report-made h after e =
          let k = ends_by None (by-room true (le-leb (16 * many) (length lines) (omega arith))) in
          (ap Ok is ∙ k.0, e ∙ k.1)

-- what an answer shows
module _ (file sheet : List ℕ) (o : Settings) (n : ℕ) (r : Result ℕ Refusal) (e : r ≡ reported_of file sheet o n) where
  pub reported-refused : (c : Refusal) → r ≡ Err c → refusal_of_report file sheet o n ≡ Some c
  unfolding reported_of
  reported-refused c q = by (refusal_of_report file sheet o n) (sym e ∙ q)
    where
      by : (x : Option Refusal) → answer_reported (length (report_of (voice_of file) (sheet_of sheet) o)) x ≡ Err c → x ≡ Some c
      by None k = absurd (let z : ◌≡◌ {A = ℕ} 0 1 = cc in omega arith)
      by (Some y) k = let s : y ≡ c = cc in ap (λ (z : Refusal). Some z) s

  pub reported-made : (k : ℕ) → r ≡ Ok k → (refusal_of_report file sheet o n ≡ None) × (k ≡ length (report_of (voice_of file) (sheet_of sheet) o))
  unfolding reported_of
  reported-made k q = by (refusal_of_report file sheet o n) (sym e ∙ q)
    where
      by : (x : Option Refusal) → answer_reported (length (report_of (voice_of file) (sheet_of sheet) o)) x ≡ Ok k → (x ≡ None) × (k ≡ length (report_of (voice_of file) (sheet_of sheet) o))
      by None i = (refl, cc)
      by (Some y) i = absurd (let z : ◌≡◌ {A = ℕ} 0 1 = cc in omega arith)

-- What `diphone_report` answers and leaves, and that its filter plays no part.
use Rattle.std.specs.Prelude.{Err, Ok, Result}
use mathlib.Core.Path.{◌≡◌, sym, ap, subst, ◌∙◌}
use mathlib.Core.List.{List}
use Prim.Native.Nat.{ℕ, ◌/◌, ◌%◌}
use lib.ListN.{length}
use Rattle.refusal.specs.declared.Refusal.{Refusal}
use Rattle.refusal.specs.Number.{number_of, answer_of}
use Rattle.call.specs.declared.Settings.{Settings}
use Rattle.call.specs.Numbers.{join_of, is_set, settings_of}
use Rattle.reporting.specs.Report.{refusal_of_report, reported_of, lines_left}
use Rattle.reporting.specs.Claims.{AnyFilter}
use Rattle.reporting.proofs.ReportLaws.{any-filter}
use Rattle.reporting.proofs.AnswerLaws.{reported-refused, reported-made}

-- its answer, and the lines afterwards
abbrev pub ReportEnds : List ℕ → List ℕ → Settings → List ℕ → ℕ → List ℕ → Type 0
ReportEnds file sheet o old answer after = (answer ≡ answer_of (refusal_of_report file sheet o (length old))) × (after ≡ lines_left file sheet o old)

module _ (file sheet : List ℕ) (o o₁ : Settings) (is : o ≡ o₁) (old : List ℕ) (r : Result ℕ Refusal) (e : r ≡ reported_of file sheet o (length old))
    (after : List ℕ) (left : after ≡ lines_left file sheet o old) where
  pub report-refused : (c : Refusal) → r ≡ Err c → (answer : ℕ) → answer ≡ number_of c → ReportEnds file sheet o₁ old answer after
  report-refused c q answer n =
      subst (λ (s : Settings). ReportEnds file sheet s old answer after) is
      (n ∙ sym (ap answer_of (reported-refused file sheet o (length old) r e c q)), left)

  pub report-made : (k : ℕ) → r ≡ Ok k → ReportEnds file sheet o₁ old 0 after
  report-made k q =
      subst (λ (s : Settings). ReportEnds file sheet s old 0 after) is
      (sym (ap answer_of (reported-made file sheet o (length old) r e k q).0), left)

-- two words that differ in their filters alone have the same report
pub any-filter-in-c : (file sheet : List ℕ) (word word₁ : ℕ) → word % 4 ≡ word₁ % 4 → word / 16 % 2 ≡ word₁ / 16 % 2 → word / 32 % 2 ≡ word₁ / 32 % 2
    → AnyFilter file sheet (settings_of word) (settings_of word₁)
unfolding settings_of
any-filter-in-c file sheet word word₁ join fold strict = any-filter file sheet (settings_of word) (settings_of word₁) (ap join_of join) (ap is_set fold) (ap is_set strict)

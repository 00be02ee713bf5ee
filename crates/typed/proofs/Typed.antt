-- A4: all of it, over the contracts.
use mathlib.Core.Path.{◌≡◌, refl, ap, ◌∙◌}
use mathlib.Core.Bool.{Bool, true, false}
use mathlib.Core.List.{List, [], ◌∷◌, ◌++◌}
use Prim.Native.Nat.{ℕ, zero, suc, ◌≤◌, ◌<◌}
use native.Mathlib.Omega.{arith}
use borrow.Author.Tests.{lt-ltb, le-ltb}
use lib.Dec.{ltb}
use lib.ListN.{length, length-append}
use lib.Seq.{take_at, drop_at}
use lib.Ieee.{binary32, to_bits}
use Rattle.base.specs.Bytes.{bytes_of}
use Rattle.decimal.specs.Decimal.{text_value}
use Rattle.refusal.specs.declared.Refusal.TheVariants.{BadSheet, LongText}
use Rattle.sheet.specs.declared.Value.TheVariants.{Float as FloatValue}
use Rattle.sheet.specs.Sheet.{fails, gets, text, value_of, value, sheet_refusal, sheet_of}
use Rattle.call.specs.declared.Settings.{Settings}
use Rattle.call.specs.Buffers.{planned_of, buffers_after, call_refusal, check_refusal}
use Rattle.c_plan.specs.Plan.{refusal_of_plan, handed_after, refusal_of_need}
use Rattle.reporting.specs.Report.{refusal_of_report, lines_left}
use Rattle.unnamed.specs.Claims.{asked}
use Rattle.unnamed.proofs.AlikeLaws.{SameCalls, calls-alike}
use Rattle.typed.specs.Floats.{in_float, Writer, behind, valued, in_floats}
use Rattle.typed.specs.Claims.{ReadAlike, Typed}
use Rattle.typed.proofs.FloatLaws.{text-is-finite}
use Rattle.typed.proofs.ReadLaws.{front-is, sheet-same}

-- ---- one value

text-read : (t rest : List ℕ) → length t ≤ 12 → value (3 ∷ length t ∷ (t ++ rest)) ≡ gets (FloatValue (text_value t)) rest
unfolding value value_of text
text-read t rest few =
    let enough : ltb (length (t ++ rest)) (length t) ≡ false = le-ltb (length (t ++ rest)) (length t) (rw length-append (omega arith)) in
    rw (le-ltb 12 (length t) few, enough, take_at t rest (length t) refl, drop_at t rest (length t) refl)

text-long : (n : ℕ) (rest : List ℕ) → 12 < n → value (3 ∷ n ∷ rest) ≡ fails LongText
unfolding value value_of text
text-long n rest l = rw (lt-ltb 12 n l)

text-cut : (n : ℕ) (rest : List ℕ) → n ≤ 12 → length rest < n → value (3 ∷ n ∷ rest) ≡ fails BadSheet
unfolding value value_of text
text-cut n rest few l = rw (le-ltb 12 n few, lt-ltb (length rest) n l)

no_length : value (3 ∷ []) ≡ fails BadSheet
unfolding value value_of text
no_length = refl

unknown-kind : (kind : ℕ) (rest : List ℕ) → 3 < kind → value (kind ∷ rest) ≡ fails BadSheet
unfolding value value_of
unknown-kind zero rest l = absurd (omega arith)
unknown-kind (suc zero) rest l = absurd (omega arith)
unknown-kind (suc (suc zero)) rest l = absurd (omega arith)
unknown-kind (suc (suc (suc zero))) rest l = absurd (omega arith)
unknown-kind (suc (suc (suc (suc k)))) rest l = refl

chosen-text : (after : Writer) (which : List Bool) (t rest : List ℕ) → length t ≤ 12
    → valued after (true ∷ which) (3 ∷ length t ∷ (t ++ rest)) ≡ 1 ∷ (bytes_of 4 (to_bits binary32 (text_value t)) ++ after which rest)
unfolding valued in_float
chosen-text after which t rest few =
    let bs : List ℕ = 3 ∷ length t ∷ (t ++ rest) in
    ap (behind in_float (λ x. after which) bs) (text-read t rest few) ∙ ap (λ (z : List ℕ). in_float z ++ after which rest) (front-is (3 ∷ length t ∷ t) rest)

-- ---- sheets that are read alike

read_alike : (which : List Bool) (sheet : List ℕ) → ReadAlike (in_floats which sheet) sheet
unfolding sheet_refusal sheet_of
read_alike which sheet = let s = sheet-same which sheet in record { refusal = s.0; sheet = s.1 }

-- what a call answers and leaves reads of its sheet the refusal, and what was read
module _ (file a b : List ℕ) (o : Settings) (alike : ReadAlike a b) where
  same-calls : SameCalls (asked file a o) (asked file b o)
  unfolding planned_of buffers_after call_refusal check_refusal refusal_of_plan handed_after refusal_of_need refusal_of_report lines_left
  same-calls =
      let e = alike.refusal in
      let f = alike.sheet in
      record {
        planned = λ x. rw (e, f);
        buffers = λ x. rw (e, f);
        plan_refused = λ h. rw (e, f);
        handed = λ h. rw (e, f);
        need_refused = λ n. rw (e, f);
        need = λ old. rw (e, f);
        report_refused = λ n. rw (e, f);
        lines = λ old. rw (e, f);
      }

pub typed : Typed
typed =
    record {
      text = text-read;
      finite = text-is-finite;
      long = text-long;
      no_length = no_length;
      cut = text-cut;
      unknown = unknown-kind;
      chosen = chosen-text;
      read = read_alike;
      spoken = λ which file sheet o. calls-alike _ _ (same-calls file (in_floats which sheet) sheet o (read_alike which sheet));
    }

-- A checked call: refused by its buffers, or filled.
use Rattle.std.specs.Prelude.{Err, None, Ok, Option, Result, Some}
use mathlib.Core.Path.{◌≡◌, refl, sym, ap, ◌∙◌}
use mathlib.Core.Bool.{Bool, true, false}
use mathlib.Core.List.{List}
use Prim.Native.Nat.{ℕ}
use Rattle.base.specs.Choice.{pick}
use Rattle.base.specs.Lists.{or_next}
use Rattle.refusal.specs.declared.Refusal.{Refusal}
use Rattle.refusal.specs.declared.Refusal.TheVariants.{ShortBuffer}
use Rattle.voice.specs.declared.VoiceHeader.{VoiceHeader}
use Rattle.voice.specs.Voice.{voice_of}
use Rattle.voice.proofs.TableLaws.{header_is}
use Rattle.sheet.specs.Sheet.{sheet_of}
use Rattle.lpc.specs.declared.FilterState.{FilterState}
use Rattle.lpc.specs.State.{fresh_state}
use Rattle.call.specs.declared.Settings.{Settings}
use Rattle.call.specs.declared.Need.{Need}
use Rattle.call.specs.declared.Summary.{Summary}
use Rattle.call.specs.declared.Planned.{Planned}
use Rattle.call.specs.Call.{filter_in}
use Rattle.call.specs.Buffers.{Buffers, need_of, holds, lengths_of, fits, filled, check_refusal, call_refusal, summary_of, fresh_of, refused_by, answer_by, planned_of, over_all, buffers_after}
use Rattle.call.proofs.CheckLaws.{passed-all}
use Rattle.checking.specs.declared.Fit.{Fit}
use Rattle.checking.specs.Checks.{checked_of, Passes}
use Rattle.checking.proofs.CheckLaws.{checked_refused, checked-passed}
use Rattle.filling.specs.Filling.{CanFill}
use Rattle.planning.specs.Planning.{summary_by}

module _ (file sheet : List ℕ) (o : Settings) (b : Buffers) (p : check_refusal file sheet o ≡ None) where
  pub passed-by : call_refusal file sheet o b ≡ pick (fits (voice_of file) (sheet_of sheet) o b) None (Some ShortBuffer)
  unfolding call_refusal
  passed-by = ap (λ (r : Option Refusal). or_next r (pick (fits (voice_of file) (sheet_of sheet) o b) None (Some ShortBuffer))) p

  pub short-call : fits (voice_of file) (sheet_of sheet) o b ≡ false → call_refusal file sheet o b ≡ Some ShortBuffer
  short-call e = passed-by ∙ ap (λ (t : Bool). pick t None (Some ShortBuffer)) e

  pub whole-call : fits (voice_of file) (sheet_of sheet) o b ≡ true → call_refusal file sheet o b ≡ None
  whole-call e = passed-by ∙ ap (λ (t : Bool). pick t None (Some ShortBuffer)) e

first-refused : (file sheet : List ℕ) (o : Settings) (b : Buffers) (c : Refusal) → check_refusal file sheet o ≡ Some c → call_refusal file sheet o b ≡ Some c
unfolding call_refusal
first-refused file sheet o b c e = rw e

module _ (file sheet : List ℕ) (o : Settings) (b : Buffers) where
  pub refused-planned : (r : Refusal) → call_refusal file sheet o b ≡ Some r → planned_of file sheet o b ≡ refused_by r
  unfolding planned_of
  refused-planned r e = rw e

  pub refused-buffers : (r : Refusal) → call_refusal file sheet o b ≡ Some r → buffers_after file sheet o b ≡ b
  unfolding buffers_after
  refused-buffers r e = rw e

  pub spoken-planned : call_refusal file sheet o b ≡ None → planned_of file sheet o b ≡ answer_by (voice_of file) (sheet_of sheet) o None
  unfolding planned_of
  spoken-planned e = rw e

  pub spoken-buffers : call_refusal file sheet o b ≡ None → buffers_after file sheet o b ≡ over_all (filled (voice_of file) (sheet_of sheet) o) b
  unfolding buffers_after
  spoken-buffers e = rw e

-- ---- what the functions return

-- a call whose check passed
module _ (file sheet : List ℕ) (o : Settings) (f : Fit) (h : Passes file sheet o f) (b : Buffers) where
  pub fits-is : fits (voice_of file) (sheet_of sheet) o b ≡ holds f.need (lengths_of b)
  unfolding fits
  fits-is = ap (λ (n : Need). holds n (lengths_of b)) (sym h.need)

  pub can-fill : fits (voice_of file) (sheet_of sheet) o b ≡ true → CanFill file sheet o f.voice f.places f.need b
  can-fill e =
      record {
        passed = (passed-all file sheet o h.passed).plan;
        opened = h.opened;
        places = h.places;
        need = h.need;
        room = sym fits-is ∙ e;
      }

  summary-is : summary_of (voice_of file) (sheet_of sheet) o ≡ summary_by (voice_of file).header.rate (voice_of file).header.order (need_of (voice_of file) (sheet_of sheet) o)
  unfolding summary_of need_of
  summary-is = refl

  fresh-is : fresh_of (voice_of file) o ≡ fresh_state (filter_in o) (voice_of file).header.order (voice_of file).header.coeff_min (voice_of file).header.coeff_range
  unfolding fresh_of
  fresh-is = refl

  pub spoken-ends : (s : Summary) (t : FilterState) (after : Buffers) → fits (voice_of file) (sheet_of sheet) o b ≡ true
      → s ≡ summary_by f.voice.header.rate f.voice.header.order f.need
      → t ≡ fresh_state (filter_in o) f.voice.header.order f.voice.header.coeff_min f.voice.header.coeff_range
      → after ≡ over_all (filled (voice_of file) (sheet_of sheet) o) b
      → (record { answer = Ok s; state = t } ≡ planned_of file sheet o b) × (after ≡ buffers_after file sheet o b)
  spoken-ends s t after e x y z =
      let n = whole-call file sheet o b h.passed e in
      let i = header_is file f.voice h.opened.places in
      let a : s ≡ summary_of (voice_of file) (sheet_of sheet) o = x ∙ sym (by-header f.voice.header f.need i h.need) in
      let c : t ≡ fresh_of (voice_of file) o = y ∙ sym (fresh-is ∙ ap (λ (k : VoiceHeader). fresh_state (filter_in o) k.order k.coeff_min k.coeff_range) i) in
      (both a c ∙ sym (spoken-planned file sheet o b n), z ∙ sym (spoken-buffers file sheet o b n))
    where
      by-header : (k : VoiceHeader) (q : Need) → (voice_of file).header ≡ k → q ≡ need_of (voice_of file) (sheet_of sheet) o
          → summary_of (voice_of file) (sheet_of sheet) o ≡ summary_by k.rate k.order q
      by-header k q i j = summary-is ∙ ap (λ (k : VoiceHeader). summary_by k.rate k.order (need_of (voice_of file) (sheet_of sheet) o)) i ∙ ap (summary_by k.rate k.order) (sym j)

      both : {s s' : Summary} {t t' : FilterState} → s ≡ s' → t ≡ t' → ◌≡◌ {A = Planned} (record { answer = Ok s; state = t }) (record { answer = Ok s'; state = t' })
      both p q = cc

  pub short-ends : (p : Planned) (after : Buffers) → holds f.need (lengths_of b) ≡ false → p ≡ refused_by ShortBuffer → after ≡ b
      → (p ≡ planned_of file sheet o b) × (after ≡ buffers_after file sheet o b)
  short-ends p after e x y =
      let n = short-call file sheet o b h.passed (fits-is ∙ e) in
      (x ∙ sym (refused-planned file sheet o b ShortBuffer n), y ∙ sym (refused-buffers file sheet o b ShortBuffer n))

-- ---- what the check answered, by the settings it was given

pub checks-refused : (file sheet : List ℕ) {o p : Settings} {r : Result Fit Refusal} {c : Refusal} → p ≡ o → r ≡ checked_of file sheet p → r ≡ Err c → check_refusal file sheet o ≡ Some c
checks-refused file sheet {o} {p} {r} {c} e k q = checked_refused file sheet o r (k ∙ ap (checked_of file sheet) e) c q

pub checks-passed : (file sheet : List ℕ) {o p : Settings} {r : Result Fit Refusal} {f : Fit} → p ≡ o → r ≡ checked_of file sheet p → r ≡ Ok f → Passes file sheet o f
checks-passed file sheet {o} {p} {r} {f} e k q = checked-passed file sheet o r (k ∙ ap (checked_of file sheet) e) f q

-- a refused check
pub refused-ends : (file sheet : List ℕ) (o : Settings) (b : Buffers) {r : Result Fit Refusal} {c : Refusal} (p : Planned) (after : Buffers) → r ≡ checked_of file sheet o → r ≡ Err c → p ≡ refused_by c → after ≡ b
    → (p ≡ planned_of file sheet o b) × (after ≡ buffers_after file sheet o b)
refused-ends file sheet o b {r} {c} p after k q x y =
    let n = first-refused file sheet o b c (checks-refused file sheet refl k q) in
    (x ∙ sym (refused-planned file sheet o b c n), y ∙ sym (refused-buffers file sheet o b c n))

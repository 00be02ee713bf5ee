-- What refuses a call, apart from its buffers, and what a call that is not refused has passed.
use Rattle.std.specs.Prelude.{None, Some}
use mathlib.Core.Path.{◌≡◌, refl, ap, ◌∙◌}
use mathlib.Core.Bool.{Bool, true, false, not}
use mathlib.Core.List.{List}
use Prim.Native.Nat.{ℕ}
use Rattle.base.specs.Choice.{pick}
use Rattle.base.proofs.ListLaws.{next-none}
use Rattle.refusal.specs.declared.Refusal.TheVariants.{MissingPair}
use Rattle.voice.specs.Voice.{Voice, voice_of}
use Rattle.voice.specs.Opening.{opening_refusal}
use Rattle.sheet.specs.Sheet.{Sheet, sheet_of, sheet_refusal}
use Rattle.pairs.specs.Pairs.{tried_found}
use Rattle.call.specs.declared.Settings.{Settings}
use Rattle.call.specs.Call.{plan_of, missing_refusal, read_refusal}
use Rattle.call.specs.Buffers.{check_refusal}

-- ---- 16

module _ (v : Voice) (s : Sheet) (o : Settings) where
  pub missing-loose : o.strict ≡ false → missing_refusal v s o ≡ None
  unfolding missing_refusal
  missing-loose e = rw e

  pub missing-strict : o.strict ≡ true → missing_refusal v s o ≡ pick (tried_found v o.fold s.segments) None (Some MissingPair)
  unfolding missing_refusal
  missing-strict e = rw e (by (tried_found v o.fold s.segments))
    where
      by : (t : Bool) → pick (not t) (Some MissingPair) None ≡ pick t None (Some MissingPair)
      by true = refl
      by false = refl

  -- it decides, whatever the target ends and the marks are
  pub pair-first : o.strict ≡ true → tried_found v o.fold s.segments ≡ false → read_refusal v s o ≡ Some MissingPair
  unfolding read_refusal
  pair-first e f = let m = missing-strict e ∙ ap (λ (t : Bool). pick t None (Some MissingPair)) f in rw m

  pub plan-then : missing_refusal v s o ≡ None → read_refusal v s o ≡ (plan_of v s o).refusal
  unfolding read_refusal
  plan-then e = rw e

-- ---- none

pub record PassedAll (file sheet : List ℕ) (o : Settings) : Type 0 where
  pub opening : opening_refusal file ≡ None
  pub reading : sheet_refusal sheet ≡ None
  pub pairs : missing_refusal (voice_of file) (sheet_of sheet) o ≡ None
  pub plan : (plan_of (voice_of file) (sheet_of sheet) o).refusal ≡ None

pub passed-all : (file sheet : List ℕ) (o : Settings) → check_refusal file sheet o ≡ None → PassedAll file sheet o
unfolding check_refusal read_refusal
passed-all file sheet o e =
    let a = next-none (opening_refusal file) _ e in
    let b = next-none (sheet_refusal sheet) _ a.1 in
    let c = next-none (missing_refusal (voice_of file) (sheet_of sheet) o) _ b.1 in
    record { opening = a.0; reading = b.0; pairs = c.0; plan = c.1 }

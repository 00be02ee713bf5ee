-- The number of a call's answer.
use Rattle.std.specs.Prelude.{None, Option, Some}
use mathlib.Core.Path.{◌≡◌, refl}
use mathlib.Core.List.{List}
use Prim.Native.Nat.{ℕ}
use Rattle.refusal.specs.declared.Refusal.{Refusal}
use Rattle.refusal.specs.Number.{answer_of}
use Rattle.voice.specs.Voice.{Voice, voice_of}
use Rattle.sheet.specs.Sheet.{Sheet, sheet_of}
use Rattle.call.specs.declared.Settings.{Settings}
use Rattle.call.specs.Buffers.{Buffers, call_refusal, answer_by, planned_of, called_number}

answered-number : (v : Voice) (s : Sheet) (o : Settings) (r : Option Refusal) → called_number (answer_by v s o r).answer ≡ answer_of r
answered-number v s o None = refl
answered-number v s o (Some r) = refl

-- it is that of what refuses the call
pub planned-number : (file sheet : List ℕ) (o : Settings) (b : Buffers) → called_number (planned_of file sheet o b).answer ≡ answer_of (call_refusal file sheet o b)
unfolding planned_of
planned-number file sheet o b = answered-number (voice_of file) (sheet_of sheet) o (call_refusal file sheet o b)

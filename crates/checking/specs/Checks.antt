-- What the check of a call answers.
use Rattle.std.specs.Prelude.{◌≡◌, List, ℕ, Err, None, Ok, Option, Result, Some}
use Rattle.refusal.specs.declared.Refusal.{Refusal}
use Rattle.voice.specs.Voice.{places_of, voice_of}
use Rattle.voice.specs.Opening.{IsOpen}
use Rattle.sheet.specs.Sheet.{sheet_of}
use Rattle.sheet.specs.Places.{answer_in, sheet_places}
use Rattle.sheet.specs.declared.Places.{Places}
use Rattle.call.specs.declared.Settings.{Settings}
use Rattle.call.specs.Buffers.{need_of, check_refusal}
use Rattle.checking.specs.declared.Fit.{Fit}

-- where a sheet that was read has its lists; of one that was refused, empty lists
abbrev pub places_read : Result Places Refusal → Places
places_read (Ok p) = p
places_read (Err r) = record { segments = record { count = 0; at = 0 }; targets = record { count = 0; at = 0 } }

-- what a check that passes hands on: where the voice's tables and the sheet's lists stand, and what the buffers need
abbrev pub fit_of : List ℕ → List ℕ → Settings → Fit
fit_of file sheet o =
    record {
      voice = places_of file;
      places = places_read (answer_in (sheet_places sheet));
      need = need_of (voice_of file) (sheet_of sheet) o;
    }

abbrev pub answer_checked : Fit → Option Refusal → Result Fit Refusal
answer_checked f None = Ok f
answer_checked f (Some r) = Err r

unfoldable pub checked_of : List ℕ → List ℕ → Settings → Result Fit Refusal
checked_of file sheet o = answer_checked (fit_of file sheet o) (check_refusal file sheet o)

-- nothing but its buffers can refuse the call; what is known of it
pub record Passes (file sheet : List ℕ) (o : Settings) (f : Fit) : Type 0 where
  pub passed : check_refusal file sheet o ≡ None
  pub opened : IsOpen file f.voice
  pub places : answer_in (sheet_places sheet) ≡ Ok f.places
  pub need : f.need ≡ need_of (voice_of file) (sheet_of sheet) o

-- Document 01's voice, which has `pau-aa` alone, in strict calls and others.
use Rattle.std.specs.Prelude.{◌≡◌, Bool, true, false, List, [], ◌∷◌, ◌++◌, ℕ, None, Option, Some}
use Rattle.base.specs.Text.{ascii}
use Rattle.base.specs.Bytes.{bytes_of}
use Rattle.refusal.specs.declared.Refusal.{Refusal}
use Rattle.refusal.specs.declared.Refusal.TheVariants.{BadSheet, PastLimit, ShortBuffer, MissingPair}
use Rattle.lpc.specs.declared.ResynthType.TheVariants.{Fixed}
use Rattle.call.specs.declared.JoinType.{JoinType}
use Rattle.call.specs.declared.JoinType.TheVariants.{None, Simple, ModifiedLpc}
use Rattle.call.specs.declared.Settings.{Settings}
use Rattle.call.specs.Buffers.{lent, check_refusal, call_refusal}
use Rattle.worked.specs.Files.{sheet_file}
use Rattle.worked.specs.ProvedExamples.{example_voice, example_sheet}

abbrev pub settings : JoinType → Bool → Settings
settings j strict = record { join = j; filter = Some Fixed; fold = false; strict = strict }

-- `aa` and `pau`, which the voice has not; the same with an end of 3,000 seconds, the same cut short, and `aa` alone
unfoldable pub missing : List ℕ
missing = sheet_file (ascii "aa" ∷ ascii "pau" ∷ [])

unfoldable pub missing_late : List ℕ
missing_late = 2 ∷ 2 ∷ (ascii "aa" ++ (0 ∷ (bytes_of 4 3000 ++ (0 ∷ 3 ∷ (ascii "pau" ++ (2 ∷ 0 ∷ 0 ∷ []))))))

unfoldable pub missing_cut : List ℕ
missing_cut = 2 ∷ 2 ∷ (ascii "aa" ++ (2 ∷ 0 ∷ 3 ∷ (ascii "pau" ++ (2 ∷ 0 ∷ []))))

unfoldable pub alone : List ℕ
alone = sheet_file (ascii "aa" ∷ [])

-- what refuses a call of the voice, apart from its buffers, and with none lent
abbrev pub refusal_of : List ℕ → JoinType → Bool → Option Refusal
refusal_of sheet j strict = check_refusal example_voice sheet (settings j strict)

abbrev pub refusal_bare : List ℕ → JoinType → Bool → Option Refusal
refusal_bare sheet j strict = call_refusal example_voice sheet (settings j strict) (lent [] [] [] [] [] [])

pub record Examples : Type 0 where
  -- document 01's sheet is spoken strictly
  pub example : (refusal_of example_sheet None true ≡ None)
      × ((refusal_of example_sheet Simple true ≡ None) × (refusal_of example_sheet ModifiedLpc true ≡ None))
  -- 'under every join'
  pub join_none : (refusal_of missing None true ≡ Some MissingPair) × (refusal_of missing None false ≡ None)
  pub join_simple : (refusal_of missing Simple true ≡ Some MissingPair) × (refusal_of missing Simple false ≡ None)
  pub join_modified : (refusal_of missing ModifiedLpc true ≡ Some MissingPair) × (refusal_of missing ModifiedLpc false ≡ None)
  -- 'after the sheet's checks and before target ends', and before 13
  pub after_sheet : refusal_of missing_cut ModifiedLpc true ≡ Some BadSheet
  pub before_ends : (refusal_of missing_late ModifiedLpc true ≡ Some MissingPair) × (refusal_of missing_late ModifiedLpc false ≡ Some PastLimit)
  pub before_buffers : (refusal_bare missing Simple true ≡ Some MissingPair) × (refusal_bare missing Simple false ≡ Some ShortBuffer)
  -- one segment is no pair
  pub one : refusal_of alone Simple true ≡ None

-- Calls that were made, with all that each answered and left: each is known by a function's contract alone.
use Rattle.std.specs.Prelude.{◌≡◌, List, [], ◌∷◌, ℕ, ℤ}
use contract.Lifetimes.{Lfts}
use denote.Ref.{Bor, MutBor, at_last}
use Rattle.lpc.specs.declared.FilterState.{FilterState}
use Rattle.call.specs.declared.Settings.{Settings}
use Rattle.call.specs.declared.Pulled.{Pulled}
use Rattle.call.specs.Numbers.{settings_of}
use Rattle.call.specs.Pull.{pull_of}
use Rattle.call.specs.SpokenCall.{LentBytes, read_as}
use Rattle.c_pull.specs.Pull.{number_for, state_left, slice_left}
use Rattle.diphone.proofs.pull.Reads as pull
use Rattle.diphone_c.proofs.diphone_need.Reads as need-in-c
use Rattle.diphone_c.proofs.diphone_report.Reads as report-in-c
use Rattle.diphone_c.proofs.diphone_pull.Reads as pull-in-c

-- ---- one pull, lent the bytes b: from a state, with a slice, what it kept

pub record Kept : Type 0 where
  pub returned : Pulled
  pub slice : List ℕ

-- .. by the definition
abbrev pub kept_of : LentBytes → FilterState → List ℕ → Kept
kept_of b s d = record { returned = (pull_of s (read_as b) d).pulled; slice = (pull_of s (read_as b) d).slice }

-- .. by the contract of `pull`
pub data PullMade (b : LentBytes) : FilterState → List ℕ → Kept → Type 0 where
  made : (κs : Lfts 4) (s : FilterState) (sizes rows excitation : Bor (List ℕ)) (samples : MutBor (List ℕ)) (r : Pulled) (left : List ℕ)
      → sizes.now ≡ b.sizes
      → rows.now ≡ b.rows
      → excitation.now ≡ b.excitation
      → pull.Post κs (s, (sizes, (rows, (excitation, (samples, tt))))) r (s, (sizes, (rows, (excitation, (at_last samples left, tt)))))
      → PullMade b s samples.now (record { returned = r; slice = left })

-- in C, from a state's bytes
pub record KeptInC : Type 0 where
  pub answer : ℤ
  pub state : List ℕ
  pub slice : List ℕ

abbrev pub kept_in_c : LentBytes → List ℕ → List ℕ → KeptInC
kept_in_c b w d = record { answer = number_for w (read_as b) d; state = state_left w (read_as b) d; slice = slice_left w (read_as b) d }

pub data PullMadeInC (b : LentBytes) : List ℕ → List ℕ → KeptInC → Type 0 where
  made : (κs : Lfts 5) (state : MutBor (List ℕ)) (sizes rows excitation : Bor (List ℕ)) (samples : MutBor (List ℕ)) (r : ℤ) (kept left : List ℕ)
      → sizes.now ≡ b.sizes
      → rows.now ≡ b.rows
      → excitation.now ≡ b.excitation
      → pull-in-c.Post κs (state, (sizes, (rows, (excitation, (samples, tt))))) r
      (at_last state kept, (sizes, (rows, (excitation, (at_last samples left, tt)))))
      → PullMadeInC b state.now samples.now (record { answer = r; state = kept; slice = left })

-- ---- pulls one after the other

-- `Made s d k` says that a pull from s with the slice d kept k. The first pull is made from a given state, each other from the state that
-- the last one kept.
pub data Pulls {S K : Type 0} (Made : S → List ℕ → K → Type 0) (state : K → S) : S → List (List ℕ) → List K → Type 0 where
  none : {s : S} → Pulls Made state s [] []
  more : {s : S} {d : List ℕ} {k : K} {ds : List (List ℕ)} {ks : List K} → Made s d k → Pulls Made state (state k) ds ks
      → Pulls Made state s (d ∷ ds) (k ∷ ks)

abbrev pub PullsKept : LentBytes → FilterState → List (List ℕ) → List Kept → Type 0
PullsKept b = Pulls (PullMade b) (λ (k : Kept). k.returned.state)

abbrev pub PullsKeptInC : LentBytes → List ℕ → List (List ℕ) → List KeptInC → Type 0
PullsKeptInC b = Pulls (PullMadeInC b) (λ (k : KeptInC). k.state)

-- ---- `diphone_need` and `diphone_report`: voice file, sheet, settings and the buffer lent; the answer, and what is in the buffer then

pub data NeedMadeInC : List ℕ → List ℕ → Settings → List ℕ → ℕ → List ℕ → Type 0 where
  made : (κs : Lfts 3) (voice sheet : Bor (List ℕ)) (settings : ℕ) (need : MutBor (List ℕ)) (r : ℕ) (left : List ℕ)
      → need-in-c.Post κs (voice, (sheet, (settings, (need, tt)))) r (voice, (sheet, (settings, (at_last need left, tt))))
      → NeedMadeInC voice.now sheet.now (settings_of settings) need.now r left

pub data ReportMadeInC : List ℕ → List ℕ → Settings → List ℕ → ℕ → List ℕ → Type 0 where
  made : (κs : Lfts 3) (voice sheet : Bor (List ℕ)) (settings : ℕ) (lines : MutBor (List ℕ)) (r : ℕ) (left : List ℕ)
      → report-in-c.Post κs (voice, (sheet, (settings, (lines, tt)))) r (voice, (sheet, (settings, (at_last lines left, tt))))
      → ReportMadeInC voice.now sheet.now (settings_of settings) lines.now r left

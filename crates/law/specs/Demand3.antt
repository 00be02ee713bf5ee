-- Demand 3, in full: one claim on whole lists of pulls.
use Rattle.std.specs.Prelude.{◌≡◌, List, [], ℕ, ◌/◌, ◌≤◌, ◌<◌, length, get_or, take, Err, None, Ok, Option, Result}
use Rattle.base.specs.Buffers.{flat}
use Rattle.refusal.specs.declared.Refusal.{Refusal}
use Rattle.refusal.specs.declared.Refusal.TheVariants.{ShortSlice}
use Rattle.voice.specs.Voice.{voice_of}
use Rattle.sheet.specs.Sheet.{sheet_of}
use Rattle.call.specs.declared.Settings.{Settings}
use Rattle.call.specs.declared.Summary.{Summary}
use Rattle.call.specs.declared.Planned.{Planned}
use Rattle.call.specs.Buffers.{Buffers, call_refusal, summary_of}
use Rattle.call.specs.Machine.{Shown, machine, written, samples_written, bytes_of_periods, given, SaysDone}
use Rattle.c_plan.specs.Reports.{report_length}
use Rattle.c_state.specs.State.{state_length}
use Rattle.c_plan.specs.Plan.{Handed}
use Rattle.call.specs.SpokenCall.{SpokenCall, periods_in, pulls_after}
use Rattle.law.specs.Longer.{Longer, BeginsWith}
use Rattle.law.specs.TwoCalls.{TwoCalls}
use Rattle.law.specs.Made.{PlanMade, MadeAfter}
use Rattle.law.specs.MadeInC.{PlanMadeInC, MadeInC}

-- the answer of pull i of a list, counted from 0, and how many periods the pulls before it gave
abbrev pub answer_at : List Shown → ℕ → Result (Option ℕ) Refusal
answer_at os i = (get_or os i (record { answer = Ok None; slice = [] })).answer

abbrev pub given_before : List Shown → ℕ → ℕ
given_before os i = given (take i os)

-- 'For every list of pulls in a spoken call, refused ones included and whatever sample slices they are lent, ..': lent the slices ds, they
-- showed os
pub record WholeLists (c : SpokenCall) (ds : List (List ℕ)) (os : List Shown) : Type 0 where
  -- document 01: 'Which of these three each pull does, and every element of its slice afterwards, are the machine's'
  pub machines : os ≡ machine (periods_in c) 0 ds
  -- '.. what they wrote, joined in order, is the samples of as many periods as they gave, from the first on;'
  pub wrote : samples_written os ≡ flat (λ (p : List ℕ). p) (take (given os) (periods_in c))
  pub bytes : written os ≡ bytes_of_periods (take (given os) (periods_in c))
  pub within : given os ≤ length (periods_in c)
  -- 'and a pull says done exactly when all were given before it,'
  pub done : (i : ℕ) → i < length ds → answer_at os i ≡ Ok None → given_before os i ≡ length (periods_in c)
  pub done_then : (i : ℕ) → i < length ds → given_before os i ≡ length (periods_in c) → answer_at os i ≡ Ok None
  -- 'and is refused only with a slice shorter than the next period.'
  pub refused : (i : ℕ) → i < length ds → (r : Refusal) → answer_at os i ≡ Err r
      → (r ≡ ShortSlice) × (length (get_or ds i []) / 2 < length (get_or (periods_in c) (given_before os i) []))

-- `After c ds os` says that after the call c pulls that were lent the slices ds showed os; and there is something that they showed
pub record HasPulls (After : SpokenCall → List (List ℕ) → List Shown → Type 0) (c : SpokenCall) (ds : List (List ℕ)) : Type 0 where
  pub shown : List Shown
  pub after : After c ds shown

-- The claim.
pub record Claim (After : SpokenCall → List (List ℕ) → List Shown → Type 0) : Type 0 where
  -- it speaks of something: after every spoken call, and whatever slices they are lent, pulls are made
  pub pulled : (c : SpokenCall) (ds : List (List ℕ)) → HasPulls After c ds
  pub whole_lists : (c : SpokenCall) (ds : List (List ℕ)) (os : List Shown) → After c ds os → WholeLists c ds os
  -- 'Now take two spoken calls ..: whatever slices the pulls of either are lent, the samples that the first has written when it says done
  -- begin those that the second has written at its own done, and are all of them if the sheets are equal.'
  pub longer : (c d : SpokenCall) → Longer d c → (ds es : List (List ℕ)) (os ps : List Shown) → After c ds os → After d es ps
      → SaysDone os → SaysDone ps → BeginsWith d c (samples_written ps) (samples_written os)

-- Demand 3 over the definitions, over the contracts of `diphone::plan` and `diphone::pull` for any list of calls, and over those of
-- `diphone_plan` and `diphone_pull`, which a program in C calls.
pub record Demand3 : Type 0 where
  pub defined : Claim (λ c ds os. os ≡ pulls_after c ds)
  pub made : Claim MadeAfter
  pub made_in_c : Claim MadeInC
  -- 'a call not refused': a call made is one just where it answers that it is spoken
  pub spoken : (file sheet : List ℕ) (o : Settings) (b after : Buffers) (r : Planned) (m : Summary) → PlanMade file sheet o b r after
      → r.answer ≡ Ok m → call_refusal file sheet o b ≡ None
  pub spoken_then : (file sheet : List ℕ) (o : Settings) (b after : Buffers) (r : Planned) → PlanMade file sheet o b r after
      → call_refusal file sheet o b ≡ None → r.answer ≡ Ok (summary_of (voice_of file) (sheet_of sheet) o)
  -- the same of a call in C, which answers 0; its state and its summary must have room too
  pub spoken_in_c : (file sheet : List ℕ) (o : Settings) (h after : Handed) → PlanMadeInC file sheet o h 0 after
      → call_refusal file sheet o h.buffers ≡ None
  pub spoken_in_c_then : (file sheet : List ℕ) (o : Settings) (h : Handed) (r : ℕ) (after : Handed) → PlanMadeInC file sheet o h r after
      → call_refusal file sheet o h.buffers ≡ None → state_length ≤ length h.state → report_length ≤ length h.summary → r ≡ 0
  -- two calls of which the second is longer
  pub two_calls : TwoCalls

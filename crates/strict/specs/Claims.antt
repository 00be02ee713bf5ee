-- Document 02, A1: strict calls.
use Rattle.std.specs.Prelude.{◌≡◌, Bool, true, false, List, ℕ, Err, None, Ok, Option, Some}
use Rattle.base.specs.Choice.{pick}
use Rattle.base.specs.Lists.{or_next}
use Rattle.refusal.specs.declared.Refusal.{Refusal}
use Rattle.refusal.specs.declared.Refusal.TheVariants.{ShortBuffer, MissingPair}
use Rattle.voice.specs.Voice.{voice_of}
use Rattle.voice.specs.Opening.{opening_refusal}
use Rattle.voice.specs.Extends.{Extends}
use Rattle.sheet.specs.Sheet.{SegmentRead, sheet_of, sheet_refusal}
use Rattle.sheet.specs.Begins.{Begins}
use Rattle.units.specs.Selecting.{folded, first_tried_found}
use Rattle.call.specs.declared.Settings.{Settings}
use Rattle.call.specs.declared.Summary.{Summary}
use Rattle.call.specs.declared.Planned.{Planned}
use Rattle.call.specs.Call.{plan_of}
use Rattle.call.specs.Buffers.{Buffers, filled, fits, check_refusal, answer_by, left_by}
use Rattle.call.specs.SpokenCall.{SpokenCall, voice_in, sheet_in, periods_in}
use Rattle.c_plan.specs.Plan.{Handed}
use Rattle.law.specs.Longer.{SameSettings, BeginsWith}
use Rattle.law.specs.Made.{PlanMade}
use Rattle.law.specs.MadeInC.{PlanMadeInC}
use Rattle.unnamed.specs.Kept.{NeedMadeInC, ReportMadeInC}
use Rattle.strict.specs.Pairs.{Adjacent, Lacks, ByName}

-- settings with strict on or off
abbrev pub strictly : Bool → Settings → Settings
strictly t o = record { join = o.join; filter = o.filter; fold = o.fold; strict = t }

-- ---- 'With it on, a call that 16 does not refuse answers as with it off.'

-- `Made o r left` says that a call with the settings o answered r and left `left`, `Is16 r` that this refuses it with 16
abbrev pub AnswersAsOff : {R L : Type 0} → (Settings → R → L → Type 0) → (R → Type 0) → Settings → Type 0
AnswersAsOff {R} {L} Made Is16 o =
    (r r₁ : R) (left left₁ : L) → Made (strictly true o) r left → Made (strictly false o) r₁ left₁
    → (Is16 r → ⊥) → (r ≡ r₁) × (left ≡ left₁)

abbrev pub Planned16 : Planned → Type 0
Planned16 r = r.answer ≡ Err MissingPair

abbrev pub Number16 : ℕ → Type 0
Number16 r = r ≡ 16

-- the answer, the state and every lent byte, refused calls included
pub record AsOff (o : Settings) : Type 0 where
  pub plan : (file sheet : List ℕ) (b : Buffers) → AnswersAsOff (λ x. PlanMade file sheet x b) Planned16 o
  pub plan_in_c : (file sheet : List ℕ) (h : Handed) → AnswersAsOff (λ x. PlanMadeInC file sheet x h) Number16 o
  pub need_in_c : (file sheet old : List ℕ) → AnswersAsOff (λ x. NeedMadeInC file sheet x old) Number16 o
  pub report_in_c : (file sheet old : List ℕ) → AnswersAsOff (λ x. ReportMadeInC file sheet x old) Number16 o

-- ---- 'It refuses with 16 a strict call in which some pair finds no name that it tries before the sorted first entry, under every join,
-- after the sheet's checks and before target ends; like each later number, it leaves all as it was.'

abbrev pub segments_of : List ℕ → Settings → List SegmentRead
segments_of sheet o = folded o.fold (sheet_of sheet).segments

-- neither join nor filter, target ends, marks or buffers play a part
pub record Misses (file sheet : List ℕ) (o : Settings) : Type 0 where
  pub strict : o.strict ≡ true
  pub opens : opening_refusal file ≡ None
  pub reads : sheet_refusal sheet ≡ None
  pub lacks : Lacks (voice_of file) (segments_of sheet o)

-- such calls are refused so, with what they were lent left as it was, and no others are
pub record RefusesBy {R L : Type 0} (Made : Settings → L → R → L → Type 0) (Is16 : R → Type 0) (file sheet : List ℕ) : Type 0 where
  pub then16 : (o : Settings) (old left : L) (r : R) → Made o old r left → Misses file sheet o → Is16 r × (left ≡ old)
  pub only16 : (o : Settings) (old left : L) (r : R) → Made o old r left → Is16 r → Misses file sheet o

pub record Refuses (file sheet : List ℕ) : Type 0 where
  pub plan : RefusesBy (λ o b. PlanMade file sheet o b) Planned16 file sheet
  pub plan_in_c : RefusesBy (λ o h. PlanMadeInC file sheet o h) Number16 file sheet
  pub need_in_c : RefusesBy (λ o old. NeedMadeInC file sheet o old) Number16 file sheet
  pub report_in_c : RefusesBy (λ o old. ReportMadeInC file sheet o old) Number16 file sheet

-- ---- 'With it off, calls are as before.'

-- what refused a call before there were strict ones
abbrev pub old_check_refusal : List ℕ → List ℕ → Settings → Option Refusal
old_check_refusal file sheet o = or_next (opening_refusal file) (or_next (sheet_refusal sheet) (plan_of (voice_of file) (sheet_of sheet) o).refusal)

abbrev pub old_call_refusal : List ℕ → List ℕ → Settings → Buffers → Option Refusal
old_call_refusal file sheet o b =
    or_next (old_check_refusal file sheet o) (pick (fits (voice_of file) (sheet_of sheet) o b) None (Some ShortBuffer))

-- a call answers and leaves what that says; samples, state and what is filled do not read strict at all
pub record AsBefore (file sheet : List ℕ) (o : Settings) : Type 0 where
  pub check : check_refusal file sheet o ≡ old_check_refusal file sheet o
  pub plan : (b after : Buffers) (r : Planned) → PlanMade file sheet o b r after
      → let refusal = old_call_refusal file sheet o b in
      (r ≡ answer_by (voice_of file) (sheet_of sheet) o refusal) × (after ≡ left_by (filled (voice_of file) (sheet_of sheet) o) b refusal)

-- ---- all of it

pub record StrictCalls : Type 0 where
  pub as_off : (o : Settings) → AsOff o
  pub refuses : (file sheet : List ℕ) → Refuses file sheet
  pub off : (file sheet : List ℕ) (o : Settings) → o.strict ≡ false → AsBefore file sheet o
  -- in a strict call that is spoken each pair is, by an entry of a name that it tries
  pub by_name : (file sheet : List ℕ) (o : Settings) (b after : Buffers) (r : Planned) (m : Summary) → PlanMade file sheet o b r after
      → o.strict ≡ true → r.answer ≡ Ok m → (left right : SegmentRead) → Adjacent left right (segments_of sheet o)
      → ByName (voice_of file) (segments_of sheet o) left right
  pub by_name_in_c : (file sheet : List ℕ) (o : Settings) (h after : Handed) → PlanMadeInC file sheet o h 0 after
      → o.strict ≡ true → (left right : SegmentRead) → Adjacent left right (segments_of sheet o)
      → ByName (voice_of file) (segments_of sheet o) left right
  -- the periods of demand 3's law on longer sheets, where one of the two calls is strict and the other is not
  pub longer : (c d : SpokenCall) → SameSettings (strictly false d.settings) (strictly false c.settings) → Extends (voice_in d) (voice_in c)
      → Begins (sheet_in d) (sheet_in c) → first_tried_found (voice_in c) c.settings.fold (sheet_in c).segments ≡ true
      → BeginsWith d c (periods_in d) (periods_in c)

-- Document 02, A5: a call that names no filter 'answers in everything as the one that names float'.
use Rattle.std.specs.Prelude.{◌≡◌, List, ℕ, ◌/◌, ◌%◌, ◌≤◌, eqb, length, None, Option, Some}
use Rattle.base.specs.Choice.{pick}
use Rattle.refusal.specs.Number.{answer_of}
use Rattle.lpc.specs.declared.FilterState.{FilterState}
use Rattle.lpc.specs.declared.ResynthType.{ResynthType}
use Rattle.lpc.specs.declared.ResynthType.TheVariants.{Fixed, Float}
use Rattle.call.specs.declared.Settings.{Settings}
use Rattle.call.specs.declared.Planned.{Planned}
use Rattle.call.specs.Numbers.{settings_of}
use Rattle.call.specs.Buffers.{Buffers, planned_of, buffers_after}
use Rattle.call.specs.SpokenCall.{LentBytes}
use Rattle.reporting.specs.Report.{refusal_of_report, lines_left}
use Rattle.c_plan.specs.Plan.{Handed, refusal_of_need, need_left, refusal_of_plan, handed_after}
use Rattle.law.specs.Longer.{SameSettings}
use Rattle.law.specs.Made.{PlanMade}
use Rattle.law.specs.MadeInC.{PlanMadeInC}
use Rattle.unnamed.specs.Kept.{kept_of, PullMade, PullsKept, kept_in_c, PullMadeInC, PullsKeptInC, NeedMadeInC, ReportMadeInC}

-- a call by what it is asked for with
pub record Asked : Type 0 where
  pub voice_file : List ℕ
  pub sheet_file : List ℕ
  pub settings : Settings

abbrev pub asked : List ℕ → List ℕ → Settings → Asked
asked file sheet o = record { voice_file = file; sheet_file = sheet; settings = o }

-- Two calls answered alike: `Made c r left` says that the call c returned r and left `left`.
abbrev pub AnswersAlike : {R L : Type 0} → (Asked → R → L → Type 0) → Asked → Asked → Type 0
AnswersAlike {R} {L} Made c d = (r r₁ : R) (left left₁ : L) → Made c r left → Made d r₁ left₁ → (r ≡ r₁) × (left ≡ left₁)

-- What a program lends the pulls after a call it works out from what the call answered and left (`lend`), and their slices are any: all
-- that the pulls kept is the same too.
abbrev pub PullsAlike : {R L S K : Type 0} → (Asked → R → L → Type 0) → (R → L → S) → (LentBytes → S → List (List ℕ) → List K → Type 0)
    → Asked → Asked → Type 0
PullsAlike {R} {L} {S} {K} Made state Pulls c d =
    (r r₁ : R) (left left₁ : L) → Made c r left → Made d r₁ left₁ → (lend : R → L → LentBytes) (ds : List (List ℕ)) (ks ks₁ : List K)
    → Pulls (lend r left) (state r left) ds ks → Pulls (lend r₁ left₁) (state r₁ left₁) ds ks₁ → ks ≡ ks₁

-- the contracts of `plan`, `diphone_plan`, `diphone_need` and `diphone_report` of a call, with what it is lent
abbrev pub Plans : Buffers → Asked → Planned → Buffers → Type 0
Plans b c = PlanMade c.voice_file c.sheet_file c.settings b

abbrev pub PlansInC : Handed → Asked → ℕ → Handed → Type 0
PlansInC h c = PlanMadeInC c.voice_file c.sheet_file c.settings h

abbrev pub NeedsInC : List ℕ → Asked → ℕ → List ℕ → Type 0
NeedsInC old c = NeedMadeInC c.voice_file c.sheet_file c.settings old

abbrev pub ReportsInC : List ℕ → Asked → ℕ → List ℕ → Type 0
ReportsInC old c = ReportMadeInC c.voice_file c.sheet_file c.settings old

-- 'in everything': answer, state and every lent byte, refused calls included, whatever they are lent; by the functions of `diphone` and by
-- all those for C that take a sheet
pub record CallsAlike (c d : Asked) : Type 0 where
  pub plan : (b : Buffers) → AnswersAlike (Plans b) c d
  pub pulls : (b : Buffers) → PullsAlike (Plans b) (λ r left. r.state) PullsKept c d
  pub plan_in_c : (h : Handed) → AnswersAlike (PlansInC h) c d
  pub pulls_in_c : (h : Handed) → PullsAlike (PlansInC h) (λ r left. left.state) PullsKeptInC c d
  pub need_in_c : (old : List ℕ) → AnswersAlike (NeedsInC old) c d
  pub report_in_c : (old : List ℕ) → AnswersAlike (ReportsInC old) c d

-- settings by which calls on every voice file and sheet answer alike
abbrev pub Alike : Settings → Settings → Type 0
Alike p o = (file sheet : List ℕ) → CallsAlike (asked file sheet p) (asked file sheet o)

-- settings with another filter
abbrev pub chosen : Settings → Option ResynthType → Settings
chosen o f = record { join = o.join; filter = f; fold = o.fold; strict = o.strict }

-- how the filter of a settings word was read before A5: each number of bits 2 and 3 named one, 1 fixed and the others float
abbrev pub old_filter_of : ℕ → ResynthType
old_filter_of n = pick (eqb n 1) Fixed Float

abbrev pub old_settings_of : ℕ → Settings
old_settings_of word = chosen (settings_of word) (Some (old_filter_of (word / 4 % 4)))

-- The claim speaks of something: every call can be made, and every pull.
pub record CanBeMade : Type 0 where
  pub plan : (file sheet : List ℕ) (o : Settings) (b : Buffers) → PlanMade file sheet o b (planned_of file sheet o b) (buffers_after file sheet o b)
  pub pull : (b : LentBytes) (s : FilterState) (d : List ℕ) → PullMade b s d (kept_of b s d)
  pub plan_in_c : (file sheet : List ℕ) (word : ℕ) (h : Handed)
      → PlanMadeInC file sheet (settings_of word) h
      (answer_of (refusal_of_plan file sheet (settings_of word) h)) (handed_after file sheet (settings_of word) h)
  pub pull_in_c : (b : LentBytes) (w d : List ℕ) → PullMadeInC b w d (kept_in_c b w d)
  pub need_in_c : (file sheet : List ℕ) (word : ℕ) (old : List ℕ)
      → NeedMadeInC file sheet (settings_of word) old
      (answer_of (refusal_of_need file sheet (settings_of word) (length old))) (need_left file sheet (settings_of word) old)
  pub report_in_c : (file sheet : List ℕ) (word : ℕ) (old : List ℕ)
      → ReportMadeInC file sheet (settings_of word) old
      (answer_of (refusal_of_report file sheet (settings_of word) (length old))) (lines_left file sheet (settings_of word) old)

pub record AsFloat : Type 0 where
  -- 'such a call answers in everything as the one that names float'
  pub unnamed : (o : Settings) → Alike (chosen o None) (chosen o (Some Float))
  -- in C: two words that differ in their filters alone, of which one names none and the other float
  pub words : (word word₁ : ℕ) → word % 4 ≡ word₁ % 4 → word / 16 % 2 ≡ word₁ / 16 % 2 → word / 32 % 2 ≡ word₁ / 32 % 2
      → word / 4 % 4 ≡ 0 → 2 ≤ word₁ / 4 % 4
      → Alike (settings_of word) (settings_of word₁)
  -- each word answers as the one that names the filter which it was read as before: A5 changed no answer of C
  pub kept : (word : ℕ) → Alike (settings_of word) (old_settings_of word)
  -- for demand 3's law on longer sheets they are the same settings, and those that name fixed are others
  pub same : (o : Settings) → SameSettings (chosen o None) (chosen o (Some Float))
  pub other : (o : Settings) → SameSettings (chosen o None) (chosen o (Some Fixed)) → ⊥
  pub made : CanBeMade

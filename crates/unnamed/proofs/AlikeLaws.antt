-- Calls of which the definitions say the same answer alike, by the contracts alone; so do calls under the same settings.
use mathlib.Core.Path.{◌≡◌, refl, sym, ap, ◌∙◌}
use mathlib.Core.List.{List, [], ◌∷◌}
use Prim.Native.Nat.{ℕ}
use lib.ListN.{length}
use Rattle.refusal.specs.Number.{answer_of}
use Rattle.lpc.specs.declared.FilterState.{FilterState}
use Rattle.call.specs.declared.Settings.{Settings}
use Rattle.call.specs.Pull.{lent_of, pull_of}
use Rattle.call.specs.Buffers.{Buffers, planned_of, buffers_after}
use Rattle.call.specs.SpokenCall.{LentBytes}
use Rattle.reporting.specs.Report.{refusal_of_report, lines_left}
use Rattle.reporting.proofs.ReportLaws.{any-filter}
use Rattle.c_plan.specs.Plan.{Handed, refusal_of_need, need_left, refusal_of_plan, handed_after}
use Rattle.c_pull.specs.Pull.{number_for, state_left, slice_left}
use Rattle.law.specs.Longer.{SameSettings}
use Rattle.law.proofs.Demand3.{plan-made}
use Rattle.law.proofs.InC.{plan-in-c}
use Rattle.unnamed.specs.Kept.{Kept, kept_of, PullMade, KeptInC, kept_in_c, PullMadeInC, made, Pulls, none, more, PullsKept, PullsKeptInC, NeedMadeInC, ReportMadeInC}
use Rattle.unnamed.specs.Claims.{Asked, asked, AnswersAlike, PullsAlike, Plans, PlansInC, NeedsInC, ReportsInC, CallsAlike, Alike}
use Rattle.unnamed.proofs.SameLaws.{planned-same, buffers-same, plan-refused-same, handed-same, need-refused-same, need-same}

-- ---- what a made call answered and left is a definition's

pub need-in-c : (file sheet : List ℕ) (o : Settings) (old : List ℕ) (r : ℕ) (left : List ℕ) → NeedMadeInC file sheet o old r left
    → (r ≡ answer_of (refusal_of_need file sheet o (length old))) × (left ≡ need_left file sheet o old)
need-in-c _ _ _ _ _ _ (made κs voice sheet settings need r left post) = (post.0, post.1)

pub report-in-c : (file sheet : List ℕ) (o : Settings) (old : List ℕ) (r : ℕ) (left : List ℕ) → ReportMadeInC file sheet o old r left
    → (r ≡ answer_of (refusal_of_report file sheet o (length old))) × (left ≡ lines_left file sheet o old)
report-in-c _ _ _ _ _ _ (made κs voice sheet settings lines r left post) = (post.0, post.1)

pull-kept : (b : LentBytes) (s : FilterState) (d : List ℕ) (k : Kept) → PullMade b s d k → k ≡ kept_of b s d
pull-kept b _ _ _ (made κs s sizes rows excitation samples r left hz hr he post) =
    let a : r ≡ (pull_of s (lent_of sizes.now rows.now excitation.now) samples.now).pulled = post.0 in
    let d : left ≡ (pull_of s (lent_of sizes.now rows.now excitation.now) samples.now).slice = post.1 in
    rw (a, d, hz, hr, he)

pull-in-c : (b : LentBytes) (w d : List ℕ) (k : KeptInC) → PullMadeInC b w d k → k ≡ kept_in_c b w d
pull-in-c b _ _ _ (made κs state sizes rows excitation samples r kept left hz hr he post) =
    let l = lent_of sizes.now rows.now excitation.now in
    let a : r ≡ number_for state.now l samples.now = post.0 in
    let t : kept ≡ state_left state.now l samples.now = post.1.0 in
    let d : left ≡ slice_left state.now l samples.now = post.1.1 in
    rw (a, t, d, hz, hr, he)

-- ---- pulls one after the other

-- where each keeps what a definition says, so does a list
module _ {S K : Type 0} (Made : S → List ℕ → K → Type 0) (state : K → S) (keep : S → List ℕ → K) (one : (s : S) (d : List ℕ) (k : K) → Made s d k → k ≡ keep s d) where
  keeps : S → List (List ℕ) → List K
  keeps s [] = []
  keeps s (d ∷ ds) = keep s d ∷ keeps (state (keep s d)) ds

  kept_by : (s : S) (ds : List (List ℕ)) (ks : List K) → Pulls Made state s ds ks → ks ≡ keeps s ds
  unfolding keeps
  kept_by s _ _ none = refl
  kept_by s _ _ (more {d} {k} {ds} {ks} m rest) =
      let e = one s d k m in
      let i = kept_by (state k) ds ks rest in
      rw (i, e)

module _ {R L : Type 0} (Made : Asked → R → L → Type 0) (c d : Asked) (same : AnswersAlike Made c d) {S K : Type 0} (state : R → L → S)
    (Keeps : LentBytes → S → List (List ℕ) → List K → Type 0) (keeps : LentBytes → S → List (List ℕ) → List K)
    (each : (b : LentBytes) (s : S) (ds : List (List ℕ)) (ks : List K) → Keeps b s ds ks → ks ≡ keeps b s ds) where
  pulls-alike : PullsAlike Made state Keeps c d
  pulls-alike r r₁ left left₁ m m₁ lend ds ks ks₁ k k₁ =
      let e = same r r₁ left left₁ m m₁ in
      each _ _ ds ks k
      ∙ ap (λ (x : R). keeps (lend x left) (state x left) ds) e.0
      ∙ ap (λ (x : L). keeps (lend r₁ x) (state r₁ x) ds) e.1
      ∙ sym (each _ _ ds ks₁ k₁)

-- ---- all of it

-- where what a call answers and leaves is a definition's, and of both the same
answers_by : {R L : Type 0} (Made : Asked → R → L → Type 0) (answer : Asked → R) (leaves : Asked → L)
    → ((x : Asked) (r : R) (left : L) → Made x r left → (r ≡ answer x) × (left ≡ leaves x))
    → (c d : Asked) → answer c ≡ answer d → leaves c ≡ leaves d → AnswersAlike Made c d
answers_by Made answer leaves is c d a l r r₁ left left₁ m m₁ =
    let x = is c r left m in
    let y = is d r₁ left₁ m₁ in
    (x.0 ∙ a ∙ sym y.0, x.1 ∙ l ∙ sym y.1)

-- what is defined of a call by its voice file, its sheet and its settings
abbrev by : {A : Type 0} → (List ℕ → List ℕ → Settings → A) → Asked → A
by f c = f c.voice_file c.sheet_file c.settings

-- the definitions that the contracts cite are the same of both
pub record SameCalls (c d : Asked) : Type 0 where
  pub planned : (b : Buffers) → by planned_of c b ≡ by planned_of d b
  pub buffers : (b : Buffers) → by buffers_after c b ≡ by buffers_after d b
  pub plan_refused : (h : Handed) → by refusal_of_plan c h ≡ by refusal_of_plan d h
  pub handed : (h : Handed) → by handed_after c h ≡ by handed_after d h
  pub need_refused : (n : ℕ) → by refusal_of_need c n ≡ by refusal_of_need d n
  pub need : (old : List ℕ) → by need_left c old ≡ by need_left d old
  pub report_refused : (n : ℕ) → by refusal_of_report c n ≡ by refusal_of_report d n
  pub lines : (old : List ℕ) → by lines_left c old ≡ by lines_left d old

pub calls-alike : (c d : Asked) → SameCalls c d → CallsAlike c d
calls-alike c d same =
    record {
      plan = plan;
      pulls = λ b. pulls-alike (Plans b) c d (plan b) _ PullsKept _ (λ b. kept_by (PullMade b) (λ (k : Kept). k.returned.state) (kept_of b) (pull-kept b));
      plan_in_c = plan-c;
      pulls_in_c = λ h. pulls-alike (PlansInC h) c d (plan-c h) _ PullsKeptInC _ (λ b. kept_by (PullMadeInC b) (λ (k : KeptInC). k.state) (kept_in_c b) (pull-in-c b));
      need_in_c = λ old. answers_by (NeedsInC old) _ _ (λ x. need-in-c x.voice_file x.sheet_file x.settings old) c d (ap answer_of (same.need_refused (length old))) (same.need old);
      report_in_c = λ old. answers_by (ReportsInC old) _ _ (λ x. report-in-c x.voice_file x.sheet_file x.settings old) c d (ap answer_of (same.report_refused (length old))) (same.lines old);
    }
  where
    plan : (b : Buffers) → AnswersAlike (Plans b) c d
    plan b = answers_by (Plans b) _ _ (λ x r left. plan-made x.voice_file x.sheet_file x.settings b left r) c d (same.planned b) (same.buffers b)

    plan-c : (h : Handed) → AnswersAlike (PlansInC h) c d
    plan-c h = answers_by (PlansInC h) _ _ (λ x. plan-in-c x.voice_file x.sheet_file x.settings h) c d (ap answer_of (same.plan_refused h)) (same.handed h)

-- calls under the same settings
pub alike : (p o : Settings) → SameSettings p o → Alike p o
alike p o same file sheet =
    let any = any-filter file sheet p o same.join same.fold same.strict in
    calls-alike (asked file sheet p) (asked file sheet o)
    (record {
      planned = planned-same file sheet p o same;
      buffers = buffers-same file sheet p o same;
      plan_refused = plan-refused-same file sheet p o same;
      handed = handed-same file sheet p o same;
      need_refused = need-refused-same file sheet p o same;
      need = need-same file sheet p o same;
      report_refused = any.refusal;
      lines = any.left;
    })

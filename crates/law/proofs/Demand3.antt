-- Demand 3, over the definitions and over the contracts.
use Rattle.std.specs.Prelude.{Err, None, Ok, Option, Result, Some}
use mathlib.Core.Path.{◌≡◌, refl, sym, ap, subst, ◌∙◌}
use mathlib.Core.List.{List, []}
use Prim.Native.Nat.{ℕ, ◌*◌, ◌/◌, ◌≤◌, ◌<◌}
use native.Mathlib.Nat.{le_of_eq, zero-add}
use native.Mathlib.Omega.{arith}
use lib.ListN.{length, get_or, take}
use Rattle.base.specs.Lists.{Heads}
use Rattle.base.specs.Buffers.{flat}
use Rattle.base.specs.Bytes.{elements}
use Rattle.base.proofs.ListLaws.{heads-by}
use Rattle.base.proofs.BufferLaws.{flat_append}
use Rattle.base.proofs.BoundLaws.{Below, each_take}
use Rattle.refusal.specs.declared.Refusal.{Refusal}
use Rattle.refusal.specs.declared.Refusal.TheVariants.{ShortSlice}
use Rattle.voice.specs.Voice.{Voice, voice_of}
use Rattle.sheet.specs.Sheet.{Sheet, sheet_of}
use Rattle.sheet.proofs.SheetLaws.{sheet-refers}
use Rattle.excitation.specs.Taken.{sizes_of, rows_of}
use Rattle.excitation.proofs.SizedLaws.{rows-length}
use Rattle.lpc.specs.declared.FilterState.{FilterState}
use Rattle.call.specs.declared.Settings.{Settings}
use Rattle.call.specs.Call.{plan_of, periods_taken, filter_in, periods_of, samples_of_call}
use Rattle.call.specs.declared.Summary.{Summary}
use Rattle.call.specs.declared.Planned.{Planned}
use Rattle.call.specs.Buffers.{Buffers, call_refusal, summary_of, answer_by, planned_of, buffers_after, fresh_of}
use Rattle.call.specs.Pull.{lent_of, pull_of}
use Rattle.call.specs.Machine.{Shown, pulls, shows, machine, written, samples_written, bytes_of_periods, given, SaysDone}
use Rattle.call.proofs.PullLaws.{shows-done, fresh-machine}
use Rattle.call.proofs.MachineLaws.{machine-writes, machine-at, machine-within, before-within, shows-done-all, shows-refused, machine-done-all}
use Rattle.call.proofs.CallLaws.{periods-sized, periods-ahead, periods-equal}
use Rattle.call.proofs.FilledLaws.{periods-low, periods-back}
use Rattle.call.proofs.SpokenLaws.{opened, planned, fresh}
use Rattle.call.proofs.LentLaws.{lent_taken, lent-filled}
use Rattle.call.specs.SpokenCall.{SpokenCall, LentBytes, lent_by, voice_in, sheet_in, periods_in, samples_in, bytes_after, read_as, state_after, pulls_after}
use Rattle.law.specs.Longer.{SameSettings, Longer, BeginsWith}
use Rattle.law.proofs.InC.{spoken-in-c, in-c-spoken, made-in-c}
use Rattle.law.proofs.Inhabited.{made-exists}
use Rattle.law.proofs.InhabitedInC.{made-in-c-exists}
use Rattle.law.proofs.TwoCalls.{two-calls}
use Rattle.law.specs.Made.{PlanMade, made, PullsMade, none, more, MadeAfter}
use Rattle.law.specs.MadeInC.{MadeInC}
use Rattle.law.specs.Demand3.{WholeLists, HasPulls, Claim, Demand3, answer_at, given_before}

-- ---- every list of pulls

rows_taken : (c : SpokenCall) → length (rows_of (periods_taken (voice_in c) (sheet_in c) c.settings)) ≡ length (sizes_of (periods_taken (voice_in c) (sheet_in c) c.settings)) * (voice_in c).header.order
rows_taken c = rows-length (voice_in c).header.order _ (periods-sized (voice_in c) (sheet_in c) c.settings)

flat-heads : {A B : Type 0} (enc : A → List B) {s t : List A} → Heads s t → Heads (flat enc s) (flat enc t)
flat-heads enc {s} h = heads-by (flat enc h.more) (ap (flat enc) h.whole ∙ flat_append enc s h.more)

-- 'For every list of pulls in a spoken call, refused ones included and whatever sample slices they are lent': which of the three answers each gives, and
-- every byte of its slice afterwards, are the plain machine's.
pub whole-lists : (c : SpokenCall) (ds : List (List ℕ)) → pulls_after c ds ≡ machine (periods_in c) 0 ds
unfolding pulls_after fresh_of periods_of
whole-lists c ds =
    let v = voice_in c in
    let ps = periods_taken v (sheet_in c) c.settings in
    let o = opened c in
    let r : length (rows_of ps) ≡ length (sizes_of ps) * v.header.order = rows_taken c in
    rw (lent-filled c)
    (ap (λ (s : FilterState). pulls s (lent_taken c) ds) (fresh c)
    ∙ fresh-machine (filter_in c.settings) v.header.order v.header.coeff_min v.header.coeff_range (lent_taken c) ds o.order_low o.least_in o.range_in (le_of_eq (sym r)))

-- 'what they wrote, joined in order, is the samples of as many periods as they gave, from the first on'
pub whole-lists-written : (c : SpokenCall) (ds : List (List ℕ)) → written (pulls_after c ds) ≡ bytes_of_periods (take (given (pulls_after c ds)) (periods_in c))
whole-lists-written c ds = let e = whole-lists c ds in rw e (machine-writes (periods_in c) ds)

pub whole-lists-samples : (c : SpokenCall) (ds : List (List ℕ))
    → samples_written (pulls_after c ds) ≡ flat (λ (p : List ℕ). p) (take (given (pulls_after c ds)) (periods_in c))
whole-lists-samples c ds =
    let n = given (pulls_after c ds) in
    ap (elements 2) (whole-lists-written c ds) ∙ periods-back (take n (periods_in c)) (each_take (Below 65536) n (periods_in c) (periods-low (voice_in c) (sheet_in c) c.settings))

-- once a pull says done, all samples of the call were written
pub whole-lists-done : (c : SpokenCall) (ds : List (List ℕ)) → SaysDone (pulls_after c ds) → samples_written (pulls_after c ds) ≡ samples_in c
unfolding samples_of_call
whole-lists-done c ds s =
    let e = whole-lists c ds in
    ap (elements 2) (rw e (machine-done-all (periods_in c) ds (rw e at s))) ∙ periods-back (periods_in c) (periods-low (voice_in c) (sheet_in c) c.settings)

-- ---- a longer sheet on an extended voice

-- what the settings of two calls share decides their samples
settings-alike : (v : Voice) (s : Sheet) (p o : Settings) → SameSettings p o → periods_of v s p ≡ periods_of v s o
unfolding periods_of periods_taken plan_of
settings-alike v s p o e =
    let j = e.join in
    let f = e.filter in
    let g = e.fold in
    rw (j, f, g)

-- the periods of the first call are the first periods of the second, sample for sample
pub extension : (c d : SpokenCall) → Longer d c → BeginsWith d c (periods_in d) (periods_in c)
extension c d l =
    let h = periods-ahead (voice_in c) (voice_in d) l.extends (opened c) (opened d) (sheet_in c) (sheet_in d) l.begins (sheet-refers c.sheet_file) c.settings l.found (planned c) in
    let e = periods-equal (voice_in c) (voice_in d) l.extends (opened c) (opened d) (sheet_in c) (sheet_in d) l.begins (sheet-refers c.sheet_file) c.settings l.found (planned c) in
    let alike = settings-alike (voice_in d) (sheet_in d) d.settings c.settings l.settings in
    record {
      heads = subst (λ (ps : List (List ℕ)). Heads (periods_in c) ps) (sym alike) h;
      equal = λ q. alike ∙ ap (λ (s : Sheet). periods_of (voice_in d) s c.settings) q ∙ e;
    }

-- so with all samples joined
pub extension-samples : (c d : SpokenCall) → Longer d c → BeginsWith d c (samples_in d) (samples_in c)
unfolding samples_of_call
extension-samples c d l =
    let x = extension c d l in
    record {
      heads = flat-heads (λ (p : List ℕ). p) x.heads;
      equal = λ e. ap (flat (λ (p : List ℕ). p)) (x.equal e);
    }

-- ---- demand 3

-- each pull of a list
module _ (c : SpokenCall) (ds : List (List ℕ)) (i : ℕ) (h : i < length ds) where
  abbrev os : List Shown
  os = pulls_after c ds

  at-pull : answer_at os i ≡ (shows (periods_in c) (given_before os i) (get_or ds i [])).answer
  at-pull =
      let ps = periods_in c in
      subst (λ (os : List Shown). answer_at os i ≡ (shows ps (given_before os i) (get_or ds i [])).answer) (sym (whole-lists c ds))
      (ap (λ (o : Shown). o.answer) (machine-at ps ds 0 i (record { answer = Ok None; slice = [] }) h)
      ∙ ap (λ (n : ℕ). (shows ps n (get_or ds i [])).answer) (zero-add (given (take i (machine ps 0 ds)))))

  low : given_before os i ≤ length (periods_in c)
  low =
      subst (λ (os : List Shown). given_before os i ≤ length (periods_in c)) (sym (whole-lists c ds))
      (let w = before-within (periods_in c) ds 0 i (omega arith) in omega arith)

  pull-done : answer_at os i ≡ Ok None → given_before os i ≡ length (periods_in c)
  pull-done e = shows-done-all (periods_in c) (given_before os i) (get_or ds i []) low (sym at-pull ∙ e)

  pull-all : given_before os i ≡ length (periods_in c) → answer_at os i ≡ Ok None
  pull-all q = at-pull ∙ ap (λ (o : Shown). o.answer) (shows-done (periods_in c) (given_before os i) (get_or ds i []) q)

  pull-refused : (r : Refusal) → answer_at os i ≡ Err r → (r ≡ ShortSlice) × (length (get_or ds i []) / 2 < length (get_or (periods_in c) (given_before os i) []))
  pull-refused r e = shows-refused (periods_in c) (given_before os i) (get_or ds i []) r low (sym at-pull ∙ e)

lists : (c : SpokenCall) (ds : List (List ℕ)) → WholeLists c ds (pulls_after c ds)
lists c ds =
    record {
      machines = whole-lists c ds;
      wrote = whole-lists-samples c ds;
      bytes = whole-lists-written c ds;
      within =
          subst (λ (os : List Shown). given os ≤ length (periods_in c)) (sym (whole-lists c ds))
          (let w = machine-within (periods_in c) ds 0 (omega arith) in omega arith);
      done = pull-done c ds;
      done_then = pull-all c ds;
      refused = pull-refused c ds;
    }

begun : (c d : SpokenCall) → Longer d c → (ds es : List (List ℕ)) → SaysDone (pulls_after c ds) → SaysDone (pulls_after d es)
    → BeginsWith d c (samples_written (pulls_after d es)) (samples_written (pulls_after c ds))
begun c d l ds es s t =
    let x = extension-samples c d l in
    let a = whole-lists-done c ds s in
    let b = whole-lists-done d es t in
    record { heads = rw (a, b) x.heads; equal = λ e. b ∙ x.equal e ∙ sym a }

-- the claim, of all that shows what the definition does
claim : (After : SpokenCall → List (List ℕ) → List Shown → Type 0) → ((c : SpokenCall) (ds : List (List ℕ)) → HasPulls After c ds)
    → ((c : SpokenCall) (ds : List (List ℕ)) (os : List Shown) → After c ds os → os ≡ pulls_after c ds) → Claim After
claim After there same =
    record {
      pulled = there;
      whole_lists = λ c ds os a. subst (WholeLists c ds) (sym (same c ds os a)) (lists c ds);
      longer = λ c d l ds es os ps a b s t.
          let e = same c ds os a in
          let f = same d es ps b in
          subst (λ (o : List Shown). BeginsWith d c (samples_written ps) (samples_written o)) (sym e)
          (subst (λ (o : List Shown). BeginsWith d c (samples_written o) (samples_written (pulls_after c ds))) (sym f) (begun c d l ds es (subst SaysDone e s) (subst SaysDone f t)));
    }

-- Any list of calls of `diphone::pull`, known by its contract, shows what the definition does.
pub made-pulls : (b : LentBytes) (s : FilterState) (ds : List (List ℕ)) (os : List Shown) → PullsMade b s ds os → os ≡ pulls s (read_as b) ds
unfolding pulls
made-pulls b s _ _ none = refl
made-pulls b s _ _ (more {ds} {os} κs _ sizes rows excitation samples r left hz hr he post m) =
    let a : r ≡ (pull_of s (lent_of sizes.now rows.now excitation.now) samples.now).pulled = post.0 in
    let d : left ≡ (pull_of s (lent_of sizes.now rows.now excitation.now) samples.now).slice = post.1 in
    let i = made-pulls b r.state ds os m in
    rw (i, d, a, hz, hr, he)

-- A call of `diphone::plan`, known by its contract, is the definition's.
pub plan-made : (file sheet : List ℕ) (o : Settings) (b after : Buffers) (r : Planned) → PlanMade file sheet o b r after → (r ≡ planned_of file sheet o b) × (after ≡ buffers_after file sheet o b)
plan-made _ _ _ _ _ _ (made κs voice sheet l o r after post) = (post.0, post.1)

answer-none : (v : Voice) (s : Sheet) (o : Settings) (m : Summary) (u : Option Refusal) → (answer_by v s o u).answer ≡ Ok m → u ≡ None
answer-none v s o m None e = refl
answer-none v s o m (Some c) e = let z : ◌≡◌ {A = ℕ} 0 1 = cc in absurd (omega arith)

made-spoken : (file sheet : List ℕ) (o : Settings) (b after : Buffers) (r : Planned) (m : Summary) → PlanMade file sheet o b r after → r.answer ≡ Ok m → call_refusal file sheet o b ≡ None
unfolding planned_of
made-spoken file sheet o b after r m p e =
    answer-none (voice_of file) (sheet_of sheet) o m (call_refusal file sheet o b) (sym (ap (λ (x : Planned). x.answer) (plan-made file sheet o b after r p).0) ∙ e)

spoken-made : (file sheet : List ℕ) (o : Settings) (b after : Buffers) (r : Planned) → PlanMade file sheet o b r after → call_refusal file sheet o b ≡ None
    → r.answer ≡ Ok (summary_of (voice_of file) (sheet_of sheet) o)
unfolding planned_of
spoken-made file sheet o b after r p e = ap (λ (x : Planned). x.answer) ((plan-made file sheet o b after r p).0 ∙ ap (answer_by (voice_of file) (sheet_of sheet) o) e)

pub same-summary : {m n : Summary} → ◌≡◌ {A = Result Summary Refusal} (Ok m) (Ok n) → m ≡ n
same-summary e = cc

made_after : (c : SpokenCall) (ds : List (List ℕ)) (os : List Shown) → MadeAfter c ds os → os ≡ pulls_after c ds
unfolding pulls_after bytes_after
made_after c ds os m =
    let p = plan-made _ _ _ _ _ _ m.call in
    let s : m.summary ≡ summary_of (voice_in c) (sheet_in c) c.settings = same-summary (sym m.spoken ∙ spoken-made _ _ _ _ _ _ m.call c.not_refused) in
    made-pulls (lent_by m.summary m.left) m.returned.state ds os m.pulls
    ∙ ap (λ (x : Planned). pulls x.state (read_as (lent_by m.summary m.left)) ds) p.0
    ∙ ap (λ (b : Buffers). pulls (state_after c) (read_as (lent_by m.summary b)) ds) p.1
    ∙ ap (λ (x : Summary). pulls (state_after c) (read_as (lent_by x (buffers_after c.voice_file c.sheet_file c.settings c.lent))) ds) s

pub demand3 : Demand3
demand3 =
    record {
      defined = claim (λ c ds os. os ≡ pulls_after c ds) (λ c ds. record { shown = pulls_after c ds; after = refl }) (λ c ds os e. e);
      made = claim MadeAfter (λ c ds. record { shown = pulls_after c ds; after = made-exists c ds }) made_after;
      made_in_c = claim MadeInC made-in-c-exists made-in-c;
      spoken = made-spoken;
      spoken_then = spoken-made;
      spoken_in_c = spoken-in-c;
      spoken_in_c_then = in-c-spoken;
      two_calls = two-calls;
    }

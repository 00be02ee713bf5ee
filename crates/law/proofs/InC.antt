-- Calls and pulls that a program in C made show what the definitions do.
use Rattle.std.specs.Prelude.{None}
use mathlib.Core.Path.{◌≡◌, refl, sym, ap, subst, ◌∙◌}
use mathlib.Core.Bool.{Bool, true, false}
use mathlib.Core.List.{List, ◌∷◌}
use Prim.Native.Nat.{ℕ, ◌/◌, ◌^◌, ◌≤◌, ◌<◌}
use native.Mathlib.Omega.{arith}
use lib.Dec.{T, ltb}
use lib.IntN.{ℤ}
use lib.ListN.{length, length-map}
use lib.Ieee.{binary32, fits}
use lib.Ieee.Bits.{of_bits-fits}
use Rattle.base.specs.Buffers.{over}
use Rattle.base.specs.Bytes.{little_endian}
use Rattle.base.proofs.ListLaws.{next-none}
use Rattle.voice.specs.Header.{header_of}
use Rattle.voice.specs.Voice.{voice_of, voice_at, places_of}
use Rattle.excitation.specs.Taken.{Period, sizes_of}
use Rattle.lpc.specs.declared.FilterState.{FilterState}
use Rattle.call.specs.declared.Settings.{Settings}
use Rattle.call.specs.declared.Summary.{Summary}
use Rattle.call.specs.Call.{periods_taken, filter_in}
use Rattle.call.specs.Buffers.{call_refusal, summary_of, filled, over_all, buffers_after, fresh_of}
use Rattle.call.specs.Pull.{Lent, lent_of, all_given, possible, next_part, Outcome, leaves, pull_of, pull_number}
use Rattle.call.specs.Machine.{Shown, pulls}
use Rattle.refusal.specs.Number.{answer_of}
use Rattle.c_plan.specs.Reports.{summary_bytes}
use Rattle.c_plan.specs.Plan.{Handed, refusal_of_plan, handed_by, handed_after}
use Rattle.c_pull.specs.Pull.{number_for, state_left, slice_left}
use Rattle.c_pull.proofs.PullLaws.{chosen}
use Rattle.c_plan.proofs.PlannedLaws.{PlanEnds, answered-none, by_call}
use Rattle.c_state.proofs.RoundLaws.{Storable}
use Rattle.c_state.proofs.StorableLaws.{fresh-storable}
use Rattle.c_plan.proofs.NumberLaws.{summary-stored}
use Rattle.c_pull.proofs.HeldLaws.{HoldsState, stored-holds, outcome-held, next-held}
use Rattle.call.proofs.LentLaws.{lent-filled}
use Rattle.call.proofs.FewLaws.{periods-few, samples-few}
use Rattle.call.proofs.SpokenLaws.{opened, planned, fresh}
use Rattle.call.specs.SpokenCall.{SpokenCall, LentBytes, voice_in, sheet_in, bytes_after, read_as, lent_after, pulls_after}
use Rattle.law.specs.MadeInC.{PlanMadeInC, made, answer_read, PullsMadeInC, none, more, lent_in, MadeInC}

-- ---- the pulls

-- what a pull answers is read back from its number
module _ (s : FilterState) (l : Lent) (d : List ℕ) where
  read_by : (t u v : Bool) → answer_read (pull_number (chosen s l d t u v).pulled.answer) ≡ (chosen s l d t u v).pulled.answer
  read_by true true v = refl
  read_by true false true = refl
  read_by true false false = refl
  read_by false u v = refl

  answer-read : answer_read (pull_number (pull_of s l d).pulled.answer) ≡ (pull_of s l d).pulled.answer
  unfolding pull_of
  answer-read = read_by (possible s l) (all_given s l) (ltb (length d / 2) (length (next_part s l).bytes))

-- one pull on the bytes of a state shows what the pull on the state does
module _ (w : List ℕ) (s : FilterState) (held : HoldsState w s) (l : Lent) (d : List ℕ) where
  shown-in-c : (r : ℤ) (left : List ℕ) → r ≡ number_for w l d → left ≡ slice_left w l d
      → ◌≡◌ {A = Shown} (record { answer = answer_read r; slice = left }) (record { answer = (pull_of s l d).pulled.answer; slice = (pull_of s l d).slice })
  shown-in-c r left e f =
      let o = outcome-held w s held l d in
      let a : answer_read r ≡ (pull_of s l d).pulled.answer = ap answer_read e ∙ ap (λ (x : Outcome). answer_read (pull_number x.pulled.answer)) o ∙ answer-read s l d in
      let b : left ≡ (pull_of s l d).slice = f ∙ ap (λ (x : Outcome). x.slice) o in
      rw (a, b)

-- Any list of calls of `diphone_pull`, known by its contract, shows what the definition does.
pulls-in-c : (b : LentBytes) (w : List ℕ) (s : FilterState) (ds : List (List ℕ)) (os : List Shown) → HoldsState w s → length (read_as b).sizes < 2 ^ 64 → length (read_as b).excitation < 2 ^ 64
    → PullsMadeInC b w ds os → os ≡ pulls s (read_as b) ds
unfolding pulls
pulls-in-c b w s _ _ held z e none = refl
pulls-in-c b _ s _ _ held z e (more {ds} {os} κs state sizes rows excitation samples r kept left hz hr he post m) =
    let l = read_as b in
    let d = samples.now in
    let q : lent_of sizes.now rows.now excitation.now ≡ l = rw (hz, hr, he) in
    let answered : r ≡ number_for state.now l d = post.0 ∙ ap (λ (x : Lent). number_for state.now x d) q in
    let keeps : kept ≡ state_left state.now l d = post.1.0 ∙ ap (λ (x : Lent). state_left state.now x d) q in
    let leaves : left ≡ slice_left state.now l d = post.1.1 ∙ ap (λ (x : Lent). slice_left state.now x d) q in
    let next = subst (λ (x : List ℕ). HoldsState x (pull_of s l d).pulled.state) (sym keeps) (next-held state.now s held l d z e) in
    ap (λ (o : Shown). o ∷ os) (shown-in-c state.now s held l d r left answered leaves)
    ∙ ap (λ (x : List Shown). record { answer = (pull_of s l d).pulled.answer; slice = (pull_of s l d).slice } ∷ x) (pulls-in-c b kept (pull_of s l d).pulled.state ds os next z e m)

-- ---- the call

-- A call of `diphone_plan`, known by its contract, is the definition's.
pub plan-in-c : (file sheet : List ℕ) (o : Settings) (h : Handed) (r : ℕ) (after : Handed) → PlanMadeInC file sheet o h r after
    → PlanEnds file sheet o h r after
plan-in-c _ _ _ _ _ _ (made κs voice sheet settings l state summary r after post) = (post.0, post.1)

pub spoken-in-c : (file sheet : List ℕ) (o : Settings) (h after : Handed) → PlanMadeInC file sheet o h 0 after → call_refusal file sheet o h.buffers ≡ None
unfolding refusal_of_plan
spoken-in-c file sheet o h after p = (next-none (call_refusal file sheet o h.buffers) _ (answered-none (refusal_of_plan file sheet o h) (plan-in-c file sheet o h 0 after p).0)).0

pub in-c-spoken : (file sheet : List ℕ) (o : Settings) (h : Handed) (r : ℕ) (after : Handed) → PlanMadeInC file sheet o h r after → call_refusal file sheet o h.buffers ≡ None
    → 168 ≤ length h.state → 48 ≤ length h.summary → r ≡ 0
in-c-spoken file sheet o h r after p e j k = (plan-in-c file sheet o h r after p).0 ∙ ap answer_of (by_call file sheet o h j k ∙ e)

-- what it left
pub left-in-c : (file sheet : List ℕ) (o : Settings) (h after : Handed) → PlanMadeInC file sheet o h 0 after → after ≡ handed_by file sheet o h None
unfolding handed_after
left-in-c file sheet o h after p =
    let e = plan-in-c file sheet o h 0 after p in
    e.1 ∙ ap (handed_by file sheet o h) (answered-none (refusal_of_plan file sheet o h) e.0)

-- ---- a spoken call

module _ (c : SpokenCall) where
  abbrev told : Summary
  told = summary_of (voice_in c) (sheet_in c) c.settings

  scales-fit : T (fits binary32 (voice_in c).header.coeff_min) × T (fits binary32 (voice_in c).header.coeff_range)
  unfolding voice_of voice_at places_of header_of
  scales-fit = (of_bits-fits binary32 _, of_bits-fits binary32 _)

  first-storable : Storable (fresh_of (voice_in c) c.settings)
  unfolding fresh_of
  first-storable =
      let h = (voice_in c).header in
      fresh-storable h.order h.coeff_min h.coeff_range (filter_in c.settings) (opened c).order_low scales-fit.0 scales-fit.1

  order-told : told.order ≤ 32
  unfolding summary_of
  order-told = (opened c).order_low

  -- the sizes and the excitation that the pulls are lent have fewer than 2 ^ 64 elements
  sizes-told : length (lent_after c).sizes ≡ told.periods
  unfolding summary_of sizes_of
  sizes-told = ap (λ (l : Lent). length l.sizes) (lent-filled c) ∙ length-map (periods_taken (voice_in c) (sheet_in c) c.settings) (λ (p : Period). p.size)

  excitation-told : length (lent_after c).excitation ≡ told.samples
  unfolding summary_of
  excitation-told = ap (λ (l : Lent). length l.excitation) (lent-filled c)

  periods-low : told.periods < 2 ^ 64
  unfolding summary_of
  periods-low = let l = periods-few (voice_in c) (sheet_in c) c.settings (planned c) in omega arith

  samples-low : told.samples < 2 ^ 64
  unfolding summary_of
  samples-low = samples-few (voice_in c) (sheet_in c) c.settings (planned c)

  -- the pulls are lent what the call filled
  lent-in-c : (w : List ℕ) → lent_in (over (summary_bytes told) w) (over_all (filled (voice_in c) (sheet_in c) c.settings) c.lent) ≡ bytes_after c
  unfolding bytes_after buffers_after
  lent-in-c w =
      let b = over (summary_bytes told) w in
      let periods : little_endian 8 b 8 ≡ told.periods = summary-stored told w 1 (omega arith) periods-low in
      let samples : little_endian 8 b 16 ≡ told.samples = summary-stored told w 2 (omega arith) samples-low in
      let order : little_endian 8 b 32 ≡ told.order = summary-stored told w 4 (omega arith) (let l = order-told in omega arith) in
      let n = c.not_refused in
      rw (periods, samples, order, n)

-- ---- a call and its pulls

pub made-in-c : (c : SpokenCall) (ds : List (List ℕ)) (os : List Shown) → MadeInC c ds os → os ≡ pulls_after c ds
unfolding pulls_after
made-in-c c ds os m =
    let h : Handed = record { buffers = c.lent; state = m.state; summary = m.summary } in
    let f = fresh_of (voice_in c) c.settings in
    let e = left-in-c c.voice_file c.sheet_file c.settings h m.left m.call in
    let b : lent_in m.left.summary m.left.buffers ≡ bytes_after c = ap (λ (x : Handed). lent_in x.summary x.buffers) e ∙ lent-in-c c m.summary in
    let held = subst (λ (x : Handed). HoldsState x.state f) (sym e) (stored-holds f m.state (first-storable c)) in
    let z : length (lent_after c).sizes < 2 ^ 64 = let q = sizes-told c in let l = periods-low c in rw q l in
    let x : length (lent_after c).excitation < 2 ^ 64 = let q = excitation-told c in let l = samples-low c in rw q l in
    pulls-in-c (bytes_after c) m.left.state f ds os held z x (subst (λ (x : LentBytes). PullsMadeInC x m.left.state ds os) b m.pulls)
    ∙ ap (λ (s : FilterState). pulls s (lent_after c) ds) (sym (fresh c))

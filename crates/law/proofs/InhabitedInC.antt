-- Every spoken call can be made and pulled from in C.
use Rattle.std.specs.Prelude.{None, Option, Some}
use Rattle.lpc.specs.declared.ResynthType.{ResynthType}
use mathlib.Core.Path.{◌≡◌, refl, sym, ap, subst, ◌∙◌}
use mathlib.Core.Bool.{Bool, true, false}
use mathlib.Core.List.{List, [], ◌∷◌}
use Prim.Native.Nat.{ℕ, ◌+◌, ◌*◌, ◌/◌, ◌%◌, ◌≤◌}
use native.Mathlib.Omega.{arith}
use lib.ListN.{replicate}
use Rattle.lpc.specs.declared.ResynthType.TheVariants.{Fixed, Float}
use Rattle.call.specs.declared.JoinType.{JoinType}
use Rattle.call.specs.declared.JoinType.TheVariants.{None, Simple, ModifiedLpc}
use Rattle.call.specs.declared.Settings.{Settings}
use Rattle.call.specs.Numbers.{join_of, filter_of, is_set, settings_of}
use Rattle.call.specs.Machine.{Shown}
use Rattle.refusal.specs.Number.{answer_of}
use Rattle.c_plan.specs.Plan.{Handed, refusal_of_plan, handed_after}
use Rattle.c_pull.specs.Pull.{number_for, state_left, slice_left}
use Rattle.c_plan.proofs.PlannedLaws.{by_call}
use Rattle.call.specs.SpokenCall.{SpokenCall, LentBytes, read_as}
use Rattle.law.specs.MadeInC.{PlanMadeInC, made, answer_read, PullsMadeInC, none, more, lent_in, MadeInC}
use Rattle.law.specs.Demand3.{HasPulls}
use Rattle.law.proofs.Lends.{share, lend, lend_all, lifetimes}

-- ---- every setting is said by a word

abbrev join_number : JoinType → ℕ
join_number None = 0
join_number Simple = 1
join_number ModifiedLpc = 2

abbrev filter_number : Option ResynthType → ℕ
filter_number None = 0
filter_number (Some Fixed) = 1
filter_number (Some Float) = 2

abbrev bit : Bool → ℕ
bit false = 0
bit true = 1

abbrev word_by : ℕ → ℕ → ℕ → ℕ → ℕ
word_by join filter fold strict = join + 4 * filter + 16 * fold + 32 * strict

abbrev word_of : Settings → ℕ
word_of o = word_by (join_number o.join) (filter_number o.filter) (bit o.fold) (bit o.strict)

-- each number is read back, and says what it was made of
parts : (j f b s : ℕ) → j ≤ 3 → f ≤ 3 → b ≤ 1 → s ≤ 1
    → let w = word_by j f b s in (w % 4 ≡ j) × ((w / 4 % 4 ≡ f) × ((w / 16 % 2 ≡ b) × (w / 32 % 2 ≡ s)))
parts j f b s h i k l = (omega arith, (omega arith, (omega arith, omega arith)))

join-said : (j : JoinType) → (join_number j ≤ 3) × (join_of (join_number j) ≡ j)
unfolding join_of
join-said None = (omega arith, refl)
join-said Simple = (omega arith, refl)
join-said ModifiedLpc = (omega arith, refl)

filter-said : (f : Option ResynthType) → (filter_number f ≤ 3) × (filter_of (filter_number f) ≡ f)
unfolding filter_of
filter-said None = (omega arith, refl)
filter-said (Some Fixed) = (omega arith, refl)
filter-said (Some Float) = (omega arith, refl)

bit-said : (b : Bool) → (bit b ≤ 1) × (is_set (bit b) ≡ b)
bit-said false = (omega arith, refl)
bit-said true = (omega arith, refl)

said : (o : Settings) → settings_of (word_of o) ≡ o
unfolding settings_of
said o =
    let j = join-said o.join in
    let f = filter-said o.filter in
    let b = bit-said o.fold in
    let s = bit-said o.strict in
    let p = parts (join_number o.join) (filter_number o.filter) (bit o.fold) (bit o.strict) j.0 f.0 b.0 s.0 in
    by (ap join_of p.0 ∙ j.1) (ap filter_of p.1.0 ∙ f.1) (ap is_set p.1.1.0 ∙ b.1) (ap is_set p.1.1.1 ∙ s.1)
  where
    by : {j k : JoinType} {f g : Option ResynthType} {b c s t : Bool} → j ≡ k → f ≡ g → b ≡ c → s ≡ t
        → ◌≡◌ {A = Settings} (record { join = j; filter = f; fold = b; strict = s }) (record { join = k; filter = g; fold = c; strict = t })
    by x y z w = cc

-- ---- the calls

record PullsExist (b : LentBytes) (w : List ℕ) (ds : List (List ℕ)) : Type 0 where
  shown : List Shown
  made : PullsMadeInC b w ds shown

pulls-exist : (b : LentBytes) (w : List ℕ) (ds : List (List ℕ)) → PullsExist b w ds
pulls-exist b w [] = record { shown = []; made = none }
pulls-exist b w (d ∷ ds) =
    let l = read_as b in
    let i = pulls-exist b (state_left w l d) ds in
    record {
      shown = record { answer = answer_read (number_for w l d); slice = slice_left w l d } ∷ i.shown;
      made =
          more (lifetimes 5) (lend w) (share b.sizes) (share b.rows) (share b.excitation) (lend d) (number_for w l d) (state_left w l d) (slice_left w l d)
          refl refl refl (refl, (refl, refl)) i.made;
    }

plan-exists : (file sheet : List ℕ) (o : Settings) (h : Handed) → refusal_of_plan file sheet o h ≡ None → PlanMadeInC file sheet o h 0 (handed_after file sheet o h)
plan-exists file sheet o h e =
    subst (λ (x : Settings). refusal_of_plan file sheet x h ≡ None → PlanMadeInC file sheet x h 0 (handed_after file sheet x h)) (said o)
    (λ q.
    made (lifetimes 10) (share file) (share sheet) (word_of o) (lend_all h.buffers) (lend h.state) (lend h.summary)
    0 _ (sym (ap answer_of q), refl))
    e

pub made-in-c-exists : (c : SpokenCall) (ds : List (List ℕ)) → HasPulls MadeInC c ds
made-in-c-exists c ds =
    let h : Handed = record { buffers = c.lent; state = replicate 168 0; summary = replicate 48 0 } in
    let after = handed_after c.voice_file c.sheet_file c.settings h in
    let i = pulls-exist (lent_in after.summary after.buffers) after.state ds in
    let spoken = by_call c.voice_file c.sheet_file c.settings h (omega arith) (omega arith) ∙ c.not_refused in
    record {
      shown = i.shown;
      after =
          record {
            state = h.state;
            summary = h.summary;
            left = after;
            call = plan-exists c.voice_file c.sheet_file c.settings h spoken;
            pulls = i.made;
          };
    }

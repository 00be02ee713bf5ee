use Rattle.std.specs.Prelude.{Ok, Option, Result, Some}
use Rattle.refusal.specs.declared.Refusal.{Refusal}
use mathlib.Core.Path.{◌≡◌, sym, ap, ◌∙◌}
use mathlib.Core.Bool.{true}
use mathlib.Core.List.{List}
use Prim.Native.Nat.{ℕ, ◌/◌, ◌^◌, ◌<◌}
use native.Mathlib.Omega.{arith}
use lib.ListN.{length}
use Rattle.base.specs.Buffers.{over, flat}
use Rattle.base.specs.Bytes.{bytes_of}
use Rattle.base.proofs.ByteLaws.{length-elements}
use Rattle.lpc.specs.declared.FilterState.{FilterState}
use Rattle.lpc.specs.Filter.{Part}
use Rattle.lpc.specs.State.{advanced, spoken}
use Rattle.call.specs.Pull.{lent_of, possible, next_part, Outcome, leaves}
use Rattle.call.proofs.PullLaws.{pull-impossible, pull-done, pull-short, pull-gives}
use Rattle.pulling.proofs.PullingLaws.{period-low, sample-low, can-take, next-is}
use Rattle.diphone.proofs.pull.Goals as goal
use Rattle.diphone.proofs.pull.Goals.{After-resynthesise_next-arg-1, After-slice_known-2-1, Else-state-sizes, Then-samples-n, Then-state-sizes}

-- both clauses at once
both : {o : Outcome} {a : Result (Option ℕ) Refusal} {s : FilterState} {d : List ℕ} → o ≡ leaves a s d → (record { answer = a; state = s } ≡ o.pulled) × (d ≡ o.slice)
both e = (sym (ap (λ (o : Outcome). o.pulled) e), sym (ap (λ (o : Outcome). o.slice) e))

given-ends : (o : Outcome) (m n : ℕ) (s s' : FilterState) (d d' : List ℕ) → o ≡ leaves (Ok (Some m)) s d → n ≡ m → s' ≡ s → d' ≡ d → o ≡ leaves (Ok (Some n)) s' d'
given-ends o m n s s' d d' e p q r = rw (p, q, r) e

sizes-count : (c : Then-state-sizes) → length (lent_of c.args.sizes.now c.args.rows.now c.args.excitation.now).sizes ≡ length c.args.sizes.now / 4
unfolding lent_of
sizes-count c = length-elements 4 c.args.sizes.now

sizes-count_2 : (c : Then-samples-n) → length (lent_of c.args.sizes.now c.args.rows.now c.args.excitation.now).sizes ≡ length c.args.sizes.now / 4
unfolding lent_of
sizes-count_2 c = length-elements 4 c.args.sizes.now

sizes-count_3 : (c : After-slice_known-2-1) → length (lent_of c.args.sizes.now c.args.rows.now c.args.excitation.now).sizes ≡ length c.args.sizes.now / 4
unfolding lent_of
sizes-count_3 c = length-elements 4 c.args.sizes.now

left : (c : Then-samples-n) → c.args.state.period ≡ length (lent_of c.args.sizes.now c.args.rows.now c.args.excitation.now).sizes → ⊥
left c e = c.if-state-sizes.false (e ∙ sizes-count_2 c)

left_2 : (c : After-slice_known-2-1) → c.args.state.period ≡ length (lent_of c.args.sizes.now c.args.rows.now c.args.excitation.now).sizes → ⊥
left_2 c e = c.if-state-sizes.false (e ∙ sizes-count_3 c)

tested : (c : Then-state-sizes) → possible c.args.state (lent_of c.args.sizes.now c.args.rows.now c.args.excitation.now) ≡ true
tested c = sym c.is_possible.ensures ∙ c.if-not-is_possible.false

tested_2 : (c : Else-state-sizes) → possible c.args.state (lent_of c.args.sizes.now c.args.rows.now c.args.excitation.now) ≡ true
tested_2 c = sym c.is_possible.ensures ∙ c.if-not-is_possible.false

tested_3 : (c : Then-samples-n) → possible c.args.state (lent_of c.args.sizes.now c.args.rows.now c.args.excitation.now) ≡ true
tested_3 c = sym c.is_possible.ensures ∙ c.if-not-is_possible.false

tested_4 : (c : After-resynthesise_next-arg-1) → possible c.args.state (lent_of c.args.sizes.now c.args.rows.now c.args.excitation.now) ≡ true
tested_4 c = sym c.is_possible.ensures ∙ c.if-not-is_possible.false

tested_5 : (c : After-slice_known-2-1) → possible c.args.state (lent_of c.args.sizes.now c.args.rows.now c.args.excitation.now) ≡ true
tested_5 c = sym c.is_possible.ensures ∙ c.if-not-is_possible.false

counted : (c : Then-samples-n) → c.next_len-n.result ≡ length (next_part c.args.state (lent_of c.args.sizes.now c.args.rows.now c.args.excitation.now)).bytes
unfolding next_part lent_of
counted c = c.next_len-n.ensures.0

counted_2 : (c : After-slice_known-2-1) → c.next_len-n.result ≡ length (next_part c.args.state (lent_of c.args.sizes.now c.args.rows.now c.args.excitation.now)).bytes
unfolding next_part lent_of
counted_2 c = c.next_len-n.ensures.0

pub returns-then-not-is_possible : goal.returns-then-not-is_possible
returns-then-not-is_possible c =
    let all = both (pull-impossible c.args.state (lent_of c.args.sizes.now c.args.rows.now c.args.excitation.now) c.args.samples.now (sym c.is_possible.ensures ∙ c.if-not-is_possible.true)) in record { value = all.0; samples_after = all.1 }

pub returns-then-state-sizes : goal.returns-then-state-sizes
returns-then-state-sizes c =
    let all = both (pull-done c.args.state (lent_of c.args.sizes.now c.args.rows.now c.args.excitation.now) c.args.samples.now (tested c) (c.if-state-sizes.true ∙ sym (sizes-count c))) in record { value = all.0; samples_after = all.1 }

pub next_len-n-requires : goal.next_len-n-requires
next_len-n-requires c =
    let a = c.args in
    let p = period-low a.state a.sizes.now a.rows.now a.excitation.now (tested_2 c) c.if-state-sizes.false in
    (omega arith, sample-low a.state a.sizes.now a.rows.now a.excitation.now (tested_2 c) c.if-state-sizes.false)

pub returns-then-samples-n : goal.returns-then-samples-n
returns-then-samples-n c =
    let all = both (pull-short c.args.state (lent_of c.args.sizes.now c.args.rows.now c.args.excitation.now) c.args.samples.now (tested_3 c) (left c) (rw (counted c) at c.if-samples-n.true)) in record { value = all.0; samples_after = all.1 }

pub resynthesise_next-after-requires : goal.resynthesise_next-after-requires
resynthesise_next-after-requires c =
    let a = c.args in
    let small : length a.sizes.now < 2 ^ 64 = omega arith in
    can-take a.state a.sizes.now a.rows.now a.excitation.now (tested_4 c) c.if-state-sizes.false c.next_len-n.result (length a.samples.now) c.next_len-n.ensures.1 c.if-samples-n.false small

pub returns : goal.returns
returns c =
    let a = c.args in
    let q = next-is a.state a.sizes.now a.rows.now a.excitation.now (tested_5 c) c.if-state-sizes.false c.next_len-n.result (counted_2 c) in
    let g = pull-gives c.args.state (lent_of c.args.sizes.now c.args.rows.now c.args.excitation.now) a.samples.now (tested_5 c) (left_2 c) (rw (counted_2 c) at c.if-samples-n.false) in
    let all = both
    (given-ends _ _ _ _ _ _ _ g (counted_2 c)
    (c.resynthesise_next-after.ensures.value ∙ ap (advanced a.state) q)
    (c.resynthesise_next-after.ensures.samples_after ∙ ap (λ (p : Part). over (flat (bytes_of 2) (spoken a.state p)) a.samples.now) q)) in
    record { value = all.0; samples_after = all.1 }

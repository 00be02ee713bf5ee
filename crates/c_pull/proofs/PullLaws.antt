-- What `diphone_pull` answers and leaves, case by case.
use Rattle.std.specs.Prelude.{Err, None, Ok, Option, Result, Some}
use mathlib.Core.Path.{◌≡◌, sym, ap, ◌∙◌}
use mathlib.Core.Bool.{Bool, true, false}
use mathlib.Core.List.{List}
use Prim.Native.Nat.{ℕ, zero, suc, ◌/◌, ◌^◌, ◌≤◌, ◌<◌}
use native.Mathlib.Nat.{lt_of_le_of_lt}
use native.Mathlib.Omega.{arith}
use borrow.Author.Tests.{le-leb, lt-leb}
use lib.Dec.{ltb}
use lib.IntN.{ℤ, pos, neg_ℤ, ◌-ℤ◌, +ℤ_idl}
use lib.ListN.{length, length-take, length-drop}
use mir.Syntax.{w64}
use mir.Val.{SFits, to_z, of_z}
use mir.Facts.{to_z_pos, to_z-of_z}
use Rattle.base.specs.Choice.{pick}
use Rattle.base.specs.Buffers.{over, flat}
use Rattle.base.specs.Bytes.{little_endian, bytes_of}
use Rattle.base.proofs.ListLaws.{every-nil, every-cons, every-pass, every-fail}
use Rattle.refusal.specs.declared.Refusal.{Refusal}
use Rattle.refusal.specs.declared.Refusal.TheVariants.{ShortSlice, BadState}
use Rattle.refusal.specs.Number.{number_of}
use Rattle.refusal.proofs.NumberLaws.{number-low}
use Rattle.lpc.specs.declared.FilterState.{FilterState}
use Rattle.lpc.specs.State.{advanced, spoken}
use Rattle.call.specs.declared.Pulled.{Pulled}
use Rattle.call.specs.Pull.{Lent, lent_of, all_given, possible, next_part, Outcome, leaves, pull_of, pull_number}
use Rattle.c_state.specs.State.{state_of}
use Rattle.c_pull.specs.Pull.{is_state, outcome_of, refused_number, number_for, kept_by, state_left, slice_left}

-- ---- minus a number

minus-fits : (n : ℕ) → n ≤ 22 → SFits w64 (neg_ℤ (pos n))
minus-fits zero h = record { sfits = omega arith }
minus-fits (suc n) h = record { sfits = omega arith }

module _ (r : Refusal) (n : ℕ) (e : n ≡ number_of r) where
  minus_is : pos 0 -ℤ to_z w64 n ≡ refused_number r
  minus_is = let l = number-low r in ap (λ (z : ℤ). pos 0 -ℤ z) (to_z_pos w64 {n = n} (omega arith)) ∙ +ℤ_idl (neg_ℤ (pos n)) ∙ ap (λ (m : ℕ). neg_ℤ (pos m)) e

  pub refused-fits : SFits w64 (pos 0 -ℤ to_z w64 n)
  refused-fits = rw minus_is (minus-fits (number_of r) (number-low r))

  pub refused-is : to_z w64 (of_z w64 (pos 0 -ℤ to_z w64 n)) ≡ refused_number r
  refused-is = to_z-of_z refused-fits ∙ minus_is

-- ---- the outcome

-- the answer, and the state's bytes and the slice afterwards
abbrev pub Ends : List ℕ → Lent → List ℕ → ℤ → List ℕ → List ℕ → Type 0
Ends b l d r new_state new_slice = (r ≡ number_for b l d) × ((new_state ≡ state_left b l d) × (new_slice ≡ slice_left b l d))

module _ (b : List ℕ) where
  pub cut_short : length b < 168 → is_state b ≡ false
  unfolding is_state
  cut_short h = every-fail _ _ (lt-leb 168 (length b) h)

  pub other-filter : 168 ≤ length b → 1 < little_endian 4 b 0 → is_state b ≡ false
  unfolding is_state
  other-filter h k = every-pass _ _ (le-leb 168 (length b) h) ∙ every-fail _ _ (lt-leb (little_endian 4 b 0) 1 k)

  pub is_state_lem : 168 ≤ length b → little_endian 4 b 0 ≤ 1 → is_state b ≡ true
  unfolding is_state
  is_state_lem h k = every-cons _ _ (le-leb 168 (length b) h) (every-cons _ _ (le-leb (little_endian 4 b 0) 1 k) every-nil)

  module _ (l : Lent) (d : List ℕ) where
    outcome-ends : (o : Outcome) (r : ℤ) → outcome_of b l d ≡ o → r ≡ pull_number o.pulled.answer → Ends b l d r (kept_by o.pulled.answer o.pulled b) o.slice
    outcome-ends o r e q = (
      q ∙ sym (ap (λ (x : Outcome). pull_number x.pulled.answer) e),
      (sym (ap (λ (x : Outcome). kept_by x.pulled.answer x.pulled b) e), sym (ap (λ (x : Outcome). x.slice) e)),
    )

    -- bytes that are no state
    pub no-state-ends : (r : ℤ) → is_state b ≡ false → r ≡ refused_number BadState → Ends b l d r b d
    unfolding outcome_of
    no-state-ends r e q = outcome-ends (leaves (Err BadState) (state_of b) d) r (rw e) q

    -- a pull that returned p, and answered a
    pub pulled-ends : (r : ℤ) (p : Pulled) (a : Result (Option ℕ) Refusal) (new_state new_slice : List ℕ) → is_state b ≡ true → p ≡ (pull_of (state_of b) l d).pulled → p.answer ≡ a
        → r ≡ pull_number a → new_state ≡ kept_by a p b → new_slice ≡ (pull_of (state_of b) l d).slice → Ends b l d r new_state new_slice
    unfolding outcome_of
    pulled-ends r p a new_state new_slice e q f n s t =
        let o = pull_of (state_of b) l d in
        let g : a ≡ o.pulled.answer = sym f ∙ ap (λ (x : Pulled). x.answer) q in
        let h = outcome-ends o r (rw e) (n ∙ ap pull_number g) in
        (h.0, (s ∙ ap (λ (x : Result (Option ℕ) Refusal). kept_by x p b) g ∙ ap (λ (x : Pulled). kept_by o.pulled.answer x b) q ∙ h.1.0, t ∙ h.1.1))

-- ---- a pull, by its three tests

module _ (s : FilterState) (l : Lent) (d : List ℕ) where
  -- the state is possible, all was given, the slice is short
  abbrev pub chosen : Bool → Bool → Bool → Outcome
  chosen t u v =
      let p = next_part s l in
      pick t
      (pick u (leaves (Ok None) s d) (pick v (leaves (Err ShortSlice) s d) (leaves (Ok (Some (length p.bytes))) (advanced s p) (over (flat (bytes_of 2) (spoken s p)) d))))
      (leaves (Err BadState) s d)

-- a period given has no more samples than the excitation has bytes
module _ (s : FilterState) (l : Lent) (d : List ℕ) (n : ℕ) where
  by-test : (t u v : Bool) → (chosen s l d t u v).pulled.answer ≡ Ok (Some n) → n ≤ length l.excitation
  unfolding next_part
  by-test true true v e = let z : ◌≡◌ {A = ℕ} 0 1 = cc in absurd (omega arith)
  by-test true false true e = let z : ◌≡◌ {A = ℕ} 0 1 = cc in absurd (omega arith)
  by-test true false false e =
      let q : n ≡ length (next_part s l).bytes = cc in
      rw (q, length-take, length-drop) (omega arith)
  by-test false u v e = let z : ◌≡◌ {A = ℕ} 0 1 = cc in absurd (omega arith)

  pub given-low : (pull_of s l d).pulled.answer ≡ Ok (Some n) → n ≤ length l.excitation
  unfolding pull_of
  given-low e = by-test (possible s l) (all_given s l) (ltb (length d / 2) (length (next_part s l).bytes)) e

-- the count of samples that a pull gave fits an i64
pub given-fits : (s : FilterState) (sizes rows excitation d : List ℕ) (n : ℕ) {p : Pulled} → p ≡ (pull_of s (lent_of sizes rows excitation) d).pulled → p.answer ≡ Ok (Some n)
    → length excitation < 2 ^ 63 → n < 2 ^ 63
unfolding lent_of
given-fits s sizes rows excitation d n e f h =
    let l = given-low s (lent_of sizes rows excitation) d n (sym (ap (λ (x : Pulled). x.answer) e) ∙ f) in
    lt_of_le_of_lt l h

-- a pull by the state that the bytes say
module _ (l : Lent) (d : List ℕ) {s t : FilterState} (e : s ≡ t) where
  pub pulled-by : {p : Pulled} → p ≡ (pull_of s l d).pulled → p ≡ (pull_of t l d).pulled
  pulled-by h = h ∙ ap (λ (x : FilterState). (pull_of x l d).pulled) e

  pub slice-by : {b : List ℕ} → b ≡ (pull_of s l d).slice → b ≡ (pull_of t l d).slice
  slice-by h = h ∙ ap (λ (x : FilterState). (pull_of x l d).slice) e

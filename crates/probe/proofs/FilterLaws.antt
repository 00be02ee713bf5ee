-- Two periods from a fresh state: each can be taken, and their samples stand one after the other.
use mathlib.Core.Path.{◌≡◌, refl, sym, ap, ◌∙◌}
use mathlib.Core.List.{List, [], ◌∷◌, ◌++◌, append-nil}
use Prim.Native.Nat.{ℕ, ◌+◌, ◌-◌, ◌*◌, ◌^◌, ◌≤◌, ◌<◌}
use native.Mathlib.Omega.{arith}
use lib.Ieee.{Float}
use lib.ListN.{length, take, drop, length-drop, drop_of_length-le}
use lib.Seq.{take_all}
use Rattle.base.specs.Buffers.{over, flat}
use Rattle.base.specs.Bytes.{bytes_of, elements}
use Rattle.base.proofs.BufferLaws.{over-part, flat_append, length-flat, length-upto}
use Rattle.base.proofs.ByteLaws.{length-bytes_of}
use Rattle.lpc.specs.declared.ResynthType.{ResynthType}
use Rattle.lpc.specs.declared.FilterState.{FilterState}
use Rattle.lpc.specs.Filter.{Part}
use Rattle.lpc.specs.Ready.{Ready, part_of}
use Rattle.lpc.specs.State.{fresh_state, advanced, spoken, periods_by}
use Rattle.lpc.proofs.StateLaws.{Steps, fresh-continues, fresh-place, continues-low, kept, steps}
use Rattle.probe.specs.Filters.{two_spoken}

row-length : (row : List ℕ) (order : ℕ) → length row ≡ 2 * order → length (elements 2 row) ≤ order
unfolding elements
row-length row order h = rw length-upto (omega arith)

module _ (t : ResynthType) (order : ℕ) (least range : Float) (low : order ≤ 32) (s : FilterState) (fresh : s ≡ fresh_state t order least range) where
  order_is : s.order ≡ order
  unfolding fresh_state
  order_is = rw fresh

  place_is : s.ring_place ≡ order
  unfolding fresh_state
  place_is = rw fresh

  starts : (s.period ≡ 0) × (s.sample_place ≡ 0)
  starts = rw fresh (fresh-place t order least range)

  pub ready-first : (row e d : List ℕ) → length row ≡ 2 * order → 2 * length e ≤ length d → length e < 2 ^ 63 → Ready s row e d
  ready-first row e d w r l =
      record {
        order_low = omega (arith, order_is);
        place_low = omega (arith, order_is, place_is);
        whole = rw order_is w;
        room = r;
        period_low = omega (arith, starts);
        sample_low = omega (arith, starts);
      }

  module _ (row e : List ℕ) (w : length row ≡ 2 * order) where
    abbrev p : Part
    p = part_of row e

    stepped : Steps s p [] (periods_by t least range (p ∷ []))
    stepped = steps s p [] (periods_by t least range (p ∷ [])) (rw order_is (row-length row order w)) (rw fresh (fresh-continues t order least range (p ∷ []) low))

    abbrev first : List ℕ
    first = flat (bytes_of 2) (spoken s p)

    length-first : length first ≡ 2 * length e
    length-first = length-flat (bytes_of 2) 2 (length-bytes_of 2) (spoken s p) ∙ ap (λ (n : ℕ). 2 * n) (ap length stepped.now ∙ stepped.count)

    pub ready-second : (after : FilterState) → after ≡ advanced s p → (row' e' d : List ℕ) → length row' ≡ 2 * order → 2 * length e' ≤ length d → length e + length e' < 2 ^ 63 → Ready after row' e' d
    ready-second after is row' e' d w' r l =
        let k = kept s p in
        rw is (record {
          order_low = omega (arith, order_is, k.order);
          place_low = continues-low stepped.then;
          whole = rw (k.order, order_is) w';
          room = r;
          period_low = omega (arith, starts, k.period);
          sample_low = omega (arith, starts, k.place);
        })

    -- the second period's samples, in the part of the buffer behind the first's
    pub two-spoken : (after : FilterState) (n : ℕ) (q : Part) (d d₁ d₂ : List ℕ) → after ≡ advanced s p → n ≡ 2 * length e → d₁ ≡ over first d → d₂ ≡ over (flat (bytes_of 2) (spoken after q)) (take (length d₁ - n) (drop n d₁)) → take n d₁ ++ (d₂ ++ drop (length d₁ - n) (drop n d₁)) ≡ over (flat (bytes_of 2) (two_spoken s p q)) d
    unfolding two_spoken over
    two-spoken after n q d d₁ d₂ is h e₁ e₂ =
        let y = flat (bytes_of 2) (spoken after q) in
        let k : length (drop n d₁) ≤ length d₁ - n = rw length-drop (omega arith) in
        let f : d₂ ≡ over y (drop n d₁) = e₂ ∙ ap (over y) (take_all (length d₁ - n) (drop n d₁) k) in
        ap (λ (l : List ℕ). take n d₁ ++ (d₂ ++ l)) (drop_of_length-le (drop n d₁) k)
        ∙ rw (append-nil d₂, f, e₁) (over-part first y d n (length y) (length-first ∙ sym h) refl)
        ∙ ap (λ (l : List ℕ). over l d) (sym (flat_append (bytes_of 2) (spoken s p) (spoken after q)))
        ∙ ap (λ (u : FilterState). over (flat (bytes_of 2) (spoken s p ++ spoken u q)) d) is

pub two-same : (t u : ResynthType) (order : ℕ) (least range : Float) (s : FilterState) (p q : Part) (d : List ℕ) → s ≡ fresh_state t order least range → t ≡ u → over (flat (bytes_of 2) (two_spoken s p q)) d ≡ over (flat (bytes_of 2) (two_spoken (fresh_state u order least range) p q)) d
two-same t u order least range s p q d e f = rw (e, f)

-- The states of a call's pulls can be stored: the fresh one, and each after one that can.
use mathlib.Core.Path.{◌≡◌, refl, sym, subst, ◌∙◌}
use mathlib.Core.Bool.{false}
use mathlib.Core.List.{List}
use Prim.Native.Nat.{ℕ, zero, suc, ◌+◌, ◌^◌, ◌≤◌, ◌<◌}
use native.Mathlib.Omega.{arith}
use lib.Dec.{T}
use lib.IntN.{pos}
use lib.ListN.{length, get_or, replicate, get_or-eq_default}
use lib.Ieee.{Float, nan, fin, binary32, fits}
use Rattle.base.proofs.CaseLaws.{by_order}
use Rattle.lpc.specs.declared.ResynthType.{ResynthType}
use Rattle.lpc.specs.declared.ResynthType.TheVariants.{Fixed, Float as FloatType}
use Rattle.lpc.specs.declared.FilterState.{FilterState}
use Rattle.lpc.specs.Filter.{Part}
use Rattle.lpc.specs.Fixed.{fixed_filter}
use Rattle.lpc.specs.Floating.{float_filter}
use Rattle.lpc.specs.Ring.{Ring, ring_after}
use Rattle.lpc.specs.State.{fresh_state, fixed_ring, float_ring, advanced_by, advanced}
use Rattle.c_state.proofs.RoundLaws.{HistoryFits, fixed, float, Storable}
use Rattle.lpc.proofs.HistoryLaws.{ring-each, ring-length, ring-low, fixed_word, float_fits}

replicate-each : {A : Type 0} (P : A → Type 0) (n : ℕ) (a d : A) → P a → P d → (i : ℕ) → P (get_or (replicate n a) i d)
replicate-each P zero a d p q i = q
replicate-each P (suc n) a d p q zero = p
replicate-each P (suc n) a d p q (suc i) = replicate-each P n a d p q i

abbrev Fits : Float → Type 0
Fits x = T (fits binary32 x)

-- a place past the end counts as a NaN
each-place : (h : List Float) → length h ≡ 33 → ((i : ℕ) → i < 33 → Fits (get_or h i nan)) → (i : ℕ) → Fits (get_or h i nan)
unfolding fits
each-place h l b i = by_order i 33 (b i) (λ g. subst Fits (sym (get_or-eq_default h nan (omega (arith, l, g)))) tt)

-- ---- the fresh state

module _ (order : ℕ) (least range : Float) where
  fresh-history : (t : ResynthType) → HistoryFits (fresh_state t order least range) t
  unfolding fresh_state fits
  fresh-history Fixed = fixed refl (replicate-each (λ w. w < 2 ^ 32) 33 0 0 (omega arith) (omega arith)) refl
  fresh-history FloatType = float refl (λ i h. replicate-each Fits 33 (fin false 0 (pos 0)) nan tt tt i) refl

  pub fresh-storable : (t : ResynthType) → order ≤ 32 → Fits least → Fits range → Storable (fresh_state t order least range)
  unfolding fresh_state
  fresh-storable t l a b =
      record {
        order_low = omega arith;
        place_low = omega arith;
        period_low = omega arith;
        sample_low = omega arith;
        least_fits = a;
        range_fits = b;
        history = fresh-history t;
      }

-- ---- one period more

module _ (s : FilterState) (p : Part) where
  abbrev fixed_now : Ring ℕ
  fixed_now = ring_after (fixed_filter s.coeff_min s.coeff_range) s.order p.row (fixed_ring s) p.bytes

  abbrev float_now : Ring Float
  float_now = ring_after (float_filter s.coeff_min s.coeff_range) s.order p.row (float_ring s) p.bytes

  abbrev after : ResynthType → FilterState
  after t =
      elim t [
        | Fixed ↦ advanced_by s (length p.bytes) fixed_now.place fixed_now.history s.float
        | FloatType ↦ advanced_by s (length p.bytes) float_now.place s.fixed float_now.history
      ]

  advanced-is : advanced s p ≡ after s.filter
  unfolding advanced
  advanced-is = refl

  module _ (old : Storable s) (place : s.ring_place ≤ s.order) (period : s.period + 1 < 2 ^ 64) (sample : s.sample_place + length p.bytes < 2 ^ 64) where
    after-storable : (t : ResynthType) → s.filter ≡ t → HistoryFits s t → Storable (after t)
    unfolding fits
    after-storable Fixed e (fixed l b z) =
        let f = fixed_filter s.coeff_min s.coeff_range in
        let low = ring-low f s.order p.row (fixed_ring s) place p.bytes in
        record {
          order_low = old.order_low;
          place_low = let o = old.order_low in omega arith;
          period_low = period;
          sample_low = sample;
          least_fits = old.least_fits;
          range_fits = old.range_fits;
          history =
              subst (HistoryFits (after Fixed)) (sym e)
              (fixed (ring-length f s.order p.row (fixed_ring s) p.bytes ∙ l)
              (ring-each f s.order p.row (λ w. w < 2 ^ 32) 0 (fixed_word s.coeff_min s.coeff_range p.row) (fixed_ring s) b p.bytes) z);
        }
    after-storable FloatType e (float l b z) =
        let f = float_filter s.coeff_min s.coeff_range in
        let low = ring-low f s.order p.row (float_ring s) place p.bytes in
        record {
          order_low = old.order_low;
          place_low = let o = old.order_low in omega arith;
          period_low = period;
          sample_low = sample;
          least_fits = old.least_fits;
          range_fits = old.range_fits;
          history =
              subst (HistoryFits (after FloatType)) (sym e)
              (float (ring-length f s.order p.row (float_ring s) p.bytes ∙ l)
              (λ i h.
              ring-each f s.order p.row Fits nan (float_fits s.coeff_min s.coeff_range p.row) (float_ring s)
              (each-place s.float l b) p.bytes i) z);
        }

    pub advanced-storable : Storable (advanced s p)
    advanced-storable = subst Storable (sym advanced-is) (after-storable s.filter refl old.history)

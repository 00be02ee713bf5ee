-- A filter state goes on with the samples that the list of periods defines.
use mathlib.Core.Path.{◌≡◌, refl, sym, ap, ◌∙◌}
use mathlib.Core.List.{List, [], ◌∷◌}
use Prim.Native.Nat.{ℕ, ◌+◌, ◌≤◌}
use native.Mathlib.Omega.{arith}
use lib.ListN.{length, replicate, length-replicate}
use lib.Ieee.{Float}
use Rattle.base.specs.Buffers.{over, flat}
use Rattle.base.specs.Bytes.{bytes_of}
use Rattle.base.proofs.ListLaws.{replicated}
use Rattle.lpc.specs.declared.ResynthType.{ResynthType}
use Rattle.lpc.specs.declared.ResynthType.TheVariants.{Fixed, Float as FloatType}
use Rattle.lpc.specs.declared.FilterState.{FilterState}
use Rattle.lpc.specs.Filter.{Filter, Part, outputs, samples, periods_from}
use Rattle.lpc.specs.Fixed.{fixed_filter}
use Rattle.lpc.specs.Floating.{float_filter}
use Rattle.lpc.specs.Ring.{Ring, tap, ring_after, ring_samples}
use Rattle.lpc.specs.State.{fresh_state, fixed_ring, float_ring, advanced_by, advanced, spoken, periods_by}
use Rattle.lpc.proofs.FilterLaws.{fixed-causal, float-causal, length-samples}
use Rattle.lpc.proofs.RingLaws.{Holds, ring-holds, ring-samples}

-- what one period leaves as it was, and what it counts
pub record Kept (s t : FilterState) (n : ℕ) : Type 0 where
  pub order : t.order ≡ s.order
  pub period : t.period ≡ s.period + 1
  pub place : t.sample_place ≡ s.sample_place + n
  pub least : t.coeff_min ≡ s.coeff_min
  pub range : t.coeff_range ≡ s.coeff_range

abbrev pub fixed_of : FilterState → Filter ℕ
fixed_of s = fixed_filter s.coeff_min s.coeff_range

abbrev pub float_of : FilterState → Filter Float
float_of s = float_filter s.coeff_min s.coeff_range

-- from s on, the periods ps give the samples out
pub data Continues (s : FilterState) (ps : List Part) (out : List (List ℕ)) : Type 0 where
  fixed : (h : List ℕ) → s.filter ≡ Fixed → Holds (fixed_of s) s.order (fixed_ring s) h → out ≡ periods_from (fixed_of s) h ps → Continues s ps out
  float : (h : List Float) → s.filter ≡ FloatType → Holds (float_of s) s.order (float_ring s) h → out ≡ periods_from (float_of s) h ps → Continues s ps out

-- the ring place is one of the ring's
pub continues-low : {s : FilterState} {ps : List Part} {out : List (List ℕ)} → Continues s ps out → s.ring_place ≤ s.order
continues-low (fixed h e r q) = r.place_low
continues-low (float h e r q) = r.place_low

-- ---- the fresh state

fresh_holds : {A : Type 0} (f : Filter A) (order : ℕ) → order ≤ 32 → Holds f order (record { history = replicate 33 f.rest; place = order }) []
fresh_holds f order l = record { place_low = omega arith; room = rw length-replicate (omega arith); same = λ k m. replicated 33 (tap order order k) f.rest }

pub fresh-continues : (t : ResynthType) (order : ℕ) (least range : Float) (ps : List Part) → order ≤ 32 → Continues (fresh_state t order least range) ps (periods_by t least range ps)
unfolding fresh_state periods_by fixed_filter float_filter
fresh-continues Fixed order least range ps l = fixed [] refl (fresh_holds (fixed_filter least range) order l) refl
fresh-continues FloatType order least range ps l = float [] refl (fresh_holds (float_filter least range) order l) refl

-- a call's first period begins at the first sample
pub fresh-place : (t : ResynthType) (order : ℕ) (least range : Float) → ((fresh_state t order least range).period ≡ 0) × ((fresh_state t order least range).sample_place ≡ 0)
unfolding fresh_state
fresh-place t order least range = (refl, refl)

-- ---- one period

module _ (s : FilterState) (p : Part) where
  abbrev fixed_now : Ring ℕ
  fixed_now = ring_after (fixed_of s) s.order p.row (fixed_ring s) p.bytes

  abbrev float_now : Ring Float
  float_now = ring_after (float_of s) s.order p.row (float_ring s) p.bytes

  abbrev fixed_spoken : List ℕ
  fixed_spoken = ring_samples (fixed_of s) s.order p.row (fixed_ring s) p.bytes

  abbrev float_spoken : List ℕ
  float_spoken = ring_samples (float_of s) s.order p.row (float_ring s) p.bytes

  abbrev choose : {X : Type 0} → ResynthType → X → X → X
  choose t x y = elim t [ Fixed ↦ x | FloatType ↦ y ]

  abbrev by_fixed : FilterState
  by_fixed = advanced_by s (length p.bytes) fixed_now.place fixed_now.history s.float

  abbrev by_float : FilterState
  by_float = advanced_by s (length p.bytes) float_now.place s.fixed float_now.history

  advanced-is : (t : ResynthType) → s.filter ≡ t → advanced s p ≡ choose t by_fixed by_float
  unfolding advanced
  advanced-is t e = ap (λ (u : ResynthType). choose u by_fixed by_float) e

  spoken-is : (t : ResynthType) → s.filter ≡ t → spoken s p ≡ choose t fixed_spoken float_spoken
  unfolding spoken
  spoken-is t e = ap (λ (u : ResynthType). choose u fixed_spoken float_spoken) e

  -- the state after it, and the buffer d with its samples
  abbrev Given : List ℕ → List ℕ → FilterState → Type 0
  Given d d₀ t = (t ≡ advanced s p) × (d ≡ over (flat (bytes_of 2) (spoken s p)) d₀)

  -- a period's ring and bytes, as a loop leaves them, are the state after it and its samples
  pub fixed-given : (r : Ring ℕ) (d d₀ : List ℕ) → s.filter ≡ Fixed → (r ≡ fixed_now) × (d ≡ over (flat (bytes_of 2) fixed_spoken) d₀) → Given d d₀ (advanced_by s (length p.bytes) r.place r.history s.float)
  fixed-given r d d₀ e g =
      (ap (λ (t : Ring ℕ). advanced_by s (length p.bytes) t.place t.history s.float) g.0 ∙ sym (advanced-is Fixed e), g.1 ∙ rw (spoken-is Fixed e))

  pub float-given : (r : Ring Float) (d d₀ : List ℕ) → s.filter ≡ FloatType → (r ≡ float_now) × (d ≡ over (flat (bytes_of 2) float_spoken) d₀) → Given d d₀ (advanced_by s (length p.bytes) r.place s.fixed r.history)
  float-given r d d₀ e g =
      (ap (λ (t : Ring Float). advanced_by s (length p.bytes) t.place s.fixed t.history) g.0 ∙ sym (advanced-is FloatType e), g.1 ∙ rw (spoken-is FloatType e))

  pub kept : Kept s (advanced s p) (length p.bytes)
  kept = by s.filter refl
    where
      by : (t : ResynthType) → s.filter ≡ t → Kept s (advanced s p) (length p.bytes)
      by Fixed e = rw (advanced-is Fixed e) (record { order = refl; period = refl; place = refl; least = refl; range = refl })
      by FloatType e = rw (advanced-is FloatType e) (record { order = refl; period = refl; place = refl; least = refl; range = refl })

  -- the period's samples are the first, and the state after it goes on with the others
  pub record Steps (ps : List Part) (out : List (List ℕ)) : Type 0 where
    pub first : List ℕ
    pub rest : List (List ℕ)
    pub whole : out ≡ first ∷ rest
    pub now : spoken s p ≡ first
    pub count : length first ≡ length p.bytes
    pub then : Continues (advanced s p) ps rest

  pub steps : (ps : List Part) (out : List (List ℕ)) → length p.row ≤ s.order → Continues s (p ∷ ps) out → Steps ps out
  unfolding periods_from
  steps ps out l (fixed h e r q) =
      let c = fixed-causal s.coeff_min s.coeff_range in
      record {
        first = samples (fixed_of s) p.row h p.bytes;
        rest = periods_from (fixed_of s) (outputs (fixed_of s) p.row h p.bytes) ps;
        whole = q;
        now = spoken-is Fixed e ∙ ring-samples (fixed_of s) s.order c p.row l (fixed_ring s) h r p.bytes;
        count = length-samples (fixed_of s) p.row h p.bytes;
        then = rw (advanced-is Fixed e) (fixed (outputs (fixed_of s) p.row h p.bytes) e (ring-holds (fixed_of s) s.order c p.row l (fixed_ring s) h r p.bytes) refl);
      }
  steps ps out l (float h e r q) =
      let c = float-causal s.coeff_min s.coeff_range in
      record {
        first = samples (float_of s) p.row h p.bytes;
        rest = periods_from (float_of s) (outputs (float_of s) p.row h p.bytes) ps;
        whole = q;
        now = spoken-is FloatType e ∙ ring-samples (float_of s) s.order c p.row l (float_ring s) h r p.bytes;
        count = length-samples (float_of s) p.row h p.bytes;
        then = rw (advanced-is FloatType e) (float (outputs (float_of s) p.row h p.bytes) e (ring-holds (float_of s) s.order c p.row l (float_ring s) h r p.bytes) refl);
      }

-- One period more, on a filter state.
use Rattle.std.specs.Prelude.{false, List, [], ℕ, ◌+◌, pos, length, replicate, Float}
use Rattle.std.specs.Float.{fin}
use Rattle.lpc.specs.declared.ResynthType.{ResynthType}
use Rattle.lpc.specs.declared.ResynthType.TheVariants.{Fixed, Float as FloatType}
use Rattle.lpc.specs.declared.FilterState.{FilterState}
use Rattle.lpc.specs.Filter.{Part, periods_from}
use Rattle.lpc.specs.Fixed.{fixed_filter}
use Rattle.lpc.specs.Floating.{float_filter}
use Rattle.lpc.specs.Ring.{Ring, ring_after, ring_samples}

-- 'fresh filter state (first period, sample place 0, history 0; its order, scale and filter)'
unfoldable pub fresh_state : ResynthType → ℕ → Float → Float → FilterState
fresh_state filter order least range =
    record {
      filter = filter;
      order = order;
      ring_place = order;
      period = 0;
      sample_place = 0;
      coeff_min = least;
      coeff_range = range;
      fixed = replicate 33 0;
      float = replicate 33 (fin false 0 (pos 0));
    }

abbrev pub fixed_ring : FilterState → Ring ℕ
fixed_ring s = record { history = s.fixed; place = s.ring_place }

abbrev pub float_ring : FilterState → Ring Float
float_ring s = record { history = s.float; place = s.ring_place }

-- the state one period of n samples later, with its rings given
abbrev pub advanced_by : FilterState → ℕ → ℕ → List ℕ → List Float → FilterState
advanced_by s n place fixed float =
    record {
      filter = s.filter;
      order = s.order;
      ring_place = place;
      period = s.period + 1;
      sample_place = s.sample_place + n;
      coeff_min = s.coeff_min;
      coeff_range = s.coeff_range;
      fixed = fixed;
      float = float;
    }

-- one period: the state after it, and its samples
unfoldable pub advanced : FilterState → Part → FilterState
advanced s p =
    let x = ring_after (fixed_filter s.coeff_min s.coeff_range) s.order p.row (fixed_ring s) p.bytes in
    let y = ring_after (float_filter s.coeff_min s.coeff_range) s.order p.row (float_ring s) p.bytes in
    elim s.filter [
      | Fixed ↦ advanced_by s (length p.bytes) x.place x.history s.float
      | FloatType ↦ advanced_by s (length p.bytes) y.place s.fixed y.history
    ]

unfoldable pub spoken : FilterState → Part → List ℕ
spoken s p =
    elim s.filter [
      | Fixed ↦ ring_samples (fixed_filter s.coeff_min s.coeff_range) s.order p.row (fixed_ring s) p.bytes
      | FloatType ↦ ring_samples (float_filter s.coeff_min s.coeff_range) s.order p.row (float_ring s) p.bytes
    ]

-- the samples of each period of a call, by its filter
unfoldable pub periods_by : ResynthType → Float → Float → List Part → List (List ℕ)
periods_by Fixed least range ps = periods_from (fixed_filter least range) [] ps
periods_by FloatType least range ps = periods_from (float_filter least range) [] ps

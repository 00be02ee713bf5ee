-- Inner: A checked call's buffers and its summary.
use Rattle.std.specs.Prelude.{ℕ}
use Rattle.call.specs.declared.Need.{Need}
use Rattle.call.specs.declared.Summary.{Summary}

-- the summary of a call, from its voice's rate and order, and its need
abbrev pub summary_by : ℕ → ℕ → Need → Summary
summary_by rate order n =
    record {
      rate = rate;
      periods = n.periods;
      samples = n.excitation;
      marks = n.marks;
      order = order;
      entries = n.entries;
    }

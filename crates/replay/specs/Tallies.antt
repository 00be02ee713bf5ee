-- Counting calls by what is stored of them, and those that disagree.
use Rattle.std.specs.Prelude.{◌≡◌, Bool, true, false, ℕ, ◌+◌, ◌*◌, ◌≤◌, eqb, length, get_or, set, replicate}
use Rattle.base.specs.Choice.{pick}
use Rattle.replay.specs.declared.Tally.{Tally}

-- no call
abbrev pub none : Tally
none = record { calls = 0; wrong = 0; first = 0; kinds = replicate 23 0; periods = 0 }

-- `wrong` and `first`, the number of the first call that disagrees, with one more call
abbrev pub wrong_with : Tally → Bool → ℕ
wrong_with t true = t.wrong
wrong_with t false = t.wrong + 1

abbrev pub first_with : Tally → Bool → ℕ
first_with t true = t.first
first_with t false = pick (eqb t.wrong 0) (t.calls + 1) t.first

-- one more call, by the kind and the periods of its stored text and whether it agrees
unfoldable pub counted : Tally → ℕ → ℕ → Bool → Tally
counted t kind periods agrees =
    record {
      calls = t.calls + 1;
      wrong = wrong_with t agrees;
      first = first_with t agrees;
      kinds = set t.kinds kind (get_or t.kinds kind 0 + 1);
      periods = t.periods + periods;
    }

-- no number of a tally is above its calls, but that a call has up to 65,536 periods
pub record Sound (t : Tally) : Type 0 where
  pub wrong : t.wrong ≤ t.calls
  pub kinds : (k : ℕ) → get_or t.kinds k 0 ≤ t.calls
  pub whole : length t.kinds ≡ 23
  pub periods : t.periods ≤ 65536 * t.calls

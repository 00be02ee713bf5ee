-- Counting what agrees and what does not.
use Rattle.std.specs.Prelude.{Bool, true, false, ℕ, zero, suc, ◌+◌, ◌≤◌, eqb}
use Rattle.base.specs.Choice.{pick}
use Rattle.vectors.specs.declared.Tally.{Tally}

-- nothing compared
abbrev pub none : Tally
none = record { compared = 0; wrong = 0; first = 0 }

-- one comparison, by whether the two sides are equal
unfoldable pub one : Bool → Tally
one true = record { compared = 1; wrong = 0; first = 1 }
one false = record { compared = 1; wrong = 1; first = 0 }

-- two tallies, one after the other; `first` is how many agree before the first that does not
unfoldable pub joined : Tally → Tally → Tally
joined s t =
    record {
      compared = s.compared + t.compared;
      wrong = s.wrong + t.wrong;
      first = pick (eqb s.wrong 0) (s.compared + t.first) s.first;
    }

-- the tallies f 0, f 1, .. f (n - 1), one after the other
unfoldable pub all_of : (ℕ → Tally) → ℕ → Tally
all_of f zero = none
all_of f (suc n) = joined (all_of f n) (f n)

-- no number of a tally is above n
pub record Within (t : Tally) (n : ℕ) : Type 0 where
  pub compared : t.compared ≤ n
  pub wrong : t.wrong ≤ n
  pub first : t.first ≤ n

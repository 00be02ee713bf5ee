-- The tallies before this one, joined.
use Rattle.std.proofs.Common.{◌≡◌, ℕ, ◌*◌, ◌<◌}
use Rattle.vectors.specs.declared.Tally.{Tally}
use Rattle.vectors.specs.Tallies.{all_of, Within}
use Rattle.vectors.proofs.all_of.Given as goal

abbrev pub invariant-loop-i : goal.invariant-loop-i
invariant-loop-i g l =
    Within l.t (262144 * l.i)
    × ((of : ℕ → Tally) → ((i : ℕ) (t : Tally) → i < l.n → goal.F-post g l.each i t → t ≡ of i) → l.t ≡ all_of of l.i)

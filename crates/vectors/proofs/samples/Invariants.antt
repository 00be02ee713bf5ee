-- The codes before this one, joined, and the state after them.
use Rattle.std.proofs.Common.{◌≡◌, ◌*◌}
use Rattle.adpcm.specs.Decoder.{codes_of, state_at}
use Rattle.adpcm.specs.Words.{Words}
use Rattle.vectors.specs.Tallies.{all_of, Within}
use Rattle.vectors.specs.Vectors.{sample}
use Rattle.vectors.proofs.samples.Given as goal

abbrev pub invariant-loop-k : goal.invariant-loop-k
invariant-loop-k l = (l.t ≡ all_of (sample l.packed l.words) l.k) × Within l.t (1 * l.k) × (l.state ≡ state_at (codes_of l.packed) l.k) × Words l.state

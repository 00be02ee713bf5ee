use mathlib.Core.Path.{ap}
use Rattle.units.specs.Units.{pair_of}
use Rattle.units.proofs.ends.unit_pair.Goals as goal

pub returns : goal.returns
returns c = ap (pair_of c.args.pair c.args.e) c.target_ends-ends.ensures

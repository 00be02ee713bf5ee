use Rattle.call.specs.Numbers.{settings_of}
use Rattle.call.proofs.settings_of.Goals as goal

pub returns : goal.returns
unfolding settings_of
returns c = let a = c.join_of.ensures in let b = c.filter_of.ensures in rw (a, b)

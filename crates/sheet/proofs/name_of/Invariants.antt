use Rattle.std.proofs.Common.{◌+◌, ◌-◌}
use Rattle.sheet.proofs.FollowerLaws.{Going}
use Rattle.sheet.proofs.name_of.Given as goal

abbrev pub invariant-loop : goal.invariant-loop
invariant-loop l = Going l.sheet l.segments.count l.number l.at (l.number + 1 - l.counter)

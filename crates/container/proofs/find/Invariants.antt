use mathlib.Core.Path.{◌≡◌}
use Prim.Native.Nat.{◌-◌}
use lib.ListN.{length}
use Rattle.container.specs.Sections.{find}
use Rattle.container.proofs.SectionLaws.{rest}
use Rattle.container.proofs.find.Given as goal

abbrev pub invariant-loop-at : goal.invariant-loop-at
invariant-loop-at l = find l.name (rest l.file l.at).list ≡ find l.name (rest l.file l.initial.at).list

abbrev pub decreases-loop-at : goal.decreases-loop-at
decreases-loop-at l = length l.file - l.at

use Rattle.sheet.proofs.ItemLaws.{Skipping}
use Rattle.sheet.proofs.read_items.Given as goal

abbrev pub invariant-loop : goal.invariant-loop
invariant-loop g l = Skipping (g.T.Item.one l.count.value) l.sheet l.count.value l.count.next l.place l.counter

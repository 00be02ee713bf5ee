-- One more turn joins one more tally.
use Rattle.vectors.proofs.TallyLaws.{none_within, more-within, all_none, all_more}
use Rattle.vectors.proofs.all_of.Goals as goal

pub loop-i-init : goal.loop-i-init
loop-i-init g c = (none_within c.default-t.ensures, λ of h. all_none of c.default-t.ensures)

pub loop-i-preserved : goal.loop-i-preserved
loop-i-preserved g c =
    let i = c.loop-i.i in
    let x = c.each.result in (
      more-within 262144 i c.loop-i.invariant.0 (c.requires.bounded i x c.loop-i-test.true c.each.ensures) c.joined-t.ensures,
      λ of h. all_more of i (c.loop-i.invariant.1 of h) (h i x c.loop-i-test.true c.each.ensures) c.joined-t.ensures,
    )

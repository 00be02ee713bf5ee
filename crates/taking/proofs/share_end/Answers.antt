use Rattle.taking.proofs.UnitLaws.{share-own, share-up-to}
use Rattle.taking.proofs.share_end.Goals as goal

pub own_end-requires : goal.own_end-requires
own_end-requires c = c.requires

pub returns-then-natural : goal.returns-then-natural
returns-then-natural c =
    let a = c.args in
    (share-own a.natural a.unit a.marks.now a.taken _ c.if-natural.true c.own_end.ensures.0, c.own_end.ensures.1)

pub returns : goal.returns
returns c =
    let a = c.args in
    (share-up-to a.natural a.unit a.marks.now a.taken _ c.if-natural.false c.marks_up_to_end.ensures.0, c.marks_up_to_end.ensures.1)

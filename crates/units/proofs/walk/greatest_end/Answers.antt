use native.Mathlib.Omega.{arith}
use Rattle.units.proofs.EndLaws.{greatest-none, greatest-first, greatest-next, greatest-last}
use Rattle.units.proofs.walk.greatest_end.Goals as goal

pub returns-then-count-eq0 : goal.returns-then-count-eq0
returns-then-count-eq0 c = greatest-none c.args.sheet.now c.args.rate c.args.places c.requires c.if-count-eq0.true

pub first_pair-walk-requires : goal.first_pair-walk-requires
first_pair-walk-requires c = (c.requires, omega arith)

pub loop-init : goal.loop-init
loop-init c =
    let p = c.first_pair-walk.ensures in
    (p.0.0, (greatest-first c.args.sheet.now c.args.rate c.args.places.segments.count c.first_pair-walk.result p.0.1 p.1, p.0.1))

pub next_pair-walk-requires : goal.next_pair-walk-requires
next_pair-walk-requires c = (c.loop.invariant.0, omega (arith, c.loop.invariant.1.1))

pub loop-preserved : goal.loop-preserved
loop-preserved c =
    let l = c.loop in
    let n = c.next_pair-walk in
    (n.ensures.0.0, (greatest-next c.args.sheet.now c.args.rate _ l.walk n.result l.greatest l.invariant.1.0 n.ensures _ c.greatest_with-greatest.ensures, omega (arith, n.ensures.0.1, l.invariant.1.1)))

pub returns : goal.returns
returns c =
    let l = c.loop in
    greatest-last c.args.sheet.now c.args.rate _ l.walk l.greatest (omega (arith, l.invariant.1.1)) l.invariant.1.0

use mathlib.Core.Path.{◌≡◌, sym, ◌∙◌}
use Prim.Native.Nat.{◌*◌}
use native.Mathlib.Omega.{arith}
use Rattle.reporting.proofs.MarkLaws.{rest-whole}
use Rattle.reporting.proofs.LineLaws.{writing-first, written, not-below, goes_on}
use Rattle.std.proofs.Common.{rules}
use Rattle.reporting.proofs.report_unit.Goals as goal

pub overflow_mul-from : goal.overflow_mul-from
overflow_mul-from c = omega (arith, c.requires.long, c.well_formed.1.1.1.1.0.0)

pub share_end-end-requires : goal.share_end-end-requires
share_end-end-requires c = c.requires.ordered

pub loop-i-init : goal.loop-i-init
loop-i-init c =
    writing-first c.args.natural c.args.unit c.args.count c.args.at c.args.lines.now c.requires _ (rest-whole c.args.lines.now (12 * c.args.count)) _ c.share_end-end.ensures

pub overflow_mul-count : goal.overflow_mul-count
overflow_mul-count c = omega (arith, c.requires.long, c.well_formed.1.1.1.1.0.0)

pub overflow_add-count : goal.overflow_add-count
overflow_add-count c =
    omega
    (arith, c.requires.long, c.well_formed.1.1.1.1.0.0, c.loop-i-test.true, c.loop-i.invariant.within)

pub u32_at-next-requires : goal.u32_at-next-requires
u32_at-next-requires c = let l = c.loop-i in omega (arith, l.invariant.long, l.invariant.within, c.loop-i-test.true)

pub overflow_cast-first : goal.overflow_cast-first
overflow_cast-first c = omega (arith, c.loop-i.invariant.mark_low)

pub overflow_cast-unit : goal.overflow_cast-unit
overflow_cast-unit c = omega (arith, c.requires.pair_low)

pub overflow_cast-unit-in-loop-i : goal.overflow_cast-unit-in-loop-i
overflow_cast-unit-in-loop-i c = omega (arith, c.requires.half_low)

pub overflow_sub-next : goal.overflow_sub-next
overflow_sub-next c =
    let l = c.loop-i in
    let a = c.args in
    not-below a.natural a.unit a.count _ a.at a.lines.now _ l.lines l.invariant
    c.loop-i-test.true _ c.u32_at-next.ensures

pub put_line-requires : goal.put_line-requires
put_line-requires c =
    let l = c.loop-i in omega
    (arith, l.invariant.long, l.invariant.within, c.loop-i-test.true)

pub loop-i-preserved : goal.loop-i-preserved
loop-i-preserved c =
    let l = c.loop-i in
    goes_on c.args.natural c.args.unit c.args.count _ c.args.at c.args.lines.now _ l.lines l.invariant
    c.loop-i-test.true _ c.u32_at-next.ensures
    (search rules) _ c.put_line.ensures

pub shape_of-lines : goal.shape_of-lines
shape_of-lines c = c.loop-i.invariant.long ∙ sym c.requires.long

pub returns : goal.returns
returns c =
    let l = c.loop-i in
    let a = c.args in
    let e : c.share_end-end.result ≡ l.i = omega (arith, l.invariant.reach) in
    rw e (written a.natural a.unit a.count _ a.at a.lines.now _ l.lines l.invariant (omega arith))

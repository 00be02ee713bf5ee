use mathlib.Core.Path.{◌≡◌, refl, sym, ap, ◌∙◌}
use native.Mathlib.Omega.{arith}
use Rattle.voice.specs.Opening.{rising_in}
use Rattle.voice.proofs.TableLaws.{risen-more, risen-fails}
use Rattle.voice.proofs.tables.is_rising.Goals as goal

pub loop-i-init : goal.loop-i-init
unfolding rising_in
loop-i-init c = (c.u32_at-last.ensures, refl)

pub returns-then-next-last : goal.returns-then-next-last
returns-then-next-last c =
    let l = c.loop-i in
    let os = c.args.offsets.now in
    let n = c.args.n in
    let e = c.u32_at-next.ensures in
    sym (risen-fails os l.i n (omega arith) (rw (← e, ← l.invariant.0) c.if-next-last.true))

pub loop-i-preserved : goal.loop-i-preserved
loop-i-preserved c =
    let l = c.loop-i in
    let os = c.args.offsets.now in
    let e = c.u32_at-next.ensures in
    (e, risen-more os l.i l.invariant.1 (rw (← e, ← l.invariant.0) c.if-next-last.false))

pub returns : goal.returns
returns c =
    let l = c.loop-i in
    let os = c.args.offsets.now in
    let n = c.args.n in
    let e : l.i ≡ n = omega arith in
    sym (ap (rising_in os) (sym e) ∙ l.invariant.1)

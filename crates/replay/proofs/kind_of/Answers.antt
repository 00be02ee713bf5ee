-- The text is of this number, or of one below it.
use Rattle.std.proofs.Common.{arith, sym, ◌∙◌}
use Rattle.replay.proofs.StoredLaws.{kind-none, kind-here, kind-below}
use Rattle.replay.proofs.kind_of.Goals as goal

pub returns-then-is_refused : goal.returns-then-is_refused
returns-then-is_refused c =
    let s = sym c.is_refused.ensures ∙ c.if-is_refused.true in
    (sym (c.loop-number.invariant ∙ kind-here _ _ (omega arith) s), omega arith)

pub loop-number-preserved : goal.loop-number-preserved
loop-number-preserved c =
    let s = sym c.is_refused.ensures ∙ c.if-is_refused.false in
    c.loop-number.invariant ∙ kind-below _ _ (omega arith) s

pub returns : goal.returns
returns c =
    let l = c.loop-number in
    (kind-none _ l.number (omega arith) ∙ sym l.invariant, omega arith)

use Rattle.std.proofs.Common.{ℕ, List, length, sym, ap, ◌∙◌, arith}
use Rattle.std.proofs.lemmas.Slice.{between_to_end}
use Rattle.text.specs.Utf8.{needs, waits, complete, utf8}
use Rattle.text.proofs.Utf8Laws.{waits-more, waits-done}
use Rattle.text.proofs.utf8.Goals as goal

pub loop-b-init : goal.loop-b-init
unfolding utf8
loop-b-init c =
    let s = c.args.s.now in
    ap (λ (l : List ℕ). complete (waits (needs 0 0 0) l)) (between_to_end s c.ascii_end.result (length s) (omega arith)) ∙ c.ascii_end.ensures.1

pub loop-b-preserved : goal.loop-b-preserved
loop-b-preserved c =
    let l = c.loop-b in
    rw c.step-w.ensures (sym (ap complete (waits-more l.w _ l.b-index (omega arith))) ∙ l.invariant)

pub returns : goal.returns
returns c =
    let l = c.loop-b in
    c.complete.ensures ∙ sym (ap complete (waits-done l.w _ l.b-index (omega arith))) ∙ l.invariant

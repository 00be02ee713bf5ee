use mathlib.Core.Path.{sym, ap, ◌∙◌}
use native.Mathlib.Omega.{arith}
use lib.ListN.{length}
use Rattle.base.specs.Buffers.{over}
use Rattle.base.proofs.BufferLaws.{length_over}
use Rattle.text.proofs.NameLaws.{same-eq}
use Rattle.units.proofs.NameLaws.{fold-off, fold-other, stored-folded}
use Rattle.units.proofs.names.put_name.Goals as goal
use Rattle.units.proofs.names.put_name.Goals.{else-fold-via-then-fold+else-same, else-fold-via-else-fold}

pub bounds-buf-1 : goal.bounds-buf-1
bounds-buf-1 c =
    let n = ap length (same-eq c.args.name.now _ (sym c.same.ensures ∙ c.if-same.true)) in
    let l = ap length c.copy.ensures ∙ length_over c.args.name.now c.args.buf.now c.requires in
    omega (arith, n, l, c.requires)

pub returns-then-same : goal.returns-then-same
returns-then-same c =
    stored-folded c.args.fold c.args.name.now _ c.args.buf.now c.if-fold.true (sym c.same.ensures ∙ c.if-same.true) c.copy.ensures

pub returns-else-fold : goal.returns-else-fold
returns-else-fold c =
    c.copy.ensures
    ∙ ap (λ n. over n c.args.buf.now)
    (elim c.else-fold.branch [
      | else-fold-via-then-fold+else-same w ↦ fold-other c.args.fold c.args.name.now (sym w.same.ensures ∙ w.if-same.false)
      | else-fold-via-else-fold w ↦ fold-off c.args.fold c.args.name.now w.if-fold.false
    ])

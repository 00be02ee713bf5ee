use mathlib.Core.Path.{◌≡◌, sym, ◌∙◌}
use native.Mathlib.Omega.{arith}
use borrow.Author.Tests.{leb-true}
use mathlib.Core.Bool.{true}
use Prim.Native.Nat.{◌+◌, ◌-◌}
use lib.ListN.{take, drop}
use Rattle.base.specs.Text.{ascii}
use Rattle.text.specs.Names.{same}
use Rattle.container.proofs.BackendLaws.{said-short, said-other, said-then, same-part}
use Rattle.container.proofs.is_diphone_from.Goals as goal
use Rattle.container.proofs.is_diphone_from.Goals.{then-end-s, else-end-s}

pub returns-then-same : goal.returns-then-same
returns-then-same c =
    let s = c.args.s.now in
    let from = c.args.from in
    let e : same (take 7 (drop from s)) (ascii "diphone") ≡ true =
    elim c.if-end-s.branch [
      | then-end-s w ↦ same-part s from (from + 7 - from) (omega arith) ∙ sym w.same.ensures ∙ sym w.value-is ∙ c.if-same.true
      | else-end-s w ↦ absurd (omega (arith, w.if-end-s.false, leb-true _ _ (sym w.value-is ∙ c.if-same.true)))
    ] in
    sym (said-then s from c.skip.result e c.skip.ensures.0 c.skip.ensures.1)

pub returns-else-same : goal.returns-else-same
returns-else-same c =
    let s = c.args.s.now in
    let from = c.args.from in
    c.if-same.false
    ∙ elim c.if-end-s.branch [
      | then-end-s w ↦ sym (said-other s from (same-part s from (from + 7 - from) (omega arith) ∙ sym w.same.ensures ∙ sym w.value-is ∙ c.if-same.false))
      | else-end-s w ↦ sym (said-short s from (omega (arith, w.if-end-s.false)))
    ]

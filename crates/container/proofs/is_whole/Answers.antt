use Prim.Native.Nat.{◌+◌, ◌-◌}
use mathlib.Core.Path.{sym, ap, ◌∙◌}
use native.Mathlib.Omega.{arith}
use borrow.Author.Tests.{leb-true}
use Rattle.text.specs.Utf8.{utf8}
use Rattle.container.proofs.SectionLaws.{name-part, whole-short, whole-unnamed, whole_by}
use Rattle.container.proofs.is_whole.Goals as goal
use Rattle.container.proofs.is_whole.Goals.{then-place-file, else-place-file}

pub returns-then-utf8 : goal.returns-then-utf8
returns-then-utf8 c =
    let f = c.args.file.now in
    let at = c.args.at in
    let n = c.name_length.ensures.0 in
    elim c.if-place-file.branch [
      | then-place-file w ↦
          let u = ap utf8 (sym (name-part f at (at + 1 + c.name_length.result - (at + 1)) (omega (arith, n)))) ∙ sym w.utf8-2.ensures ∙ sym w.value-is ∙ c.if-utf8.true in
          rw (c.read_u32.ensures, n) (sym (whole_by f at (omega (arith, n, w.if-place-file.true)) u))
      | else-place-file w ↦ absurd (omega (arith, w.if-place-file.false, leb-true _ _ (sym w.value-is ∙ c.if-utf8.true)))
    ]

pub returns-else-utf8 : goal.returns-else-utf8
returns-else-utf8 c =
    let f = c.args.file.now in
    let at = c.args.at in
    let n = c.name_length.ensures.0 in
    c.if-utf8.false
    ∙ elim c.if-place-file.branch [
      | then-place-file w ↦
          sym (whole-unnamed f at (ap utf8 (sym (name-part f at (at + 1 + c.name_length.result - (at + 1)) (omega (arith, n)))) ∙ sym w.utf8-2.ensures ∙ sym w.value-is ∙ c.if-utf8.false))
      | else-place-file w ↦ sym (whole-short f at (omega (arith, n, w.if-place-file.false)))
    ]

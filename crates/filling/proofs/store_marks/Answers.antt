use mathlib.Core.Path.{sym, ap, subst, ◌∙◌}
use mathlib.Core.List.{List}
use Prim.Native.Nat.{ℕ}
use lib.ListN.{length, take}
use Rattle.base.specs.Buffers.{over, flat}
use Rattle.base.specs.Bytes.{bytes_of}
use Rattle.call.specs.declared.JoinType.{JoinType}
use Rattle.filling.specs.Filling.{planned, CanStoreMarks}
use Rattle.filling.proofs.MarkLaws.{marks-are, can_store, none-marked, can-all, all_are}
use Rattle.filling.proofs.store_marks.Goals as goal

pub store_natural_marks-requires : goal.store_natural_marks-requires
store_natural_marks-requires c =
    let q = c.in-Simple.is in
    let h = subst (λ (j : JoinType). CanStoreMarks j c.args.file.now c.args.index.now c.args.sheet.now c.args.by c.args.count (length c.args.marks.now)) q c.requires in
    can-all c.args.file.now c.args.index.now c.args.sheet.now c.args.by c.args.count _ h

pub store_marks-requires : goal.store_marks-requires
store_marks-requires c =
    let q = c.in-ModifiedLpc.is in
    let h = subst (λ (j : JoinType). CanStoreMarks j c.args.file.now c.args.index.now c.args.sheet.now c.args.by c.args.count (length c.args.marks.now)) q c.requires in
    can_store c.args.file.now c.args.index.now c.args.sheet.now c.args.by h.selects.searchable.opened c.args.count _ h

pub returns-in-None : goal.returns-in-None
returns-in-None c =
    let a = c.args in
    none-marked a.file.now a.sheet.now a.by a.count a.marks.now
    ∙ ap (λ (j : JoinType). over (flat (bytes_of 4) (take a.count (planned j a.file.now a.sheet.now a.by).marks)) a.marks.now) (sym c.in-None.is)

pub returns-in-Simple : goal.returns-in-Simple
returns-in-Simple c =
    let a = c.args in
    let q = c.in-Simple.is in
    let h = subst (λ (j : JoinType). CanStoreMarks j a.file.now a.index.now a.sheet.now a.by a.count (length a.marks.now)) q c.requires in
    c.store_natural_marks.ensures
    ∙ ap (λ (ms : List ℕ). over (flat (bytes_of 4) ms) a.marks.now) (all_are a.file.now a.index.now a.sheet.now a.by a.count _ h)
    ∙ ap (λ (j : JoinType). over (flat (bytes_of 4) (take a.count (planned j a.file.now a.sheet.now a.by).marks)) a.marks.now) (sym q)

pub returns-in-ModifiedLpc : goal.returns-in-ModifiedLpc
returns-in-ModifiedLpc c =
    let a = c.args in
    c.store_marks.ensures
    ∙ ap (λ (ms : List ℕ). over (flat (bytes_of 4) (take a.count ms)) a.marks.now)
    (sym (marks-are a.file.now a.index.now a.sheet.now a.by
    c.requires.selects.searchable.opened)) ∙ ap (λ (j : JoinType). over (flat (bytes_of 4)
    (take a.count (planned j a.file.now a.sheet.now a.by).marks)) a.marks.now) (sym c.in-ModifiedLpc.is)

use Rattle.std.specs.Prelude.{Some}
use mathlib.Core.Path.{◌≡◌, refl, ap, ◌∙◌}
use Prim.Native.Nat.{◌-◌}
use native.Mathlib.Omega.{arith}
use Rattle.index.specs.Index.{found_of}
use Rattle.index.proofs.WalkLaws.{turn, step, stop, end}
use Rattle.index.proofs.TestLaws.{lookup-none, lookup-here}
use Rattle.search.proofs.SearchLaws.{told-before, told_same, told-after}
use Rattle.sparse.proofs.SparseLaws.{compared_at, walked_more, walked-over, walked-past}
use Rattle.sparse.proofs.find_from.Goals as goal

pub loop-init : goal.loop-init
loop-init c =
    let e : c.args.count - 0 ≡ c.args.count = omega arith in
    rw e (record { whole = c.requires.0; same = refl }, c.requires.1)

pub name_at-requires : goal.name_at-requires
name_at-requires c = (turn _ _ _ (omega arith) c.loop.invariant.0.whole).fits

pub next_entry-at-requires : goal.next_entry-at-requires
next_entry-at-requires c = (turn _ _ _ (omega arith) c.loop.invariant.0.whole).fits

pub loop-preserved : goal.loop-preserved
loop-preserved c =
    let i = c.loop.invariant in
    let o = compared_at _ _ _ _ _ _ c.compare.ensures c.in-Less.is c.name_at.ensures in
    let n = c.next_entry-at.ensures.0 in
    let t = turn _ _ _ (omega arith) i.0.whole in
    (step _ _ _ _ _ _ _ (omega arith) i.0 t n (walked-over _ _ _ (omega arith) i.0.whole i.1 _ (told-before _ _ o)), walked_more _ _ _ (omega arith) i.0.whole i.1 _ (omega arith) _ n)

pub periods_at-requires : goal.periods_at-requires
periods_at-requires c = (turn _ _ _ (omega arith) c.loop.invariant.0.whole).fits

pub returns-in-Equal : goal.returns-in-Equal
returns-in-Equal c =
    let i = c.loop.invariant in
    let o = compared_at _ _ _ _ _ _ c.compare.ensures c.in-Equal.is c.name_at.ensures in
    ap Some c.periods_at.ensures.0 ∙ ap found_of (stop _ _ _ _ _ i.0 (turn _ _ _ (omega arith) i.0.whole) _ (lookup-here _ _ _ (told_same _ _ o)))

pub returns-in-Greater : goal.returns-in-Greater
returns-in-Greater c =
    let i = c.loop.invariant in
    let o = compared_at _ _ _ _ _ _ c.compare.ensures c.in-Greater.is c.name_at.ensures in
    ap found_of (stop _ _ _ _ _ i.0 (turn _ _ _ (omega arith) i.0.whole) _ (walked-past _ _ _ (omega arith) i.0.whole i.1 _ (told-after _ _ o)))

pub returns : goal.returns
returns c = ap found_of (end _ _ _ _ _ c.loop.invariant.0 (omega arith) _ (lookup-none _))

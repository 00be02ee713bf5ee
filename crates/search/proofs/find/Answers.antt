use Rattle.std.specs.Prelude.{Some}
use mathlib.Core.Path.{sym, ap, ◌∙◌}
use Prim.Native.Nat.{◌+◌, ◌-◌, ◌/◌}
use Rattle.index.specs.Index.{periods_of, found_of}
use Rattle.index.proofs.AscendingLaws.{sort-lookup, sort-ascending, length-sorted}
use Rattle.search.proofs.SearchLaws.{compared, told-before, told_same, told-after, between_start, between-end, between-up, between-down, between-here}
use native.Mathlib.Omega.{arith}
use Rattle.search.proofs.find.Goals as goal

pub loop-lo-init : goal.loop-lo-init
loop-lo-init c = (omega arith, between_start _ _ _ (length-sorted _ _ c.requires.0.able.whole))

pub overflow_sub-mid : goal.overflow_sub-mid
overflow_sub-mid c = omega (arith, c.loop-lo.invariant.1.order)

pub sorted_place-at-requires : goal.sorted_place-at-requires
sorted_place-at-requires c = (c.requires.0, omega arith)

pub name_at-requires : goal.name_at-requires
name_at-requires c = c.sorted_place-at.ensures.1

pub loop-lo-preserved-in-Less : goal.loop-lo-preserved-in-Less
loop-lo-preserved-in-Less c =
    let l = c.loop-lo in
    let o = compared _ _ _ _ _ _ c.compare.ensures c.in-Less.is c.name_at.ensures c.sorted_place-at.ensures.0 in
    (l.invariant.0, between-up _ _ (sort-ascending _ c.requires.1) _ _ (l.lo + (l.hi - l.lo) / 2) l.invariant.1 (omega arith) (omega arith) (told-before _ _ o))

pub periods_at-requires : goal.periods_at-requires
periods_at-requires c = c.sorted_place-at.ensures.1

pub returns-in-Equal : goal.returns-in-Equal
returns-in-Equal c =
    let l = c.loop-lo in
    let s = c.sorted_place-at.ensures.0 in
    let o = compared _ _ _ _ _ _ c.compare.ensures c.in-Equal.is c.name_at.ensures s in
    let h = between-here _ _ (sort-ascending _ c.requires.1) _ _ (l.lo + (l.hi - l.lo) / 2) l.invariant.1 (omega arith) (omega arith) (told_same _ _ o) in
    ap Some (c.periods_at.ensures.0 ∙ ap periods_of s) ∙ ap found_of (sym h ∙ sort-lookup _ c.requires.1 _)

pub loop-lo-preserved : goal.loop-lo-preserved
loop-lo-preserved c =
    let l = c.loop-lo in
    let o = compared _ _ _ _ _ _ c.compare.ensures c.in-Greater.is c.name_at.ensures c.sorted_place-at.ensures.0 in
    (omega arith, between-down _ _ (sort-ascending _ c.requires.1) _ _ (l.lo + (l.hi - l.lo) / 2) l.invariant.1 (omega arith) (omega arith) (told-after _ _ o))

pub returns : goal.returns
returns c = ap found_of (sym (between-end _ _ _ _ c.loop-lo.invariant.1 (omega arith)) ∙ sort-lookup _ c.requires.1 _)

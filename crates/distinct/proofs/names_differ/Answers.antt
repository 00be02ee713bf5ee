use mathlib.Core.Path.{refl}
use native.Mathlib.Omega.{arith}
use Rattle.index.proofs.WalkLaws.{end}
use Rattle.index.proofs.TestLaws.{distinct_none}
use Rattle.distinct.proofs.BlockLaws.{rest-is, block-first, next-block}
use Rattle.distinct.proofs.names_differ.Goals as goal

pub loop-left-init : goal.loop-left-init
loop-left-init c = (omega arith, record { whole = c.requires; same = refl })

pub entry_after-end-requires : goal.entry_after-end-requires
entry_after-end-requires c =
    let i = c.loop-left.invariant in
    (omega arith, block-first _ _ _ _ _ i.0 i.1 (omega arith) _ (rest-is c.args.entries.now c.loop-left.at))

pub block_differs-requires : goal.block_differs-requires
block_differs-requires c =
    let i = c.loop-left.invariant in
    let n = next-block _ _ _ _ _ i.0 i.1 (omega arith) _ (rest-is c.args.entries.now c.loop-left.at) _ c.entry_after-end.ensures in
    (omega arith, (block-first _ _ _ _ _ i.0 i.1 (omega arith) _ (rest-is c.args.entries.now c.loop-left.at), n.second))

pub overflow_add-at : goal.overflow_add-at
overflow_add-at c =
    let i = c.loop-left.invariant in
    let n = next-block _ _ _ _ _ i.0 i.1 (omega arith) _ (rest-is c.args.entries.now c.loop-left.at) _ c.entry_after-end.ensures in
    omega (arith, n.within)

pub loop-left-preserved : goal.loop-left-preserved
loop-left-preserved c =
    let i = c.loop-left.invariant in
    let n = next-block _ _ _ _ _ i.0 i.1 (omega arith) _ (rest-is c.args.entries.now c.loop-left.at) _ c.entry_after-end.ensures in
    (n.within, n.more _ c.block_differs.ensures c.if-not-block_differs.false)

pub returns-then-not-block_differs : goal.returns-then-not-block_differs
returns-then-not-block_differs c =
    let i = c.loop-left.invariant in
    let n = next-block _ _ _ _ _ i.0 i.1 (omega arith) _ (rest-is c.args.entries.now c.loop-left.at) _ c.entry_after-end.ensures in
    n.stop _ c.block_differs.ensures c.if-not-block_differs.true

pub returns : goal.returns
returns c = end _ _ _ _ _ c.loop-left.invariant.1 (omega arith) _ distinct_none

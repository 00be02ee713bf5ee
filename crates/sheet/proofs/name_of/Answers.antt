use Rattle.std.proofs.Common.{sym, arith}
use Rattle.sheet.proofs.ReadLaws.{sheet-ahead}
use Rattle.sheet.proofs.FollowerLaws.{name-nowhere, going-first, going-some, going_on, going-here}
use Rattle.sheet.proofs.name_of.Goals as goal

pub returns-then-number-eq0 : goal.returns-then-number-eq0
returns-then-number-eq0 c =
    (sym (name-nowhere c.args.sheet.now c.args.places (sheet-ahead _ _ c.requires) _ c.then-number-eq0.either), omega arith)

pub loop-init : goal.loop-init
loop-init c =
    going-first c.args.sheet.now c.args.places (sheet-ahead _ _ c.requires) _ (omega arith) _ (omega arith)

pub segment_at-at-requires : goal.segment_at-at-requires
segment_at-at-requires c = going-some _ _ _ _ _ (omega arith) c.loop.invariant

pub loop-preserved : goal.loop-preserved
loop-preserved c = going_on _ _ _ _ _ _ _ c.segment_at-at.ensures c.loop.invariant (omega arith) _ (omega arith)

pub segment_at-found-requires : goal.segment_at-found-requires
segment_at-found-requires c = going-some _ _ _ _ _ (omega arith) c.loop.invariant

pub returns : goal.returns
returns c = let i = c.segment_at-found.ensures in (going-here _ _ _ _ _ _ _ i c.loop.invariant (omega arith), i.within.1.0)

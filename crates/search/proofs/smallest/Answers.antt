use mathlib.Core.Path.{ap, ◌∙◌}
use Rattle.index.specs.Index.{periods_of}
use Rattle.index.proofs.WalkLaws.{turn}
use Rattle.search.proofs.FirstLaws.{seeking-start, seeking-more, seeking-end}
use native.Mathlib.Omega.{arith}
use Rattle.search.proofs.smallest.Goals as goal

pub next_entry-at-requires : goal.next_entry-at-requires
next_entry-at-requires c = (turn _ _ _ c.requires.1 c.requires.0).fits

pub loop-init : goal.loop-init
loop-init c = (omega arith, seeking-start _ _ _ c.requires.1 c.requires.0 c.next_entry-at.ensures.0)

pub earlier-best-requires : goal.earlier-best-requires
earlier-best-requires c =
    let s = c.loop.invariant.1 in
    (s.fits, (turn _ _ _ (omega arith) s.whole).fits)

pub next_entry-at-requires-in-loop : goal.next_entry-at-requires-in-loop
next_entry-at-requires-in-loop c = (turn _ _ _ (omega arith) c.loop.invariant.1.whole).fits

pub loop-preserved : goal.loop-preserved
loop-preserved c = (omega arith, seeking-more _ _ _ _ _ _ (omega arith) c.loop.invariant.1 (omega arith) _ _ c.earlier-best.ensures c.next_entry-at-in-loop.ensures.0)

pub periods_at-requires : goal.periods_at-requires
periods_at-requires c = c.loop.invariant.1.fits

pub returns : goal.returns
returns c = (c.periods_at.ensures.0 ∙ ap periods_of (seeking-end _ _ _ _ _ c.loop.invariant.1 (omega arith)), c.periods_at.ensures.1)

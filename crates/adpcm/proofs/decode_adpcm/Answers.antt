use native.Mathlib.Omega.{arith}
use Rattle.adpcm.proofs.Turns.{end, start, turn}
use Rattle.adpcm.proofs.decode_adpcm.Goals as goal

pub loop-k-init : goal.loop-k-init
loop-k-init c = start _ _ c.fresh-state.result c.fresh-state.ensures.0 c.fresh-state.ensures.1

pub coded_of-coded-requires : goal.coded_of-coded-requires
coded_of-coded-requires c = (c.loop-k.invariant.words, c.code_at.ensures.1)

pub bounds-out-k : goal.bounds-out-k
bounds-out-k c = omega arith

pub loop-k-preserved : goal.loop-k-preserved
loop-k-preserved c =
    let i = c.code_at in
    let l = c.loop-k in
    turn _ _ l.out l.state l.k i.result l.invariant c.loop-k-test.true i.ensures.0 c.coded_of-coded.ensures

pub shape_of-out : goal.shape_of-out
shape_of-out c = c.loop-k.invariant.long

pub returns : goal.returns
returns c =
    end _ _ c.loop-k.out c.loop-k.state c.loop-k.k c.loop-k.invariant c.loop-k-test.false c.requires

use mathlib.Core.Path.{◌≡◌, ap, ◌∙◌}
use native.Mathlib.Omega.{arith}
use Rattle.adpcm.specs.Decoder.{codes_of, state_at}
use Rattle.adpcm.proofs.Turns.{state-first, state-next}
use Rattle.probe_state.proofs.state_after.Goals as goal

pub fresh-state-requires : goal.fresh-state-requires
fresh-state-requires c = tt

pub loop-k-init : goal.loop-k-init
loop-k-init c =
    (omega arith, (state-first (codes_of c.args.packed.now) c.fresh-state.ensures.0, c.fresh-state.ensures.1))

pub loop-k-preserved : goal.loop-k-preserved
loop-k-preserved c =
    let e = c.signals_of-g.ensures.0 in
    let d = c.code_at-code in
    let l = c.loop-k in
    let p = c.args.packed.now in
    (omega arith, (state-next (codes_of p) l.k d.result l.invariant.1.0 d.ensures.0 e c.next_of-state.ensures.0, c.next_of-state.ensures.1))

pub returns : goal.returns
returns c =
    let l = c.loop-k in
    let e : l.k ≡ c.args.count = omega arith in
    l.invariant.1.0 ∙ ap (state_at (codes_of c.args.packed.now)) e

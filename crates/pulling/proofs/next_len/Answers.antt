use mathlib.Core.Path.{sym, ◌∙◌}
use native.Mathlib.Omega.{arith}
use Rattle.pulling.proofs.PullingLaws.{next-count}
use Rattle.pulling.proofs.next_len.Goals as goal

pub returns : goal.returns
returns c =
    let e = next-count c.args.sizes.now c.args.excitation.now c.args.state.period c.args.state.sample_place _ c.requires.0 c.u32_at-size.ensures in
    (c.min.ensures ∙ sym e, omega (arith, c.min.ensures))

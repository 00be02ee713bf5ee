use mathlib.Core.Path.{ap, ◌∙◌}
use Rattle.base.specs.Buffers.{over, flat}
use Rattle.base.specs.Bytes.{bytes_of}
use Rattle.lpc.specs.Filter.{Part}
use Rattle.lpc.specs.State.{advanced, spoken}
use Rattle.pulling.proofs.PullingLaws.{next-lent}
use Rattle.pulling.proofs.resynthesise_next.Goals as goal

pub returns : goal.returns
returns c =
    let a = c.args in
    let e = next-lent a.state a.n a.rows.now a.excitation.now in
    record { value = c.resynthesise_period.ensures.value ∙ ap (advanced a.state) e; samples_after = c.resynthesise_period.ensures.samples_after ∙ ap (λ (q : Part). over (flat (bytes_of 2) (spoken a.state q)) a.samples.now) e }

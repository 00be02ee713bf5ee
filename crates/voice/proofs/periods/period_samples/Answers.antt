use mathlib.Core.Path.{◌∙◌}
use native.Mathlib.Omega.{arith}
use Prim.Native.Nat.{◌+◌}
use Rattle.voice.proofs.OpenLaws.{size-within, samples-sized, samples-gap}
use Rattle.voice.proofs.periods.period_samples.Goals as goal

pub overflow_add-result : goal.overflow_add-result
overflow_add-result c =
    let h = size-within _ _ c.requires.0 _ c.in-Some.is _ c.requires.1 in
    omega (arith, h, c.well_formed.0.0)

pub bounds-file-span : goal.bounds-file-span
bounds-file-span c = size-within _ _ c.requires.0 _ c.in-Some.is _ c.requires.1

pub returns-in-Some : goal.returns-in-Some
returns-in-Some c =
    let h = c.type_inv.file (c.in-Some.span.at + c.args.p) in
    (samples-sized _ _ c.requires.0 _ c.in-Some.is _ c.requires.1, omega (arith, h))

pub returns-in-None : goal.returns-in-None
returns-in-None c =
    (c.gap.ensures.0 ∙ samples-gap _ _ c.requires.0 c.in-None.is _, c.gap.ensures.1)

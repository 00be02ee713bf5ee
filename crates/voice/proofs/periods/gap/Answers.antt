use mathlib.Core.Path.{ap, ◌∙◌}
use native.Mathlib.Omega.{arith}
use native.Mathlib.Numerals.{add-one}
use Rattle.voice.specs.Voice.{voice_of}
use Rattle.voice.specs.Periods.{offset}
use Rattle.voice.proofs.OpenLaws.{offset-rises, residual-most}
use Rattle.voice.proofs.periods.gap.Goals as goal

pub overflow_sub-result : goal.overflow_sub-result
overflow_sub-result c =
    let f = c.args.file.now in
    let d = c.args.d in
    let p = c.args.p in
    let o = c.requires.0 in
    let h = offset-rises f d o p c.requires.1 in
    let k = c.offset.ensures.0 ∙ ap (offset (voice_of f)) (add-one p) in
    omega (arith, h, k, c.offset-2.ensures.0)

pub returns : goal.returns
returns c =
    let f = c.args.file.now in
    let d = c.args.d in
    let p = c.args.p in
    let o = c.requires.0 in
    let k = c.offset.ensures.0 ∙ ap (offset (voice_of f)) (add-one p) in
    let m = residual-most f d o in
    (rw (k, c.offset-2.ensures.0), omega (arith, m, c.offset.ensures.1))

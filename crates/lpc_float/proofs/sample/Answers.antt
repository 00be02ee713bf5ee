use Rattle.std.proofs.Common.{◌∙◌, arith}
use Rattle.float.proofs.Tests.{yes}
use Rattle.lpc_float.proofs.SampleLaws.{cut_low, sample-word}
use Rattle.lpc_float.proofs.sample.Goals as goal

pub overflow_sub-whole-then-exponent-lt142 : goal.overflow_sub-whole-then-exponent-lt142
overflow_sub-whole-then-exponent-lt142 c = let p = c.f32_to_word-pattern in omega (arith, cut_low c.args.y (yes c.well_formed.0.1) p.result p.ensures p.type_inv c.if-exponent-ge87.true c.if-exponent-lt142.true)

pub returns-then-exponent-lt142 : goal.returns-then-exponent-lt142
returns-then-exponent-lt142 c =
    let p = c.f32_to_word-pattern in c.low16.ensures ∙ sample-word c.args.y (yes c.well_formed.0.1) p.result p.ensures p.type_inv c.if-exponent-ge87.true c.if-exponent-lt142.true

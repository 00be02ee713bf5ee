use mathlib.Core.Path.{sym}
use borrow.Author.Tests.{le-ltb}
use Rattle.adpcm_scale.specs.Scale.{lima}
use Rattle.adpcm_scale.proofs.ScaleLaws.{mix-fastest}
use Rattle.adpcm_scale.proofs.scale_of.Goals as goal

pub returns-then-ap-ge256 : goal.returns-then-ap-ge256
unfolding lima
returns-then-ap-ge256 c =
    (rw (le-ltb c.args.ap 256 c.if-ap-ge256.true) (sym (mix-fastest c.args.yu c.args.yl c.requires.0 c.requires.1)), c.requires.0)

pub returns-else-ap-ge256 : goal.returns-else-ap-ge256
returns-else-ap-ge256 c = (rw (c.mix.ensures.0, c.lima.ensures.0), c.mix.ensures.1)

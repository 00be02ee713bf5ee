use native.Mathlib.Omega.{arith}
use borrow.Author.Tests.{le-ltb, lt-ltb}
use Rattle.adpcm_scale.specs.Scale.{mix}
use Rattle.adpcm_scale.proofs.mix.Goals as goal

pub returns-then-dif-lt8192 : goal.returns-then-dif-lt8192
unfolding mix
returns-then-dif-lt8192 c = (rw (lt-ltb _ _ c.if-dif-lt8192.true, c.prod.ensures.0), omega arith)

pub returns-else-dif-lt8192 : goal.returns-else-dif-lt8192
unfolding mix
returns-else-dif-lt8192 c = (rw (le-ltb _ _ c.if-dif-lt8192.false, c.prod-below.ensures.0), omega arith)

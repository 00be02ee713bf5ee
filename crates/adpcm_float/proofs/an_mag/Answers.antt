use native.Mathlib.Omega.{arith}
use borrow.Author.Tests.{le-ltb, lt-ltb}
use Rattle.adpcm_float.specs.Floating.{an_mag}
use Rattle.adpcm_float.proofs.an_mag.Goals as goal

pub returns-then-word-lt32768 : goal.returns-then-word-lt32768
unfolding an_mag
returns-then-word-lt32768 c = (rw (lt-ltb _ _ c.if-word-lt32768.true), omega arith)

pub returns-else-word-lt32768 : goal.returns-else-word-lt32768
unfolding an_mag
returns-else-word-lt32768 c = (rw (le-ltb _ _ c.if-word-lt32768.false), omega arith)

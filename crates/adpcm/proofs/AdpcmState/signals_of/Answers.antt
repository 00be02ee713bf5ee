use native.Mathlib.Omega.{arith}
use Rattle.adpcm.specs.Decoder.{signals_of}
use Rattle.adpcm.proofs.AdpcmState.signals_of.Goals as goal

pub returns : goal.returns
unfolding signals_of
returns c = (
  rw (
    c.trans-tr.ensures,
    c.sigpk_of-sigpk.ensures,
    c.addb-dqsez.ensures,
    c.addb-sr.ensures,
    c.dq_of-dq.ensures,
    c.scale_of-y.ensures.0,
    c.sei-all.ensures.0,
    c.sezi-zeros.ensures.0,
  ),
  record { y = omega arith; pk0 = omega arith },
)

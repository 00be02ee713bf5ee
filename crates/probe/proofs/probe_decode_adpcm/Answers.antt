use borrow.Author.Tests.{le-leb, lt-leb}
use Rattle.probe.proofs.probe_decode_adpcm.Goals as goal

pub returns-then-packed-out : goal.returns-then-packed-out
returns-then-packed-out c =
    rw (le-leb _ _ c.if-packed-out.true) c.decode_adpcm.ensures

pub returns-else-packed-out : goal.returns-else-packed-out
returns-else-packed-out c = rw (lt-leb _ _ c.if-packed-out.false)

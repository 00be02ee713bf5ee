use Rattle.adpcm.specs.Decoder.{next_of}
use Rattle.adpcm.proofs.AdpcmState.next_of.Goals as goal

pub returns : goal.returns
unfolding next_of
returns c = (
  rw (
    c.floatb-sr0.ensures,
    c.trigb-td.ensures,
    c.trigb-a2.ensures,
    c.trigb-a1.ensures,
    c.delayed-delays.ensures,
    c.trigbs-zeros.ensures,
    c.zeros_of.ensures,
    c.speed_of-v.ensures.0,
    c.functf-fi.ensures.0,
    c.poles_of-p.ensures,
    c.filte-ylp.ensures.0,
    c.limb-yup.ensures.0,
    c.filtd.ensures.0,
    c.functw.ensures.0,
  ),
  record {
    yl = c.filte-ylp.ensures.1;
    yu = c.limb-yup.ensures.1;
    dms = c.speed_of-v.ensures.1.dms;
    dml = c.speed_of-v.ensures.1.dml;
    ap = c.speed_of-v.ensures.1.ap;
    pk1 = c.requires.1.1.pk0;
    pk2 = c.requires.0.pk1;
  },
)

use mathlib.Core.Path.{refl}
use Rattle.adpcm.specs.Decoder.{fresh}
use Rattle.std.proofs.Common.{rules}
use Rattle.adpcm.proofs.AdpcmState.fresh.Goals as goal

pub returns : goal.returns
unfolding fresh
returns c = (
  refl,
  record {
    yl = search rules;
    yu = search rules;
    dms = search rules;
    dml = search rules;
    ap = search rules;
    pk1 = search rules;
    pk2 = search rules;
  },
)

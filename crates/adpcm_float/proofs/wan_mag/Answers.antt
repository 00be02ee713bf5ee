use native.Mathlib.Omega.{arith}
use Rattle.adpcm_float.proofs.FloatLaws.{wan_mag-shift}
use Rattle.adpcm_float.proofs.wan_mag.Goals as goal

pub returns : goal.returns
returns c = (wan_mag-shift c.args.mant c.args.exp c.requires.0 c.requires.1, omega arith)

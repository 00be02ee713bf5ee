use mathlib.Core.Path.{◌≡◌, refl}
use Prim.Native.Nat.{◌-◌, ◌^◌}
use native.Mathlib.Nat.{div-le_self}
use native.Mathlib.Omega.{arith}
use Rattle.adpcm_scale.proofs.shifted.Goals as goal

pub returns-then-dex-le14 : goal.returns-then-dex-le14
returns-then-dex-le14 c =
    let a = c.args in
    (refl, omega (arith, div-le_self a.dqt (2 ^ (14 - a.dex))))

pub returns-else-dex-le14 : goal.returns-else-dex-le14
returns-else-dex-le14 c =
    let z : 14 - c.args.dex ≡ 0 = omega (arith, c.if-dex-le14.false) in
    (rw z (omega arith), omega arith)

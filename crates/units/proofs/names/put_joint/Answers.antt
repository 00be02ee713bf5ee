use mathlib.Core.Path.{refl}
use native.Mathlib.Omega.{arith}
use Rattle.units.proofs.names.put_joint.Goals as goal

pub returns-then-cluster : goal.returns-then-cluster
returns-then-cluster c =
    let i = c.if-cluster.true in
    rw i ((refl, omega arith), c.copy.ensures)

pub returns : goal.returns
returns c =
    let i = c.if-cluster.false in
    rw i ((refl, omega arith), c.copy-2.ensures)

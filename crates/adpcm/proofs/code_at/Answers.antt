use Prim.Native.Nat.{◌/◌}
use native.Mathlib.Omega.{arith}
use Rattle.adpcm.proofs.Turns.{even-code, odd_code}
use Rattle.adpcm.proofs.code_at.Goals as goal

pub overflow_cast-pair : goal.overflow_cast-pair
overflow_cast-pair c = omega (arith, c.type_inv.packed (c.args.k / 2))

pub returns-then-k-eq0 : goal.returns-then-k-eq0
returns-then-k-eq0 c =
    let a = c.args in
    (even-code a.packed.now a.k c.if-k-eq0.true, omega (arith, c.type_inv.packed (a.k / 2)))

pub returns-else-k-eq0 : goal.returns-else-k-eq0
returns-else-k-eq0 c =
    let a = c.args in
    (odd_code a.packed.now a.k c.if-k-eq0.false, omega arith)

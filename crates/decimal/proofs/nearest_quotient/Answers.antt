use mathlib.Core.Path.{◌≡◌}
use Prim.Native.Nat.{◌+◌, ◌*◌, ◌/◌, ◌%◌, ◌^◌, ◌≤◌, ◌<◌, compare}
use native.Mathlib.Nat.{mod-lt, le_trans, div-lt_iff_lt-mul}
use native.Mathlib.Omega.{arith}
use lib.Dec.{ltb}
use lib.Ieee.Fits.{nearest-le}
use lib.Ieee.Nearest.{closest}
use mir.Val.{bool_byte}
use Rattle.float.proofs.Rounding.{goes_by}
use Rattle.decimal.proofs.nearest_quotient.Goals as goal
use Rattle.decimal.proofs.nearest_quotient.Goals.{Start}

-- `decimal::nearest_quotient` meets its contract.
rest : (c : Start) → c.args.n % c.args.u < c.args.u
rest c = mod-lt c.args.n c.requires.0

pub overflow_mul-twice : goal.overflow_mul-twice
overflow_mul-twice c = omega (arith, rest c)

pub overflow_add-result : goal.overflow_add-result
overflow_add-result c = omega (arith, rest c)

result : (c : Start) → c.args.n / c.args.u + bool_byte (ltb c.args.u (c.args.n % c.args.u * 2 + c.args.n / c.args.u % 2)) ≡ closest c.args.n c.args.u
result c = goes_by c.args.n c.args.u

bound : (c : Start) → closest c.args.n c.args.u ≤ 2 ^ 24
bound c = le_trans (nearest-le (c.args.n / c.args.u) (compare (c.args.n % c.args.u * 2) c.args.u)) ((div-lt_iff_lt-mul c.requires.0).1 c.requires.2)

pub overflow_add-result-2 : goal.overflow_add-result-2
overflow_add-result-2 c = omega (arith, result c, bound c)

pub returns : goal.returns
returns c = (result c, rw (result c) (bound c))

use Rattle.std.proofs.Common.{◌≡◌, ◌+◌, ◌*◌, ◌/◌, ◌%◌, ◌^◌, ◌≤◌, ltb, ◌∙◌, one-mul, arith, lit<, pow_pos, shl_exact}
use native.Mathlib.Nat.{mod-le}
use lib.Ieee.Nearest.{closest}
use mir.Val.{bool_byte}
use Rattle.float.proofs.Rounding.{goes_by, closest-bound}
use Rattle.float.proofs.rounded_shift.Goals as goal
use Rattle.float.proofs.rounded_shift.Goals.{Start}

-- `float::rounded_shift` meets its contract. Assumes nothing.
-- the unit as the machine has it
unit-is : (c : Start) → 1 * 2 ^ c.args.n % 2 ^ 64 ≡ 2 ^ c.args.n
unit-is c = shl_exact 1 c.args.n 64 (lit< tt) (omega arith) ∙ one-mul (2 ^ c.args.n)

-- what is left over is at most q
rest-low : (c : Start) → c.args.q % (1 * 2 ^ c.args.n % 2 ^ 64) ≤ c.args.q
rest-low c = mod-le c.args.q (1 * 2 ^ c.args.n % 2 ^ 64)

pub nonzero_rem-twice : goal.nonzero_rem-twice
nonzero_rem-twice c = rw (unit-is c) (pow_pos c.args.n)

pub overflow_mul-twice : goal.overflow_mul-twice
overflow_mul-twice c = omega (arith, rest-low c)

pub overflow_add-result : goal.overflow_add-result
overflow_add-result c = omega (arith, rest-low c)

-- the result, and its bound
result : (c : Start) → c.args.q / 2 ^ c.args.n + bool_byte (ltb (1 * 2 ^ c.args.n % 2 ^ 64) (c.args.q % (1 * 2 ^ c.args.n % 2 ^ 64) * 2 + c.args.q / 2 ^ c.args.n % 2)) ≡ closest c.args.q (2 ^ c.args.n)
result c = rw (unit-is c) (goes_by c.args.q (2 ^ c.args.n))

bound : (c : Start) → closest c.args.q (2 ^ c.args.n) ≤ 2 ^ 24
bound c = closest-bound c.args.q c.args.n (omega arith) (omega arith)

pub overflow_add-result-2 : goal.overflow_add-result-2
overflow_add-result-2 c = omega (arith, result c, bound c)

pub returns : goal.returns
returns c = (result c, rw (result c) (bound c))

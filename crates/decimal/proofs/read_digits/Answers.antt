use Prim.Native.Nat.{◌+◌, ◌*◌, ◌^◌, ◌≤◌, ◌<◌}
use native.Mathlib.Omega.{arith}
use Rattle.decimal.proofs.DigitLaws.{goes_on, number_fits, power-fits, done}
use Rattle.decimal.proofs.read_digits.Goals as goal
use Rattle.decimal.proofs.read_digits.Goals.{In-Some}

-- the sum and the product fit
sum : (c : In-Some) → c.loop-digit.number * 10 + c.in-Some.digit < 10 ^ 12
sum c = number_fits _ _ _ _ _ _ c.loop-digit.invariant _ c.in-Some.ensures c.requires.1

product : (c : In-Some) → c.loop-digit.power * 10 ≤ 10 ^ 12
product c = power-fits _ _ _ _ _ _ c.loop-digit.invariant _ c.in-Some.ensures c.requires.1

pub overflow_mul-number : goal.overflow_mul-number
overflow_mul-number c = omega (arith, sum c)

pub overflow_add-number : goal.overflow_add-number
overflow_add-number c = omega (arith, sum c)

pub overflow_mul-power : goal.overflow_mul-power
overflow_mul-power c = omega (arith, product c)

pub loop-digit-preserved : goal.loop-digit-preserved
loop-digit-preserved c = goes_on _ _ _ _ _ _ c.loop-digit.invariant _ c.in-Some.ensures

pub returns : goal.returns
returns c = done _ _ _ _ _ _ c.loop-digit.invariant c.in_default.ensures

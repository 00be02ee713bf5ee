use mathlib.Core.Bool.{true, false}
use native.Mathlib.Nat.{zero-add}
use native.Mathlib.Omega.{arith}
use Rattle.float.proofs.Tests.{no-nan-bits}
use lib.Ieee.{binary32}
use Rattle.decimal.proofs.nearest_f32.Goals as goal

pub float_from_bits-result : goal.float_from_bits-result
float_from_bits-result c = no-nan-bits binary32 _ (omega arith)

pub returns-then-negative : goal.returns-then-negative
returns-then-negative c = rw c.if-negative.true (c.nearest_pattern-pattern.ensures.is true)

pub float_from_bits-result-2 : goal.float_from_bits-result-2
float_from_bits-result-2 c = no-nan-bits binary32 _ (omega arith)

pub returns : goal.returns
returns c = rw c.if-negative.false (rw zero-add at (c.nearest_pattern-pattern.ensures.is false))

use Rattle.std.proofs.Common.{◌≢◌, arith}
use borrow.Author.Tests.{ne_eqb}
use Rattle.call.specs.Numbers.{filter_of}
use Rattle.call.proofs.filter_of.Goals as goal

pub returns-in-0 : goal.returns-in-0
unfolding filter_of
returns-in-0 c = rw c.in-0.is

pub returns-in-1 : goal.returns-in-1
unfolding filter_of
returns-in-1 c = rw c.in-1.is

pub returns-in_default : goal.returns-in_default
unfolding filter_of
returns-in_default c =
    let not_zero : c.args.n ≢ 0 = omega arith in
    let not_one : c.args.n ≢ 1 = omega arith in
    rw (ne_eqb _ _ not_zero, ne_eqb _ _ not_one)

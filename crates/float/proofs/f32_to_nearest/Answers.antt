use Rattle.std.proofs.Common.{ap, ◌∙◌, arith}
use lib.Ieee.{of_bits}
use Rattle.float.proofs.Tests.{yes, no}
use Rattle.float.proofs.Halves.{halves, by_whole, by-halves}
use Rattle.float.proofs.f32_to_nearest.Goals as goal

pub returns-then-x : goal.returns-then-x
unfolding of_bits
returns-then-x c =
    c.f32_to_usize.ensures ∙ by_whole 64 c.args.x (yes c.well_formed.0.1) (yes c.if-x.true)

pub overflow_add-result : goal.overflow_add-result
unfolding of_bits
overflow_add-result c =
    let few = (by-halves c.args.x (yes c.well_formed.0.1) (no c.if-x.false)).0 in
    record { fits = omega (arith, few, c.f64_to_usize-halves.ensures, ap halves c.f32_to_f64_with_nan.ensures) }

pub returns : goal.returns
unfolding of_bits
returns c =
    let same = (by-halves c.args.x (yes c.well_formed.0.1) (no c.if-x.false)).1 in
    omega (arith, same, c.f64_to_usize-halves.ensures, ap halves c.f32_to_f64_with_nan.ensures)

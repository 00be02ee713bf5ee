use mathlib.Core.Path.{◌≡◌, refl, ◌∙◌}
use Prim.Native.Nat.{◌+◌, ◌*◌, ◌≤◌}
use native.Mathlib.Omega.{arith}
use lib.ListN.{length}
use Rattle.base.specs.Buffers.{upto}
use Rattle.base.specs.Bytes.{bytes_of}
use Rattle.base.proofs.BufferLaws.{upto_is, filled_none, filled_more}
use Rattle.base.proofs.ByteLaws.{length-bytes_of}
use Rattle.c_plan.proofs.reports.write_six.Invariants.{number_in}
use Rattle.c_plan.proofs.reports.write_six.Goals as goal

pub loop-i-init : goal.loop-i-init
loop-i-init c = filled_none 8 (bytes_of 8) (length-bytes_of 8) (number_in c.args.numbers) 0 c.args.report.now

pub loop-i-preserved : goal.loop-i-preserved
loop-i-preserved c =
    let l = c.loop-i in
    let a = c.args in
    let room : 8 * l.i + 8 ≤ length a.report.now = omega arith in
    c.put_u64.ensures ∙ rw l.invariant (filled_more 8 (bytes_of 8) (length-bytes_of 8) (number_in a.numbers) l.i a.report.now room)

pub returns : goal.returns
returns c =
    let l = c.loop-i in
    let a = c.args in
    let e : l.i ≡ length a.numbers = omega arith in
    let same : upto (number_in a.numbers) (length a.numbers) ≡ a.numbers = upto_is (number_in a.numbers) a.numbers 0 (λ i h. refl) in
    rw (e, same) at l.invariant

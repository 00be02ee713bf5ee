use Prim.Native.Nat.{◌%◌, ◌*◌, ◌+◌, ◌/◌, ◌^◌, ◌≤◌}
use native.Mathlib.Nat.{mul-le-mul}
use native.Mathlib.Omega.{arith}
use borrow.Author.Tests.{le-ltb, lt-ltb}
use lib.Pow.{pow_mono}
use Rattle.adpcm_predict.specs.Predictor.{thr2}
use Rattle.adpcm_predict.proofs.thr2.Goals as goal

pub returns-then-ylint-gt9 : goal.returns-then-ylint-gt9
unfolding thr2
returns-then-ylint-gt9 c = (rw (lt-ltb _ _ c.if-ylint-gt9.true), omega arith)

pub returns-else-ylint-gt9 : goal.returns-else-ylint-gt9
unfolding thr2
returns-else-ylint-gt9 c =
    let yl = c.args.yl in
    let p : 2 ^ (yl / 32768) ≤ 2 ^ 9 = pow_mono {i = yl / 32768} {j = 9} c.if-ylint-gt9.false in
    let q : (32 + yl / 1024 % 32) * 2 ^ (yl / 32768) ≤ 63 * 512 = mul-le-mul {n₂ = 63} {m₂ = 512} (omega arith) p in
    (rw (le-ltb _ _ c.if-ylint-gt9.false) (omega arith), omega arith)

use mathlib.Core.Path.{refl, sym, subst}
use Prim.Native.Nat.{ℕ, ◌≤◌, ◌<◌}
use native.Mathlib.Omega.{arith}
use lib.Dec.{lit<}
use Rattle.decimal.specs.Reading.{Nearest}
use Rattle.decimal.proofs.Scaling.{up, down, k-low, k-high, rounds, zero-rounds}
use Rattle.decimal.proofs.nearest_pattern.Goals as goal
use Rattle.decimal.proofs.nearest_pattern.Goals.{At-loop-u, Else-num-eq0}

-- num is above 0
positive : (c : Else-num-eq0) → 0 < c.args.num
positive c = omega arith

-- k is within an f32's exponents
k-most : (c : At-loop-u) → c.loop-u.k ≤ 165
k-most c = k-high c.args.num c.args.den c.loop-n.n c.loop-u.u c.loop-u.k c.loop-u.invariant.0 c.requires.0 c.loop-u.invariant.1 c.requires.1 c.loop-u.invariant.2

pub returns-then-num-eq0 : goal.returns-then-num-eq0
returns-then-num-eq0 c = subst (λ (z : ℕ). Nearest z c.args.den 0) (sym c.if-num-eq0.true) (record { finite = lit< tt; is = λ s. zero-rounds s c.args.den c.requires.1 })

pub loop-n-init : goal.loop-n-init
loop-n-init c = (refl, omega arith, omega arith)

pub overflow_sub-k : goal.overflow_sub-k
overflow_sub-k c = k-low c.args.num c.args.den c.loop-n.n c.args.den c.loop-n.k c.loop-n.invariant.0 (positive c.before.before) c.requires.1 c.loop-n.invariant.2 c.requires.2

pub loop-n-preserved : goal.loop-n-preserved
loop-n-preserved c = (up c.args.num c.args.den c.loop-n.n c.args.den c.loop-n.k c.loop-n.invariant.0 (overflow_sub-k c), omega arith, omega arith)

pub loop-u-init : goal.loop-u-init
loop-u-init c = (c.loop-n.invariant.0, c.requires.1, omega arith, c.loop-n.invariant.2)

pub overflow_add-k : goal.overflow_add-k
overflow_add-k c = omega (arith, k-most c.before)

pub loop-u-preserved : goal.loop-u-preserved
loop-u-preserved c = (down c.args.num c.args.den c.loop-n.n c.loop-u.u c.loop-u.k c.loop-u.invariant.0, omega arith, omega arith, c.loop-u.invariant.3)

pub overflow_mul-result : goal.overflow_mul-result
overflow_mul-result c = omega (arith, k-most c.before)

pub overflow_add-result : goal.overflow_add-result
overflow_add-result c = omega (arith, k-most c.before.before)

pub returns : goal.returns
returns c = let n = c.loop-n.n in
    let u = c.loop-u.u in
    let most = c.nearest_quotient.ensures.1 in
    record {
      finite = omega (arith, k-most c.before.before);
      is = λ t. rw c.nearest_quotient.ensures.0 (rounds n u c.loop-u.invariant.1 c.loop-u.invariant.2 (omega arith) t c.args.num c.args.den c.loop-u.k c.requires.1 c.loop-u.invariant.0 (k-most c.before.before) (rw c.nearest_quotient.ensures.0 at most));
    }

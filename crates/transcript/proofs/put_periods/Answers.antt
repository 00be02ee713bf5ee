use native.Mathlib.Omega.{arith}
use Prim.Native.Nat.{ℕ}
use lib.ListN.{length-replicate}
use Rattle.transcript.proofs.TurnLaws.{start, turn_by, end_by}
use Rattle.transcript.proofs.put_periods.Goals as goal

pub loop-i-init : goal.loop-i-init
loop-i-init c = start _ _ _ _ _ c.requires.fresh (length-replicate {A = ℕ} 8192 0)

pub overflow_mul-m : goal.overflow_mul-m
overflow_mul-m c =
    let p = c.pull-pulled in
    let t = turn_by _ _ _ _ _ _ c.loop-i.invariant (omega arith) c.requires.sizes_len_bound.0 c.requires.sizes_len_bound.1.0 c.requires.sizes_len_bound.1.1 p.ensures.value p.ensures.samples_after c.given-m.ensures in
    omega (arith, t.low)

pub slice_bounds-samples-end : goal.slice_bounds-samples-end
slice_bounds-samples-end c =
    let p = c.pull-pulled in
    let t = turn_by _ _ _ _ _ _ c.loop-i.invariant (omega arith) c.requires.sizes_len_bound.0 c.requires.sizes_len_bound.1.0 c.requires.sizes_len_bound.1.1 p.ensures.value p.ensures.samples_after c.given-m.ensures in
    omega (arith, t.low, t.whole)

pub slice_bounds-put_period-end : goal.slice_bounds-put_period-end
slice_bounds-put_period-end c =
    let p = c.pull-pulled in
    let t = turn_by _ _ _ _ _ _ c.loop-i.invariant (omega arith) c.requires.sizes_len_bound.0 c.requires.sizes_len_bound.1.0 c.requires.sizes_len_bound.1.1 p.ensures.value p.ensures.samples_after c.given-m.ensures in
    omega (arith, t.cut)

pub put_period-end-requires : goal.put_period-end-requires
put_period-end-requires c =
    let p = c.pull-pulled in
    let t = turn_by _ _ _ _ _ _ c.loop-i.invariant (omega arith) c.requires.sizes_len_bound.0 c.requires.sizes_len_bound.1.0 c.requires.sizes_len_bound.1.1 p.ensures.value p.ensures.samples_after c.given-m.ensures in
    t.room

pub loop-i-preserved : goal.loop-i-preserved
loop-i-preserved c =
    let p = c.pull-pulled in
    let t = turn_by _ _ _ _ _ _ c.loop-i.invariant (omega arith) c.requires.sizes_len_bound.0 c.requires.sizes_len_bound.1.0 c.requires.sizes_len_bound.1.1 p.ensures.value p.ensures.samples_after c.given-m.ensures in
    t.then c.put_period-end.ensures.puts c.put_period-end.ensures.upper_bound

pub shape_of-out : goal.shape_of-out
shape_of-out c = c.loop-i.invariant.same

pub returns : goal.returns
returns c =
    let l = c.loop-i in
    let all = end_by _ _ _ _ _ _ l.invariant (omega arith) c.requires.sizes_len_bound.0 c.requires.sizes_len_bound.1.0 in
    record { puts = all.0; upper_bound = all.1 }

use Prim.Native.Nat.{◌*◌}
use native.Mathlib.Omega.{arith}
use Rattle.lines.proofs.PutLaws.{put-more, put-length}
use Rattle.transcript.specs.CallText.{spoken_by}
use Rattle.transcript.proofs.CallLaws.{taken-length}
use Rattle.transcript.proofs.put_spoken.Goals as goal

pub overflow_mul-b : goal.overflow_mul-b
overflow_mul-b c = omega (arith, c.requires.spoke.values_low)

pub overflow_mul-b-2 : goal.overflow_mul-b-2
overflow_mul-b-2 c = omega (arith, c.requires.spoke.values_low)

pub slice_bounds-put_periods-end : goal.slice_bounds-put_periods-end
slice_bounds-put_periods-end c =
    let e = taken-length (4 * c.args.m.periods) c.args.sizes.now c.requires.spoke.sizes_there in
    omega (arith, e)

pub slice_bounds-put_periods-end-2 : goal.slice_bounds-put_periods-end-2
slice_bounds-put_periods-end-2 c =
    let e = taken-length (2 * (c.args.m.periods * c.args.m.order)) c.args.rows.now c.requires.spoke.rows_there in
    omega (arith, e)

pub slice_bounds-put_periods-end-3 : goal.slice_bounds-put_periods-end-3
slice_bounds-put_periods-end-3 c =
    let e = taken-length c.args.m.samples c.args.excitation.now c.requires.spoke.excitation_there in
    omega (arith, e)

pub put_periods-requires : goal.put_periods-requires
put_periods-requires c =
    let s = c.requires.spoke in
    let a = taken-length (4 * c.args.m.periods) c.args.sizes.now s.sizes_there in
    let b = taken-length c.args.m.samples c.args.excitation.now s.excitation_there in
    record { fresh = s.fresh; sizes_len_bound = (omega (arith, a, s.periods_low), (omega (arith, b, s.samples_low), omega (arith, c.put_summary-at.ensures.upper_bound, put-length c.put_summary-at.ensures.puts, c.requires.in_bounds))) }

pub returns : goal.returns
unfolding spoken_by
returns c =
    record { puts = put-more c.put_summary-at.ensures.puts c.put_periods.ensures.puts; upper_bound = omega (arith, c.put_summary-at.ensures.upper_bound, c.put_periods.ensures.upper_bound) }

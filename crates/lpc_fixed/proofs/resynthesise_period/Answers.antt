use Rattle.std.proofs.Common.{◌≡◌, ◌/◌, length, replicate, ap, ◌∙◌, to_z-of_z, w32, rules}
use Rattle.base.specs.Buffers.{over, upto}
use Rattle.lpc.specs.Fixed.{scaled_by, divided}
use Rattle.lpc.proofs.RunLaws.{run-turn, run_end}
use Rattle.lpc.proofs.StateLaws.{fixed-given}
use Rattle.lpc_fixed.specs.Values.{value_at}
use Rattle.lpc_fixed.proofs.WindowLaws.{windowed-turn, window-sum}
use Rattle.lpc_fixed.proofs.NextLaws.{values_same, next-is, out-is}
use Rattle.lpc_fixed.proofs.resynthesise_period.Invariants.{ring}
use Rattle.lpc_fixed.proofs.resynthesise_period.Goals as goal
use Rattle.lpc_fixed.proofs.resynthesise_period.Goals.{After-place_after-place}

-- the row's values
values : (c : After-place_after-place) → c.row_values-values.result ≡ over (upto (value_at (scaled_by 32768 c.args.state.coeff_min) (scaled_by 2048 c.args.state.coeff_range) c.args.row.now) (length c.args.row.now / 2)) (replicate 32 0)
values c =
    c.row_values-values.ensures
    ∙ values_same _ _ _ _ c.args.row.now (replicate 32 0) _
    (to_z-of_z {w = w32} (record { sfits = c.scaled-min_q.type_inv }) ∙ c.scaled-min_q.ensures)
    (to_z-of_z {w = w32} (record { sfits = c.scaled-range_q.type_inv }) ∙ c.scaled-range_q.ensures)

pub loop-i-preserved : goal.loop-i-preserved
loop-i-preserved c =
    let l = c.loop-i in
    let low = l.invariant.1.low in (
      windowed-turn _ _ _ _ _ c.requires.0.order_low low l.invariant.0 c.next-y.result _ c.place_after-place.ensures.0,
      run-turn _ _ _ _ _ _ _ l.samples l.i l.invariant.1 c.loop-i-test.true c.next-y.result _ _
          (c.next-y.ensures ∙ ap divided (window-sum _ _ _ _ _ c.requires.0.order_low low l.invariant.0 _ _) ∙ next-is _ _ _ _ _ _ c.requires.0.whole (values c) (ring l.history l.place) _)
          (c.put_u16.ensures ∙ rw (c.low16.ensures, out-is _ _ c.next-y.result))
          c.place_after-place.ensures.0,
    )

pub returns : goal.returns
returns c =
    let l = c.loop-i in
    let all = fixed-given _ _ _ l.samples _ c.requires.1 (run_end _ _ _ _ _ _ _ l.samples l.i l.invariant.1 (search rules) c.requires.0.room) in record { value = all.0; samples_after = all.1 }

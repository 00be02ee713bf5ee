use Rattle.std.proofs.Common.{◌≡◌, ◌<◌, length, sym, ◌∙◌, arith, length-set, rules}
use lib.Ieee.{nan}
use Rattle.lpc.proofs.RingLaws.{newest}
use Rattle.lpc.proofs.RunLaws.{run-turn, run_end}
use Rattle.lpc.proofs.StateLaws.{float_of, float-given}
use Rattle.lpc_float.proofs.NextLaws.{next-is, out-is}
use Rattle.lpc_float.proofs.resynthesise_period.Invariants.{ring}
use Rattle.lpc_float.proofs.resynthesise_period.Goals as goal

pub loop-i-preserved : goal.loop-i-preserved
loop-i-preserved c =
    let l = c.loop-i in
    let long : c.args.state.order < length l.history = omega (arith, c.requires.0.order_low, l.invariant.0) in
    let word : c.sample.result ≡ (float_of c.args.state).out c.next-y.result = c.sample.ensures ∙ sym (out-is _ _ _) in (
      simp length-set l.invariant.0,
      rw c.place_after-place.ensures.0 (sym (newest _ l.place l.history c.next-y.result nan l.invariant.2.low long)),
      run-turn _ _ _ _ _ _ _ l.samples l.i l.invariant.2 c.loop-i-test.true c.next-y.result _ _
          (c.next-y.ensures ∙ next-is _ _ _ _ _ _ c.requires.0.whole c.row_values-values.ensures (ring l.history l.place) _ l.invariant.2.low long)
          (c.put_u16.ensures ∙ rw word)
          c.place_after-place.ensures.0,
    )

pub returns : goal.returns
returns c =
    let l = c.loop-i in
    let all = float-given _ _ _ l.samples _ c.requires.1 (run_end _ _ _ _ _ _ _ l.samples l.i l.invariant.2 (search rules) c.requires.0.room) in record { value = all.0; samples_after = all.1 }

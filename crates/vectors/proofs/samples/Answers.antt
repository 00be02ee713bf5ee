-- One more turn joins one more tally, and the state goes on.
use Rattle.adpcm.specs.Decoder.{codes_of}
use Rattle.adpcm.proofs.Turns.{state-first, state-next}
use Rattle.vectors.proofs.TallyLaws.{none_within, more-within, all_none, all_more}
use Rattle.vectors.proofs.VectorLaws.{sample-at}
use Rattle.vectors.proofs.samples.Goals as goal

pub loop-k-init : goal.loop-k-init
loop-k-init c =
    let t = c.default-t.ensures in
    (all_none _ t, none_within t, state-first (codes_of c.args.packed.now) c.fresh-state.ensures.0, c.fresh-state.ensures.1)

pub loop-k-preserved : goal.loop-k-preserved
loop-k-preserved c =
    let l = c.loop-k in
    let p = c.args.packed.now in
    let x = c.sample.ensures in
    let d = c.code_at-code in
    let g = c.signals_of-g.ensures.0 in
    let s = l.invariant.2 in
    let n = c.next_of-state.ensures in (
      all_more _ l.k l.invariant.0 (sample-at p c.args.words.now l.k d.result s d.ensures.0 g x.0) c.joined-t.ensures,
      more-within 1 l.k l.invariant.1 x.1 c.joined-t.ensures,
      state-next (codes_of p) l.k d.result s d.ensures.0 g n.0,
      n.1,
    )

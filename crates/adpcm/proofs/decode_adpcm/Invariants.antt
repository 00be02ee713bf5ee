use Rattle.adpcm.proofs.Turns.{At}
use Rattle.adpcm.proofs.decode_adpcm.Given as goal

abbrev pub invariant-loop-k : goal.invariant-loop-k
invariant-loop-k l = At l.packed l.initial.out l.out l.state l.k

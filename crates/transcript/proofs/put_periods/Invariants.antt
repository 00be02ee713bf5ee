use Rattle.call.specs.Pull.{lent_of}
use Rattle.transcript.specs.CallText.{periods_for}
use Rattle.transcript.proofs.TurnLaws.{At}
use Rattle.transcript.proofs.put_periods.Given as goal

abbrev pub invariant-loop-i : goal.invariant-loop-i
invariant-loop-i l =
    At (lent_of l.sizes l.rows l.excitation) (periods_for l.initial.before (lent_of l.sizes l.rows l.excitation)) l.initial.out l.at l.out l.samples l.before l.end l.i

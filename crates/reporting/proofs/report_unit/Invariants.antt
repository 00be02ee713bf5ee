use Rattle.reporting.proofs.LineLaws.{whole_of, Writing}
use Rattle.reporting.proofs.report_unit.Given as goal

abbrev pub invariant-loop-i : goal.invariant-loop-i
invariant-loop-i l =
    Writing l.unit l.count l.end (whole_of l.natural l.unit l.count l.fn.at l.initial.lines) (record { taken = l.i; mark = l.mark }) l.lines

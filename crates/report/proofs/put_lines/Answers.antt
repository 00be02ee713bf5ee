-- One more line is put behind those before it.
use Rattle.std.proofs.Common.{arith}
use Rattle.lines.proofs.PutLaws.{start, turn, end_of}
use Rattle.report.specs.Packed.{lines_in}
use Rattle.report.proofs.TextLaws.{line_read, text-upto}
use Rattle.report.proofs.put_lines.Goals as goal

pub loop-i-init : goal.loop-i-init
loop-i-init c = start _ _ _ _ _ _

pub loop-i-preserved : goal.loop-i-preserved
loop-i-preserved c =
    let l = c.loop-i in
    let p = c.put_report_line-end.ensures in
    turn _ _ _ _ _ _ l.i l.invariant (omega arith)
    (line_read _ l.i c.u32_at-pair.ensures c.u32_at-half.ensures c.u32_at-first.ensures c.u32_at-size.ensures)
    p.puts p.upper_bound

pub returns-clause-puts : goal.returns-clause-puts
unfolding lines_in
returns-clause-puts c =
    let l = c.loop-i in
    rw text-upto (end_of _ _ _ _ _ _ l.i l.invariant (omega arith)).0

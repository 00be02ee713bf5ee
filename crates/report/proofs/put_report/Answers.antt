-- A call that is not refused has a report, whose lines are short.
use Rattle.std.proofs.Common.{arith, sym}
use Rattle.report.proofs.HandedLaws.{never-refused, hands}
use Rattle.report.proofs.put_report.Goals as goal

pub returns-in_default-clause-puts : goal.returns-in_default-clause-puts
returns-in_default-clause-puts c =
    absurd (never-refused c.args.voice.now c.args.sheet.now (λ i. (c.type_inv.voice i).fits) c.requires.0 _ c.program_settings-settings.ensures _ c.report.ensures.value _ c.in_default.is)

pub overflow_mul-n : goal.overflow_mul-n
overflow_mul-n c =
    let h = hands c.args.voice.now c.args.sheet.now (λ i. (c.type_inv.voice i).fits) c.requires.0 _ c.program_settings-settings.ensures _ c.report.ensures.value _ _ c.report.ensures.lines_after c.in-Ok.is in
    omega (arith, h.low)

pub slice_bounds-report-end-2 : goal.slice_bounds-report-end-2
slice_bounds-report-end-2 c =
    let h = hands c.args.voice.now c.args.sheet.now (λ i. (c.type_inv.voice i).fits) c.requires.0 _ c.program_settings-settings.ensures _ c.report.ensures.value _ _ c.report.ensures.lines_after c.in-Ok.is in
    omega (arith, h.low, h.whole)

pub slice_bounds-put_lines-end : goal.slice_bounds-put_lines-end
slice_bounds-put_lines-end c =
    let h = hands c.args.voice.now c.args.sheet.now (λ i. (c.type_inv.voice i).fits) c.requires.0 _ c.program_settings-settings.ensures _ c.report.ensures.value _ _ c.report.ensures.lines_after c.in-Ok.is in
    sym h.cut

pub put_lines-requires : goal.put_lines-requires
put_lines-requires c =
    let h = hands c.args.voice.now c.args.sheet.now (λ i. (c.type_inv.voice i).fits) c.requires.0 _ c.program_settings-settings.ensures _ c.report.ensures.value _ _ c.report.ensures.lines_after c.in-Ok.is in
    (h.fits, c.requires.1)

pub returns-clause-puts : goal.returns-clause-puts
returns-clause-puts c =
    let h = hands c.args.voice.now c.args.sheet.now (λ i. (c.type_inv.voice i).fits) c.requires.0 _ c.program_settings-settings.ensures _ c.report.ensures.value _ _ c.report.ensures.lines_after c.in-Ok.is in
    rw h.lines at c.put_lines.ensures.puts

-- The report's examples: computed.
use mathlib.Core.Path.{refl}
use Rattle.lines.specs.Lines.{digit, decimal, report_line, refused}
use Rattle.transcript.specs.Program.{too_long, within_limits}
use Rattle.worked.specs.Tried.{tried}
use Rattle.worked.specs.Files.{voice_file}
use Rattle.reporting.specs.Report.{lines_of_marks, lines_of_share, lines_of, report_of}
use Rattle.report.specs.ReportText.{lines_text, report_text, text_of}
use Rattle.report.specs.Examples.{Examples}

pub examples : Examples
unfolding tried voice_file digit decimal report_line refused too_long within_limits lines_of_marks lines_of_share lines_of report_of lines_text report_text text_of
examples = record { printed = refl; no_pairs = refl; empty = refl }

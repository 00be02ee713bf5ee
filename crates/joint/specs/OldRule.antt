-- Document 02, A8: the rule before it, kept beside the law for comparison alone. 'A unit takes all marks up to its target end', and did so in
-- the simple join too.
use Rattle.std.specs.Prelude.{false, List, ℕ}
use Rattle.voice.specs.Voice.{Voice}
use Rattle.sheet.specs.Sheet.{Sheet}
use Rattle.excitation.specs.Taken.{Period, taken}
use Rattle.lpc.specs.State.{periods_by}
use Rattle.call.specs.declared.Settings.{Settings}
use Rattle.call.specs.Call.{plan_of, parts_of, filter_in}
use Rattle.reporting.specs.Report.{Line, lines_of}

-- the periods that a call took, of the units and the marks that it still has
unfoldable pub old_periods : Voice → Sheet → Settings → List Period
old_periods v s o = taken false v (plan_of v s o).units (plan_of v s o).marks

-- their samples
unfoldable pub old_samples : Voice → Sheet → Settings → List (List ℕ)
old_samples v s o = periods_by (filter_in o) v.header.coeff_min v.header.coeff_range (parts_of v (old_periods v s o))

-- the report of a call
unfoldable pub old_report : Voice → Sheet → Settings → List Line
old_report v s o = lines_of false (plan_of v s o).units (plan_of v s o).marks

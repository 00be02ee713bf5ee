-- Document 02, A2: what the second program prints.
use Rattle.std.specs.Prelude.{List, [], ◌∷◌, ◌++◌, ℕ, suc, Option}
use Rattle.refusal.specs.declared.Refusal.{Refusal}
use Rattle.voice.specs.Voice.{Voice, voice_of}
use Rattle.sheet.specs.Sheet.{Sheet, sheet_of}
use Rattle.call.specs.declared.Settings.{Settings}
use Rattle.call.specs.Buffers.{Buffers, call_refusal}
use Rattle.lines.specs.Lines.{report_line}
use Rattle.transcript.specs.CallText.{refused_or}
use Rattle.transcript.specs.Program.{program_settings, program_buffers, within_limits}
use Rattle.reporting.specs.Report.{Line, report_of}

abbrev pub line_text : ℕ → Line → List ℕ
line_text number l = report_line number l.pair l.half l.first l.size

-- 'one line a period', numbered from a number on
unfoldable pub lines_text : ℕ → List Line → List ℕ
lines_text number [] = []
lines_text number (l ∷ ls) = line_text number l ++ lines_text (suc number) ls

-- 'a refusal prints the first program's refusal line and nothing else'
abbrev pub report_by : Voice → Sheet → Settings → Option Refusal → List ℕ
report_by v s settings u = refused_or u (lines_text 1 (report_of v s settings))

-- the report of a call with lent buffers
unfoldable pub report_text : List ℕ → List ℕ → Settings → Buffers → List ℕ
report_text file sheet settings b = report_by (voice_of file) (sheet_of sheet) settings (call_refusal file sheet settings b)

-- 'reads the first one's files under the same settings, with buffers of the same lengths'
unfoldable pub text_of : List ℕ → List ℕ → List ℕ
text_of file sheet = within_limits file sheet (report_text file sheet program_settings program_buffers)

-- Document 01, 'Proved examples': what its program prints.
use Rattle.std.specs.Prelude.{List, ℕ}
use Rattle.transcript.specs.CallText.{call_text}
use Rattle.transcript.specs.Program.{program_settings, program_buffers, within_limits}

unfoldable pub text_of : List ℕ → List ℕ → List ℕ
text_of file sheet = within_limits file sheet (call_text file sheet program_settings program_buffers)

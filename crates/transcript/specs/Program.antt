-- Document 01, 'Proved examples': the settings of its program, the buffers that it lends, and the limits of its files.
use Rattle.std.specs.Prelude.{Bool, true, false, List, ℕ, ltb, length, replicate, Some}
use Rattle.base.specs.Choice.{pick}
use Rattle.refusal.specs.declared.Refusal.TheVariants.{ShortBuffer}
use Rattle.refusal.specs.Number.{number_of}
use Rattle.lpc.specs.declared.ResynthType.TheVariants.{Fixed}
use Rattle.call.specs.declared.JoinType.TheVariants.{Simple}
use Rattle.call.specs.declared.Settings.{Settings}
use Rattle.call.specs.Buffers.{Buffers, lent}
use Rattle.lines.specs.Lines.{refused}

-- 'with simple join, fixed filter, no fold'
abbrev pub program_settings : Settings
program_settings = record { join = Simple; filter = Some Fixed; fold = false; strict = false }

-- 'It starts from an excitation buffer of 4,096 bytes, all 255; .. its others 1,024 each': elements of 8, 4, 4, 2, 1 and 1 bytes
abbrev pub program_buffers : Buffers
program_buffers = lent (replicate 8192 0) (replicate 4096 0) (replicate 4096 0) (replicate 2048 0) (replicate 4096 255) (replicate 1024 0)

-- 'reads `voice.flv` (up to 32,768 bytes) and `call.sht` (up to 4,096)'
abbrev pub voice_limit : ℕ
voice_limit = 32768

abbrev pub sheet_limit : ℕ
sheet_limit = 4096

unfoldable pub too_long : List ℕ → List ℕ → Bool
too_long file sheet = pick (ltb voice_limit (length file)) true (ltb sheet_limit (length sheet))

-- 'longer ones refused 13 before all else', and others have this text
unfoldable pub within_limits : List ℕ → List ℕ → List ℕ → List ℕ
within_limits file sheet text = pick (too_long file sheet) (refused (number_of ShortBuffer)) text

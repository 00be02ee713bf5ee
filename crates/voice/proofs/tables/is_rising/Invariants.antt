use mathlib.Core.Path.{◌≡◌}
use mathlib.Core.Bool.{true}
use Rattle.base.specs.Bytes.{u32_at}
use Rattle.voice.specs.Opening.{rising_in}
use Rattle.voice.proofs.tables.is_rising.Given as goal

abbrev pub invariant-loop-i : goal.invariant-loop-i
invariant-loop-i l = (l.last ≡ u32_at l.offsets l.i) × (rising_in l.offsets l.i ≡ true)

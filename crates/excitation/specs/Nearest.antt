-- Document 01, 'Selecting and marking': the place in a unit, and the period nearest to it, in f32.
use Rattle.std.specs.Prelude.{false, ℕ, zero, suc, ◌-◌, max, pos, Float}
use Rattle.std.specs.Float.{fin, binary32}
use Rattle.std.specs.Float.Ieee.{add, mul, div, of_int}
use Rattle.base.specs.Choice.{pick}
use Rattle.float.specs.Distance.{nearer}
use Rattle.voice.specs.Voice.{Voice}
use Rattle.voice.specs.Periods.{samples_of, samples_from}
use Rattle.units.specs.declared.Unit.{Unit}
use Rattle.marks.specs.NaturalMarks.{period_count}

-- a whole number as an f32
abbrev pub f32_of : ℕ → Float
f32_of n = of_int binary32 (pos n)

-- of n periods from p on, the first of which starts at `start`: 'the unit's first whose start is nearer the place than its end, else last
-- minus 1, at least 0. Nearness is strict: a tie moves on.'
unfoldable pub nearest_from : Voice → Float → Float → ℕ → ℕ → ℕ
nearest_from v place start p zero = p - 1
nearest_from v place start p (suc n) =
    let end = add binary32 start (f32_of (samples_of v p)) in
    pick (nearer place start end) p (nearest_from v place end (suc p) n)

unfoldable pub nearest_period : Voice → Unit → Float → ℕ
nearest_period v u place = nearest_from v place (fin false 0 (pos 0)) u.first_period (period_count u)

-- 'unit samples / span; span is the target end less that of the unit before (0 at first), at least 1'
unfoldable pub pace_of : Voice → Unit → ℕ → Float
pace_of v u end_before =
    div binary32 (f32_of (samples_from v u.first_period (period_count u))) (f32_of (max (u.target_end - end_before) 1))

-- 'the place in a unit .. after each taken size grows by size × (unit samples / span)'
unfoldable pub place_after_size : Float → Float → ℕ → Float
place_after_size place pace size = add binary32 place (mul binary32 (f32_of size) pace)

-- Document 01, 'Selecting and marking': the periods taken, one for each mark, and what they fill.
use Rattle.std.specs.Prelude.{Bool, false, List, [], ◌∷◌, map, ℕ, ◌+◌, ◌-◌, ltb, pos, Float}
use Rattle.std.specs.Float.{fin}
use Rattle.base.specs.Choice.{pick}
use Rattle.base.specs.Buffers.{over, flat}
use Rattle.voice.specs.Header.{codec_of}
use Rattle.voice.specs.Voice.{Voice}
use Rattle.voice.specs.Periods.{row_of, residual_of}
use Rattle.units.specs.declared.Unit.{Unit}
use Rattle.excitation.specs.Source.{decoded_by, source_of, centred}
use Rattle.excitation.specs.Nearest.{nearest_period, pace_of, place_after_size}
use Rattle.excitation.specs.Shares.{Share, shares}

-- a taken period: the number of the voice's period from 0, 'its mark less the mark before it', the row of order values q as stored, and
-- its window of the excitation
pub record Period : Type 0 where
  pub number : ℕ
  pub size : ℕ
  pub row : List ℕ
  pub bytes : List ℕ

unfoldable pub period_of : Voice → ℕ → ℕ → Period
period_of v size p = record { number = p; size = size; row = row_of v p; bytes = centred size (source_of v p) }

-- for some marks of a unit, from a place in it on; `mark` is the mark before
unfoldable pub periods_of_marks : Voice → Unit → Float → Float → ℕ → List ℕ → List Period
periods_of_marks v u pace place mark [] = []
periods_of_marks v u pace place mark (m ∷ ms) =
    period_of v (m - mark) (nearest_period v u place) ∷ periods_of_marks v u pace (place_after_size place pace (m - mark)) m ms

-- 'The place in a unit starts at 0'
unfoldable pub periods_of_share : Voice → Share → List Period
periods_of_share v s = periods_of_marks v s.unit (pace_of v s.unit s.end_before) (fin false 0 (pos 0)) s.mark s.marks

-- the periods of all units; `natural` says that the join is the simple one
unfoldable pub taken : Bool → Voice → List Unit → List ℕ → List Period
taken natural v us ms = flat (periods_of_share v) (shares natural us ms)

-- ---- what the taken periods fill

-- 'for the taken periods the sizes, the row of order values q each as stored, and the excitation'
unfoldable pub sizes_of : List Period → List ℕ
sizes_of ps = map (λ (p : Period). p.size) ps

-- the sum of some sizes
abbrev pub total : List ℕ → ℕ
total [] = 0
total (n ∷ ns) = n + total ns

unfoldable pub rows_of : List Period → List ℕ
rows_of ps = flat (λ (p : Period). p.row) ps

unfoldable pub excitation_of : List Period → List ℕ
excitation_of ps = flat (λ (p : Period). p.bytes) ps

-- 'Each taken period of size above 0 is decoded to its front, over the one before': what of the decode buffer is written
unfoldable pub decoded_over : Voice → List ℕ → List Period → List ℕ
decoded_over v front [] = front
decoded_over v front (p ∷ ps) =
    decoded_over v (pick (ltb 0 p.size) (over (decoded_by (codec_of v.header) (residual_of v p.number)) front) front) ps

use mathlib.Core.Path.{◌≡◌}
use Prim.Native.Nat.{◌+◌}
use Rattle.voice.specs.Voice.{voice_of}
use Rattle.sheet.specs.Sheet.{sheet_of}
use Rattle.units.specs.Walking.{Walking}
use Rattle.pairs.specs.Pairs.{tried_found}
use Rattle.pairs.proofs.PairLaws.{found_coming}
use Rattle.pairs.proofs.all_found.Given as goal

abbrev pub invariant-loop-number : goal.invariant-loop-number
invariant-loop-number l =
    Walking l.sheet l.count l.walk
    × ((tried_found (voice_of l.file) l.by.fold (sheet_of l.sheet).segments ≡ found_coming (voice_of l.file) l.by.fold l.sheet l.count l.walk)
    × (l.walk.remaining + l.number ≡ l.count))

use mathlib.Core.Path.{◌≡◌}
use lib.ListN.{length, drop}
use Rattle.base.specs.Bytes.{elements}
use Rattle.voice.specs.Voice.{voice_of}
use Rattle.units.specs.Walking.{UnitWalking, many_left, units_left}
use Rattle.taking.specs.Taking.{Held}
use Rattle.filling.specs.Filling.{lent_periods, fill_periods, units_take}
use Rattle.filling.proofs.TakeLaws.{UnitsTaking}
use Rattle.filling.proofs.take_units.Given as goal

abbrev pub invariant-loop-by : goal.invariant-loop-by
invariant-loop-by l =
    let v = voice_of l.file in
    let count = l.by.places.segments.count in
    UnitWalking l.by.voice.header.frames l.sheet count l.walk
    × (UnitsTaking v l.natural (units_left v l.by.fold l.sheet count l.walk) l.end l.at.taken l.at.mark (drop l.at.taken (elements 4 l.marks)) (lent_periods l.sizes l.rows l.excitation l.decoded) (fill_periods v 0 0 (units_take l.natural l.file l.sheet l.by l.marks) (lent_periods l.initial.sizes l.initial.rows l.initial.excitation l.initial.decoded))
    × (Held v l.decoded l.at.front × ((length l.sizes ≡ length l.initial.sizes) × ((length l.rows ≡ length l.initial.rows) × ((length l.excitation ≡ length l.initial.excitation) × (length l.decoded ≡ length l.initial.decoded))))))

abbrev pub decreases-loop-by : goal.decreases-loop-by
decreases-loop-by l = many_left l.walk

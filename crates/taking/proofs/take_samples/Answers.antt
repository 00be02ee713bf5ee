use mathlib.Core.Path.{sym, subst}
use mathlib.Core.List.{List}
use Prim.Native.Nat.{ℕ}
use Rattle.voice.specs.Voice.{voice_of}
use Rattle.taking.specs.Taking.{HasDecoded}
use Rattle.taking.proofs.PeriodLaws.{samples-none, samples-some, decoded-held}
use Rattle.taking.proofs.take_samples.Goals as goal

pub returns-then-size-eq0 : goal.returns-then-size-eq0
returns-then-size-eq0 c =
    let a = c.args in
    samples-none a.file.now a.p a.size a.at a.excitation.now a.decoded.now c.if-size-eq0.true c.requires.held

pub write_period-requires : goal.write_period-requires
write_period-requires c =
    let a = c.args in
    let h = c.requires in
    let b = subst (λ (s : List ℕ). HasDecoded (voice_of a.file.now) s a.p) (sym c.decode_period.ensures) (decoded-held (voice_of a.file.now) a.p a.decoded.now) in
    (h.opened, (h.inside, (b, h.excitation_room)))

pub returns : goal.returns
returns c =
    let a = c.args in
    samples-some a.file.now a.p a.size a.at a.excitation.now _ a.decoded.now _ c.if-size-eq0.false c.write_period.ensures c.decode_period.ensures

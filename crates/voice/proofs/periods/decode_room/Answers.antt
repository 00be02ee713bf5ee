use native.Mathlib.Omega.{arith}
use mathlib.Core.Path.{sym, ap, ◌∙◌}
use borrow.Author.Tests.{eq-eqb, ne_eqb}
use Prim.Native.Nat.{ℕ, ◌*◌}
use Rattle.voice.specs.declared.VoiceHeader.{VoiceHeader}
use Rattle.voice.specs.Header.{codec_of}
use Rattle.voice.specs.Voice.{voice_of}
use Rattle.voice.specs.Periods.{longest, decode_room_by, decode_room}
use Rattle.voice.proofs.TableLaws.{header_is}
use Rattle.voice.proofs.periods.decode_room.Goals as goal

pub returns-then-d-eq0 : goal.returns-then-d-eq0
unfolding decode_room
returns-then-d-eq0 c =
    let f = c.args.file.now in
    let d = c.args.d in
    let h = header_is f d c.requires.places in
    let e = eq-eqb d.header.codec 0 c.if-d-eq0.true in
    (sym (ap (λ (h : VoiceHeader). decode_room_by (codec_of h) (longest (voice_of f) h.frames)) h ∙ rw e), omega arith)

pub returns-else-d-eq0 : goal.returns-else-d-eq0
unfolding decode_room
returns-else-d-eq0 c =
    let f = c.args.file.now in
    let d = c.args.d in
    let h = header_is f d c.requires.places in
    let e = ne_eqb d.header.codec 0 c.if-d-eq0.false in
    (ap (λ (n : ℕ). 2 * n) c.longest.ensures.0 ∙ sym (ap (λ (h : VoiceHeader). decode_room_by (codec_of h) (longest (voice_of f) h.frames)) h ∙ rw e), omega (arith, c.longest.ensures.1))

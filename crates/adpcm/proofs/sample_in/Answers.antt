use mir.Facts.{to_z-of_z}
use mir.Syntax.{w16}
use mir.Val.{SFits}
use Rattle.adpcm.specs.Decoder.{sample_in}
use Rattle.adpcm.proofs.sample_in.Goals as goal

pub returns : goal.returns
unfolding sample_in
returns c =
    let r = c.word_to_i16.result in
    let h : SFits w16 r = record { sfits = c.word_to_i16.type_inv } in
    rw (to_z-of_z h, c.word_to_i16.ensures, c.low16.ensures)

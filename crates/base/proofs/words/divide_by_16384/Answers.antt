use mathlib.Core.Path.{◌∙◌}
use native.Mathlib.Omega.{arith}
use mir.Syntax.{w32}
use mir.Val.{SFits}
use mir.Facts.{to_z-of_z}
use Rattle.base.proofs.WordLaws.{quot_fits}
use Rattle.base.proofs.words.divide_by_16384.Goals as goal

pub nonzero_div-word_to_i32 : goal.nonzero_div-word_to_i32
nonzero_div-word_to_i32 c =
    let r = c.word_to_i32.result in
    let h : SFits w32 r = record { sfits = c.word_to_i32.type_inv } in
    (omega arith, rw (to_z-of_z h) (quot_fits w32 r 16384 h))

pub returns : goal.returns
returns c =
    let r = c.word_to_i32.result in
    let h : SFits w32 r = record { sfits = c.word_to_i32.type_inv } in
    c.i32_to_word.ensures ∙ rw (to_z-of_z h, to_z-of_z (quot_fits w32 r 16384 h), c.word_to_i32.ensures)

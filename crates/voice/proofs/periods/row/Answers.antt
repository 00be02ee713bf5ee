use mathlib.Core.Path.{◌∙◌}
use native.Mathlib.Omega.{arith}
use Rattle.voice.proofs.OpenLaws.{row_within, row_read}
use Rattle.voice.proofs.periods.row.Goals as goal

pub overflow_mul-part : goal.overflow_mul-part
overflow_mul-part c =
    let f = c.args.file.now in
    let d = c.args.d in
    let p = c.args.p in
    let o = c.requires.0 in
    let h = row_within f d o p c.requires.1 in omega (arith, h, c.well_formed.0.0)

pub overflow_add-part : goal.overflow_add-part
overflow_add-part c =
    let f = c.args.file.now in
    let d = c.args.d in
    let p = c.args.p in
    let o = c.requires.0 in
    let h = row_within f d o p c.requires.1 in omega (arith, h, c.well_formed.0.0)

pub bytes_at-requires : goal.bytes_at-requires
bytes_at-requires c =
    let f = c.args.file.now in
    let d = c.args.d in
    let p = c.args.p in
    let o = c.requires.0 in
    row_within f d o p c.requires.1

pub returns : goal.returns
returns c =
    let f = c.args.file.now in
    let d = c.args.d in
    let p = c.args.p in
    let o = c.requires.0 in
    c.bytes_at.ensures ∙ row_read f d o (λ i. (c.type_inv.file i).fits) p c.requires.1

use mathlib.Core.Path.{◌∙◌}
use native.Mathlib.Omega.{arith}
use Rattle.voice.proofs.OpenLaws.{offset-within, offset_read, offset-most}
use Rattle.voice.proofs.periods.offset.Goals as goal

pub overflow_add-d : goal.overflow_add-d
overflow_add-d c =
    let f = c.args.file.now in
    let d = c.args.d in
    let i = c.args.i in
    let o = c.requires.0 in
    let h = offset-within f d o i c.requires.1 in omega (arith, h, c.well_formed.0.0)

pub read_u32-requires : goal.read_u32-requires
read_u32-requires c =
    let f = c.args.file.now in
    let d = c.args.d in
    let i = c.args.i in
    let o = c.requires.0 in
    offset-within f d o i c.requires.1

pub returns : goal.returns
returns c =
    let f = c.args.file.now in
    let d = c.args.d in
    let i = c.args.i in
    let o = c.requires.0 in
    let e = c.read_u32.ensures ∙ offset_read f d o i c.requires.1 in
    (e, rw e (offset-most f d o i c.requires.1))

use mathlib.Core.Path.{◌∙◌}
use native.Mathlib.Omega.{arith}
use Prim.Native.Nat.{suc}
use Rattle.voice.proofs.TableLaws.{residual-within}
use Rattle.voice.proofs.OpenLaws.{offset-rises, offset-most, residual-read}
use Rattle.voice.proofs.periods.residual.Goals as goal

pub overflow_add-part : goal.overflow_add-part
overflow_add-part c =
    let f = c.args.file.now in
    let d = c.args.d in
    let p = c.args.p in
    let o = c.requires.0 in
    let w = residual-within f d o.places in omega (arith, w, c.offset.ensures.1, c.well_formed.0.0)

pub bytes_at-requires : goal.bytes_at-requires
bytes_at-requires c =
    let f = c.args.file.now in
    let d = c.args.d in
    let p = c.args.p in
    let o = c.requires.0 in
    let w = residual-within f d o.places in
    let h = offset-rises f d o p c.requires.1 in
    let m = offset-most f d o (suc p) c.requires.1 in
    omega (arith, w, h, m, c.offset.ensures.0, c.gap.ensures.0)

pub returns : goal.returns
returns c =
    let f = c.args.file.now in
    let d = c.args.d in
    let p = c.args.p in
    let o = c.requires.0 in
    let a = c.offset.ensures.0 in
    let g = c.gap.ensures.0 in
    c.bytes_at.ensures ∙ rw (a, g) (residual-read f d o p c.requires.1)

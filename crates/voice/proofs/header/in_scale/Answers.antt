use mathlib.Core.Path.{◌≡◌, refl}
use mathlib.Core.Bool.{true, false}
use lib.Ieee.{fin, le, of_bits, neg}
use lib.IntN.{pos}
use Rattle.voice.specs.Header.{in_scale}
use Rattle.voice.proofs.header.in_scale.Goals as goal

pub returns-then-x : goal.returns-then-x
unfolding in_scale of_bits neg
returns-then-x c =
    let e : le (fin true 1 (pos 4)) c.args.x ≡ true = c.if-x.true in
    rw e refl

pub returns-else-x : goal.returns-else-x
unfolding in_scale of_bits neg
returns-else-x c =
    let e : le (fin true 1 (pos 4)) c.args.x ≡ false = c.if-x.false in
    rw e

use Rattle.std.proofs.Common.{◌≡◌, length, replicate, ◌+◌, ◌-◌, take, drop}
use lib.ListN.{length-replicate, length-take, length-drop}
use native.Mathlib.Omega.{arith}
use Rattle.excitation.proofs.WindowLaws.{put_at}
use Rattle.excitation.proofs.fill_at.Goals as goal

pub returns : goal.returns
returns c =
    let a = c.args in
    let part = take (a.at + a.n - a.at) (drop a.at a.buf.now) in
    let long : length part ≡ a.n = rw (length-take, length-drop) (omega (arith, c.requires)) in
    rw (c.fill.ensures.after (λ y h. h), long) (put_at a.buf.now (replicate a.n 255) a.at a.n c.requires (length-replicate a.n 255))

use native.Mathlib.Nat.{mul-zero}
use native.Mathlib.Omega.{arith}
use Prim.Native.Nat.{◌≤◌, ◌<◌}
use Rattle.checking.proofs.NeedLaws.{need-few, need-more}
use Rattle.checking.proofs.need_of.Goals as goal
use Rattle.checking.proofs.need_of.Goals.{then-counts-lt2, else-counts-lt2}

pub returns : goal.returns
returns c =
    let a = c.args in
    elim c.if-counts-lt2.branch [
      | then-counts-lt2 w ↦
          let few : a.counts.marks < 2 = omega (arith, w.if-counts-lt2) in
          rw (w.periods-is, mul-zero) (need-few a.file.now a.d c.requires.0 a.counts c.decode_room.result c.decode_room.ensures.0 few)
      | else-counts-lt2 w ↦
          let more : 2 ≤ a.counts.marks = omega (arith, w.if-counts-lt2) in
          rw w.periods-is (need-more a.file.now a.d c.requires.0 a.counts c.decode_room.result c.decode_room.ensures.0 more)
    ]

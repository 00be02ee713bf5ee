use mathlib.Core.Path.{◌≡◌, ap}
use native.Mathlib.Omega.{arith}
use Prim.Native.Nat.{ℕ, ◌+◌, ◌-◌}
use lib.ListN.{take, drop}
use Rattle.voice.proofs.sections.bytes_at.Goals as goal

pub returns : goal.returns
returns c =
    let p = c.args.part in
    let k : p.at + p.len - p.at ≡ p.len = omega arith in
    ap (λ (m : ℕ). take m (drop p.at c.args.file.now)) k

use mathlib.Core.Path.{◌≡◌, ap, ◌∙◌}
use Prim.Native.Nat.{ℕ, ◌+◌, ◌≤◌}
use lib.ListN.{length}
use native.Mathlib.Omega.{arith}
use Rattle.base.specs.Bytes.{little_endian}
use Rattle.container.specs.Sections.{data_length}
use Rattle.container.proofs.SectionLaws.{whole-data, whole-next}
use Rattle.container.proofs.data_of.Goals as goal

pub read_u32-requires : goal.read_u32-requires
read_u32-requires c =
    let a = c.args in
    let h = whole-data a.file.now a.at c.requires.1 in
    omega (arith, h, c.name_length.ensures.0)

pub returns : goal.returns
returns c =
    let f = c.args.file.now in
    let at = c.args.at in
    let n = c.name_length.ensures.0 in
    let d : c.read_u32.result ≡ data_length f at = c.read_u32.ensures ∙ ap (λ (m : ℕ). little_endian 4 f (at + 1 + m)) n in
    let w = whole-next f at c.requires.1 in
    let low : at + 5 ≤ at + 1 + c.name_length.result + 4 = omega arith in
    let high : at + 1 + c.name_length.result + 4 + c.read_u32.result ≤ length f = omega (arith, n, d, w) in
    (rw (d, n), (low, high))

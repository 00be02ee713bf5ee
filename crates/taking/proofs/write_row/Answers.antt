use mathlib.Core.Path.{ap, ◌∙◌}
use mathlib.Core.List.{List}
use Prim.Native.Nat.{ℕ, ◌*◌}
use native.Mathlib.Omega.{arith}
use lib.ListN.{length}
use lib.Seq.{sets}
use Rattle.taking.proofs.PeriodLaws.{row-bytes}
use Rattle.taking.proofs.write_row.Goals as goal

pub copy_at-requires : goal.copy_at-requires
copy_at-requires c =
    let a = c.args in
    let l = ap length c.row.ensures ∙ row-bytes a.file.now a.d c.requires.0 a.p in
    omega (arith, l, c.requires.1.1)

pub returns : goal.returns
returns c =
    let a = c.args in
    c.copy_at.ensures ∙ ap (λ (s : List ℕ). sets a.rows.now (2 * (a.d.header.order * a.taken)) s) c.row.ensures

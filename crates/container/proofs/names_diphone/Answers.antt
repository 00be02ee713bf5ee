use mathlib.Core.Path.{sym, ap, ◌∙◌}
use mathlib.Core.List.{List}
use Prim.Native.Nat.{ℕ}
use Rattle.base.specs.Text.{ascii}
use Rattle.text.specs.Names.{same}
use Rattle.text.specs.Trim.{trim, trim_end}
use Rattle.container.proofs.names_diphone.Goals as goal

pub returns-then-utf8 : goal.returns-then-utf8
unfolding trim
returns-then-utf8 c =
    let u = sym c.utf8-2.ensures ∙ c.if-utf8.true in
    rw u (c.is_diphone_from.ensures ∙ ap (λ (l : List ℕ). same (trim_end l) (ascii "diphone")) c.skip.ensures.0)

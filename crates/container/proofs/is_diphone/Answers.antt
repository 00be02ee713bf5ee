use Rattle.std.specs.Prelude.{None, Some}
use Prim.Native.Nat.{ℕ, ◌+◌, ◌-◌}
use lib.ListN.{take, drop}
use Rattle.container.specs.Sections.{find, names_diphone}
use mathlib.Core.Path.{◌≡◌, sym, ap, ◌∙◌}
use native.Mathlib.Omega.{arith}
use lib.ListN.{length}
use Rattle.base.specs.Text.{ascii}
use Rattle.container.specs.Sections.{sections, is_diphone, says_diphone}
use Rattle.container.proofs.SectionLaws.{found_within}
use Rattle.std.proofs.Common.{rules}
use Rattle.container.proofs.is_diphone.Goals as goal

pub overflow_add-end : goal.overflow_add-end
unfolding sections
overflow_add-end c =
    let f = c.args.file.now in
    let h = found_within f (ascii "voice.backend") (length f) 8 c.in-Some.data (sym c.find.ensures ∙ c.in-Some.is) in
    omega (arith, h)

pub slice_bounds-names_diphone-end : goal.slice_bounds-names_diphone-end
unfolding sections
slice_bounds-names_diphone-end c =
    let f = c.args.file.now in
    let h = found_within f (ascii "voice.backend") (length f) 8 c.in-Some.data (sym c.find.ensures ∙ c.in-Some.is) in
    search rules

pub returns-in-Some : goal.returns-in-Some
unfolding is_diphone says_diphone
returns-in-Some c =
    let f = c.args.file.now in
    let e : find (ascii "voice.backend") (sections f).list ≡ Some c.in-Some.data = sym c.find.ensures ∙ c.in-Some.is in
    let g = c.names_diphone.ensures in
    let m : c.in-Some.data.at + c.in-Some.data.len - c.in-Some.data.at ≡ c.in-Some.data.len = omega arith in
    rw e (g ∙ ap (λ (n : ℕ). names_diphone (take n (drop c.in-Some.data.at f))) m)

pub returns-in-None : goal.returns-in-None
unfolding is_diphone says_diphone
returns-in-None c =
    let f = c.args.file.now in
    let e : find (ascii "voice.backend") (sections f).list ≡ None = sym c.find.ensures ∙ c.in-None.is in
    rw e

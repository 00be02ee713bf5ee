use mathlib.Core.Path.{sym, ap, ◌∙◌}
use Prim.Native.Nat.{◌≤◌, ◌<◌}
use lib.ListN.{length}
use Rattle.std.proofs.lemmas.Bool.Decides.{nat_tests}
use Rattle.text.specs.Utf8.{utf8}
use Rattle.voice.specs.Voice.{next_entry}
use Rattle.index.proofs.WalkLaws.{whole-short, whole_by}
use native.Mathlib.Omega.{arith}
use Rattle.index.proofs.is_whole.Goals as goal
use Rattle.index.proofs.is_whole.Goals.{then-at-entries, else-at-entries}

pub returns-then-at-entries-2 : goal.returns-then-at-entries-2
returns-then-at-entries-2 c =
    let a = c.args in
    let h : next_entry a.entries.now a.at ≤ length a.entries.now =
    elim c.if-at-entries.branch [
      | then-at-entries w ↦ grind (arith, nat_tests, w.value-is, c.if-at-entries-2.true)
      | else-at-entries w ↦ grind (arith, nat_tests, w.value-is, c.if-at-entries-2.true)
    ] in
    c.utf8-2.ensures ∙ ap utf8 c.name_at.ensures ∙ sym (whole_by a.entries.now a.at h)

pub returns-else-at-entries-2 : goal.returns-else-at-entries-2
returns-else-at-entries-2 c =
    let a = c.args in
    let h : length a.entries.now < next_entry a.entries.now a.at =
    elim c.if-at-entries.branch [
      | then-at-entries w ↦ grind (arith, nat_tests, w.value-is, c.if-at-entries-2.false)
      | else-at-entries w ↦ omega (arith, w.if-at-entries.false)
    ] in
    c.if-at-entries-2.false ∙ sym (whole-short a.entries.now a.at h)

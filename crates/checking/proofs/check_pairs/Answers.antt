use Rattle.std.specs.Prelude.{None, Some}
use mathlib.Core.Path.{sym, ap, ◌∙◌}
use mathlib.Core.Bool.{Bool}
use borrow.Author.Tests.{not-true, not-false}
use Rattle.base.specs.Choice.{pick}
use Rattle.refusal.specs.declared.Refusal.TheVariants.{MissingPair}
use Rattle.voice.specs.Voice.{voice_of}
use Rattle.sheet.specs.Sheet.{sheet_of}
use Rattle.pairs.specs.Pairs.{tried_found}
use Rattle.call.proofs.CheckLaws.{missing-loose, missing-strict}
use Rattle.checking.proofs.check_pairs.Goals as goal

pub returns-then-not-settings : goal.returns-then-not-settings
returns-then-not-settings c =
    let e = c.if-not-settings.true in
    missing-loose _ _ _ (not-true _ e) ∙ sym (ap (λ (t : Bool). pick t None (Some MissingPair)) e)

pub returns-else-not-settings : goal.returns-else-not-settings
returns-else-not-settings c =
    let v = voice_of c.args.file.now in
    let s = sheet_of c.args.sheet.now in
    let fold = ap (λ (f : Bool). tried_found v f s.segments) c.requires.fold in
    missing-strict v s c.args.settings (not-false _ c.if-not-settings.false) ∙ sym (ap (λ (t : Bool). pick t None (Some MissingPair)) (c.all_found.ensures ∙ fold))

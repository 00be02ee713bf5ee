use mathlib.Core.Path.{sym, ap, ◌∙◌}
use Rattle.base.proofs.ListLaws.{failing-passed, failing-here}
use Rattle.voice.specs.Voice.{places_of}
use Rattle.voice.specs.Opening.{opening_refusal, answer_opening}
use Rattle.opening.proofs.check.Goals as goal

pub returns-then-not-has_magic : goal.returns-then-not-has_magic
unfolding opening_refusal
returns-then-not-has_magic c = ap (answer_opening (places_of c.args.file.now)) (sym (failing-here _ _ _ (sym c.has_magic.ensures ∙ c.if-not-has_magic.true)))

pub returns-then-not-has_whole_sections : goal.returns-then-not-has_whole_sections
unfolding opening_refusal
returns-then-not-has_whole_sections c = ap (answer_opening (places_of c.args.file.now)) (sym (failing-passed _ _ _ (sym c.has_magic.ensures ∙ c.if-not-has_magic.false) ∙ failing-here _ _ _ (sym c.has_whole_sections.ensures ∙ c.if-not-has_whole_sections.true)))

pub returns-then-not-is_diphone : goal.returns-then-not-is_diphone
unfolding opening_refusal
returns-then-not-is_diphone c = ap (answer_opening (places_of c.args.file.now)) (sym (failing-passed _ _ _ (sym c.has_magic.ensures ∙ c.if-not-has_magic.false) ∙ failing-passed _ _ _ (sym c.has_whole_sections.ensures ∙ c.if-not-has_whole_sections.false) ∙ failing-here _ _ _ (sym c.is_diphone.ensures ∙ c.if-not-is_diphone.true)))

pub returns-then-not-has_needed : goal.returns-then-not-has_needed
unfolding opening_refusal
returns-then-not-has_needed c = ap (answer_opening (places_of c.args.file.now)) (sym (failing-passed _ _ _ (sym c.has_magic.ensures ∙ c.if-not-has_magic.false) ∙ failing-passed _ _ _ (sym c.has_whole_sections.ensures ∙ c.if-not-has_whole_sections.false) ∙ failing-passed _ _ _ (sym c.is_diphone.ensures ∙ c.if-not-is_diphone.false) ∙ failing-here _ _ _ (sym c.has_needed.ensures ∙ c.if-not-has_needed.true)))

pub returns : goal.returns
unfolding opening_refusal
returns c = c.check_tables.ensures ∙ ap (answer_opening (places_of c.args.file.now)) (sym (failing-passed _ _ _ (sym c.has_magic.ensures ∙ c.if-not-has_magic.false) ∙ failing-passed _ _ _ (sym c.has_whole_sections.ensures ∙ c.if-not-has_whole_sections.false) ∙ failing-passed _ _ _ (sym c.is_diphone.ensures ∙ c.if-not-is_diphone.false) ∙ failing-passed _ _ _ (sym c.has_needed.ensures ∙ c.if-not-has_needed.false)))

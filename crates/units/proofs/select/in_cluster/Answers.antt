use mathlib.Core.Path.{sym, ◌∙◌}
use Rattle.units.proofs.SelectLaws.{cluster-vowel, cluster-next}
use Rattle.units.proofs.select.in_cluster.Goals as goal

pub returns-then-is_vowel : goal.returns-then-is_vowel
returns-then-is_vowel c = sym (cluster-vowel _ _ _ c.bytes_at.ensures _ c.is_vowel.ensures c.if-is_vowel.true)

pub returns : goal.returns
returns c =
    c.is_minus.ensures ∙ sym (cluster-next _ _ _ c.bytes_at.ensures _ c.is_vowel.ensures c.if-is_vowel.false _ (c.bytes_at-2.ensures ∙ c.follower_name-follower.ensures.0) _ c.vc_of.ensures)

use Rattle.std.proofs.Common.{◌≡◌, refl, ap, ◌∙◌}
use denote.Enum.Bare.{sameb}
use Rattle.phoneset.specs.contracts.Vc.{the_type}
use Rattle.phoneset.specs.declared.Vc.{Vc}
use Rattle.phoneset.specs.declared.Vc.TheVariants.{Plus, Minus, Zero}
use Rattle.phoneset.specs.Phones.{is_plus, is_vowel}
use Rattle.phoneset.proofs.is_vowel.Goals as goal

plus : (v : Vc) → sameb the_type v Plus ≡ is_plus v
plus Plus = refl
plus Minus = refl
plus Zero = refl

pub returns : goal.returns
unfolding is_vowel
returns c = c.eq.ensures ∙ plus _ ∙ ap is_plus c.vc_of.ensures

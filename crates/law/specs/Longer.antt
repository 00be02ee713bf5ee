-- Demand 3: two spoken calls of which the second is longer, and what it begins with.
use Rattle.std.specs.Prelude.{◌≡◌, true, List}
use Rattle.base.specs.Lists.{Heads}
use Rattle.voice.specs.Extends.{Extends}
use Rattle.sheet.specs.Begins.{Begins}
use Rattle.units.specs.Selecting.{first_tried_found}
use Rattle.call.specs.declared.Settings.{Settings}
use Rattle.call.specs.Call.{filter_in}
use Rattle.call.specs.SpokenCall.{SpokenCall, voice_in, sheet_in}

-- 'under the same settings': the join, the filter that a call ends up with, fold and strict (document 02, A5: 'calls that end up with one
-- filter, their other settings the same')
pub record SameSettings (p o : Settings) : Type 0 where
  pub join : p.join ≡ o.join
  pub filter : filter_in p ≡ filter_in o
  pub fold : p.fold ≡ o.fold
  pub strict : p.strict ≡ o.strict

-- 'Now take two spoken calls under the same settings, let the second voice extend the first and the second sheet begin with all segments
-- and targets of the first. If each pair of the first sheet finds its first-tried name in the first voice ..'
pub record Longer (d c : SpokenCall) : Type 0 where
  pub settings : SameSettings d.settings c.settings
  pub extends : Extends (voice_in d) (voice_in c)
  pub begins : Begins (sheet_in d) (sheet_in c)
  pub found : first_tried_found (voice_in c) c.settings.fold (sheet_in c).segments ≡ true

-- '.. begin those .., and are all of them if the sheets are equal'
pub record BeginsWith {A : Type 0} (d c : SpokenCall) (longer shorter : List A) : Type 0 where
  pub heads : Heads shorter longer
  pub equal : sheet_in d ≡ sheet_in c → longer ≡ shorter

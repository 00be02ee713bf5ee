use mathlib.Core.Path.{refl}
use Rattle.units.proofs.AskedLaws.{holds-nothing}
use Rattle.probe_call.proofs.units_of.Goals as goal

pub store_units-requires : goal.store_units-requires
store_units-requires c = (record { opened = c.requires.0; holds = holds-nothing _ _ _ _ refl }, c.requires.1)

use Rattle.std.specs.Prelude.{Option}
use Rattle.base.specs.declared.Span.{Span}
use mathlib.Core.Path.{sym, ap}
use Rattle.voice.specs.Opening.{has_sizes}
use Rattle.voice.proofs.tables.has_sizes.Goals as goal

pub returns-in-Some : goal.returns-in-Some
returns-in-Some c = ap (λ (f : Option Span). has_sizes f c.args.n) (sym c.in-Some.is)

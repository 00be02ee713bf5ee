use mathlib.Core.Path.{sym, ap, ◌∙◌}
use Rattle.sheet.specs.Sheet.{sheet_of}
use Rattle.sheet.specs.Followers.{name_of}
use Rattle.units.proofs.followers.follower_name.Goals as goal

pub returns-then-follower-number : goal.returns-then-follower-number
returns-then-follower-number c =
    let p = c.requires.1.1 in
    (p.1 ∙ ap (name_of (sheet_of c.args.sheet.now).segments) (sym c.if-follower-number.true), p.0.within)

use Rattle.units.proofs.ends.target_ends.Goals as goal

pub returns : goal.returns
returns c =
    let x = c.as_f32-from.ensures in
    let f = c.samples_at.ensures in
    let y = c.as_f32.ensures in
    let m = c.midway.ensures in
    let s = c.samples_at-2.ensures in
    cc

use native.Mathlib.Omega.{arith}
use Rattle.taking.proofs.PeriodLaws.{frames-is}
use Rattle.probe_call.proofs.windows.window_of.Goals as goal

pub take_samples-front-requires : goal.take_samples-front-requires
take_samples-front-requires c =
    let a = c.args in
    let o = c.requires in
    let f = frames-is a.file.now a.d o in
    record {
      opened = o;
      inside = c.if-frames-p.false;
      excitation_room = omega arith;
      decoded_room = omega (arith, c.decode_room.ensures.0, c.if-decoded-decode_room.false);
      held = λ h. absurd (omega (arith, f, h));
    }

-- Every spoken call can be made and pulled from: the claims over the contracts are not empty.
use mathlib.Core.Path.{refl}
use mathlib.Core.List.{List, [], ◌∷◌}
use Prim.Native.Nat.{ℕ}
use Rattle.lpc.specs.declared.FilterState.{FilterState}
use Rattle.call.specs.Buffers.{summary_of, planned_of, buffers_after}
use Rattle.call.specs.Pull.{pull_of}
use Rattle.call.specs.Machine.{pulls}
use Rattle.call.proofs.NumberLaws.{planned-number}
use Rattle.call.specs.SpokenCall.{SpokenCall, LentBytes, voice_in, sheet_in, bytes_after, read_as, state_after, pulls_after}
use Rattle.law.specs.Made.{made, PullsMade, none, more, MadeAfter}
use Rattle.law.proofs.Lends.{share, lend, lend_all, lifetimes}

pulls-exist : (b : LentBytes) (s : FilterState) (ds : List (List ℕ)) → PullsMade b s ds (pulls s (read_as b) ds)
unfolding pulls
pulls-exist b s [] = none
pulls-exist b s (d ∷ ds) =
    let o = pull_of s (read_as b) d in
    more (lifetimes 4) s (share b.sizes) (share b.rows) (share b.excitation) (lend d) o.pulled o.slice refl refl refl (refl, refl)
    (pulls-exist b o.pulled.state ds)

pub made-exists : (c : SpokenCall) (ds : List (List ℕ)) → MadeAfter c ds (pulls_after c ds)
unfolding pulls_after bytes_after planned_of
made-exists c ds =
    let b = c.lent in
    record {
      returned = planned_of c.voice_file c.sheet_file c.settings b;
      left = buffers_after c.voice_file c.sheet_file c.settings b;
      summary = summary_of (voice_in c) (sheet_in c) c.settings;
      call = made (lifetimes 8) (share c.voice_file) (share c.sheet_file) (lend_all b) c.settings _ _
          (refl, refl, planned-number c.voice_file c.sheet_file c.settings b);
      spoken = (let e = c.not_refused in rw e);
      pulls = pulls-exist (bytes_after c) (state_after c) ds;
    }

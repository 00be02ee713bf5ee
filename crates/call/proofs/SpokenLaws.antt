-- What a spoken call shows: its voice opens, its plan is not refused, its state is fresh.
use Rattle.std.specs.Prelude.{None}
use mathlib.Core.Path.{◌≡◌}
use Rattle.base.proofs.ListLaws.{next-none}
use Rattle.voice.proofs.OpeningLaws.{Opens, opens}
use Rattle.call.specs.Call.{plan_of}
use Rattle.call.specs.Buffers.{call_refusal, planned_of, fresh_of}
use Rattle.call.proofs.CheckLaws.{passed-all}
use Rattle.call.proofs.FilledLaws.{call-planned}
use Rattle.call.specs.SpokenCall.{SpokenCall, voice_in, sheet_in}

module _ (c : SpokenCall) where
  pub opened : Opens (voice_in c)
  unfolding call_refusal
  opened = opens c.voice_file (passed-all _ _ _ (next-none _ _ c.not_refused).0).opening

  pub planned : (plan_of (voice_in c) (sheet_in c) c.settings).refusal ≡ None
  planned = call-planned c.voice_file c.sheet_file c.settings c.lent c.not_refused

  pub fresh : (planned_of c.voice_file c.sheet_file c.settings c.lent).state ≡ fresh_of (voice_in c) c.settings
  unfolding planned_of
  fresh = let e = c.not_refused in rw e

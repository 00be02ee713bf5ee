-- Inner: How long the words of the delays and signals are, by the Recommendation's list of signals, and what one code gives.
use Rattle.std.specs.Prelude.{◌≡◌, ℕ, ◌<◌}
use Rattle.ulaw.specs.Ulaw.{ulaw_of}
use Rattle.adpcm.specs.Decoder.{signals_of, next_of, sample_in}
use Rattle.adpcm.specs.declared.AdpcmState.{AdpcmState}
use Rattle.adpcm.specs.declared.Signals.{Signals}
use Rattle.adpcm.specs.declared.Coded.{Coded}

pub record Words (s : AdpcmState) : Type 0 where
  pub yl : s.yl < 524288
  pub yu : s.yu < 8192
  pub dms : s.dms < 4096
  pub dml : s.dml < 16384
  pub ap : s.ap < 1024
  pub pk1 : s.pk1 < 2
  pub pk2 : s.pk2 < 2

pub record SignalWords (g : Signals) : Type 0 where
  pub y : g.y < 8192
  pub pk0 : g.pk0 < 2

-- r has the byte of the code i at the state s, and the state after it
pub record Coding (s : AdpcmState) (i : ℕ) (r : Coded) : Type 0 where
  pub byte : r.byte ≡ ulaw_of (sample_in (signals_of s i))
  pub state : r.state ≡ next_of s i (signals_of s i)
  pub words : Words r.state

use Prim.Native.Nat.{◌-◌}
use Rattle.voice.specs.Voice.{entries_from}
use Rattle.voice.specs.Opening.{within_frames}
use Rattle.index.proofs.WalkLaws.{Walk}
use Rattle.index.proofs.ends_within.Given as goal

abbrev pub invariant-loop : goal.invariant-loop
invariant-loop l = Walk l.entries (within_frames l.frames) (within_frames l.frames (entries_from l.count l.entries 0).list) (l.count - l.counter) l.at

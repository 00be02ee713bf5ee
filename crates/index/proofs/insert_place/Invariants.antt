use Rattle.voice.specs.Voice.{entries_from}
use Rattle.index.specs.Index.{sorted_from}
use Rattle.index.proofs.InsertLaws.{Moving}
use Rattle.index.proofs.insert_place.Given as goal

abbrev pub invariant-loop-j : goal.invariant-loop-j
invariant-loop-j l = Moving l.entries l.count l.base (sorted_from l.i (entries_from l.count l.entries 0).list) l.initial.index l.place l.index l.j

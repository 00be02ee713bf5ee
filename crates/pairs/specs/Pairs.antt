-- Document 02, A1: what a strict call asks of its pairs.
use Rattle.std.specs.Prelude.{Bool, List}
use Rattle.voice.specs.Voice.{Voice}
use Rattle.sheet.specs.Sheet.{SegmentRead}
use Rattle.units.specs.Selecting.{folded, tried_entry, found_all}

-- no pair 'finds no name that it tries before the sorted first entry'
unfoldable pub tried_found : Voice → Bool → List SegmentRead → Bool
tried_found v fold ss = found_all (tried_entry v (folded fold ss)) (folded fold ss)

use Rattle.sheet.proofs.ValueLaws.{word-cut, word-read}
use Rattle.sheet.proofs.read_word.Goals as goal

pub returns-then-sheet-at-lt4 : goal.returns-then-sheet-at-lt4
returns-then-sheet-at-lt4 c = word-cut _ _ c.if-sheet-at-lt4.true

pub returns : goal.returns
returns c = word-read _ _ _ c.read_u32.ensures c.if-sheet-at-lt4.false

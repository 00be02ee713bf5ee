use Rattle.std.proofs.Common.{w16}
use Rattle.std.proofs.lemmas.Int.{to_z-of_z}
use Rattle.base.proofs.WordLaws.{low_bits}
use Rattle.base.proofs.words.i16_to_word.Goals as goal

pub returns : goal.returns
returns c =
    let x = c.args.x in
    cc (to_z-of_z w16 x c.ranges.x, low_bits w16 x c.ranges.x)

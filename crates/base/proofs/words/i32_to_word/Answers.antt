use Rattle.std.proofs.Common.{w32}
use Rattle.std.proofs.lemmas.Int.{to_z-of_z}
use Rattle.base.proofs.WordLaws.{low_bits}
use Rattle.base.proofs.words.i32_to_word.Goals as goal

pub returns : goal.returns
returns c =
    let x = c.args.x in
    cc (to_z-of_z w32 x c.ranges.x, low_bits w32 x c.ranges.x)

-- The ends of lines, counted.
use Rattle.std.proofs.Common.{◌≡◌, rules, sym, ◌∙◌}
use Rattle.std.specs.List.{count_by}
use Rattle.std.proofs.lemmas.List.Sums.{count_by-le-length}
use Rattle.replay.proofs.StoredLaws.{ends, lines-count}
use Rattle.replay.proofs.lines_in.Goals as goal

pub returns : goal.returns
returns c =
    let n : c.count.result ≡ count_by ends c.args.text.now = search rules in
    (n ∙ sym (lines-count _), rw n (count_by-le-length ends _))

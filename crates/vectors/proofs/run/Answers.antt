use Rattle.std.proofs.Common.{arith, rules}
use Rattle.vectors.specs.Vectors.{encoding}
use Rattle.vectors.proofs.TallyLaws.{one-within, all-within, wider}
use Rattle.vectors.proofs.run.Goals as goal

pub returns : goal.returns
returns c =
    let a = c.args in
    let f = encoding a.word a.byte in
    let e = c.all_of.ensures f (λ i t h q. search rules) in
    (e, rw e (wider a.count 65536 (omega arith) (all-within f (λ k. one-within _) a.count)))

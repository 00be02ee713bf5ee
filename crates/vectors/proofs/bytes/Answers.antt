use Rattle.std.proofs.Common.{arith, rules}
use Rattle.vectors.specs.Vectors.{byte}
use Rattle.vectors.proofs.TallyLaws.{one-within, all-within, wider}
use Rattle.vectors.proofs.bytes.Goals as goal

pub returns : goal.returns
returns c =
    let a = c.args in
    let f = byte a.got.now a.want.now in
    let e = c.all_of.ensures f (λ i t h q. search rules) in
    (e, rw e (wider a.n 131072 (omega arith) (all-within f (λ k. one-within _) a.n)))

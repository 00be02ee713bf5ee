use Prim.Native.Nat.{ℕ}
use Rattle.base.proofs.ListLaws.{replicated}
use Rattle.units.proofs.followers.no_places.Goals as goal

pub returns : goal.returns
returns c j = replicated {A = ℕ} 256 j 0

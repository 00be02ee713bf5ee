use mathlib.Core.Path.{ap, ◌∙◌}
use native.Mathlib.Omega.{arith}
use mathlib.Core.List.{List}
use Prim.Native.Nat.{ℕ}
use Rattle.base.specs.Buffers.{over}
use Rattle.opening.proofs.IndexLaws.{open-within, able, filled-bytes}
use Rattle.opening.proofs.fill_index.Goals as goal

pub bytes_at-entries-requires : goal.bytes_at-entries-requires
bytes_at-entries-requires c = open-within c.args.file.now c.args.d c.requires.0

pub fill_index-requires : goal.fill_index-requires
fill_index-requires c = able c.args.file.now c.args.d c.requires.0 _ _ c.bytes_at-entries.ensures c.requires.1 (omega (arith, c.well_formed.0.1))

pub returns : goal.returns
returns c = c.fill_index.ensures ∙ ap (λ (l : List ℕ). over l c.args.index.now) (filled-bytes c.args.file.now c.args.d c.requires.0 _ c.bytes_at-entries.ensures)

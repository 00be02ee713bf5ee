-- Parts of byte slices.
use Rattle.std.specs.Prelude.{List, ℕ}
use Rattle.base.specs.Lists.{part}
use Rattle.base.specs.declared.Span.{Span}

-- the bytes that stand at a span of a file
abbrev pub bytes_at : List ℕ → Span → List ℕ
bytes_at file s = part file s.at s.len

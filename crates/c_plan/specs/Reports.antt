-- The reports of a call: six numbers of eight bytes each.
use Rattle.std.specs.Prelude.{List, [], ◌∷◌, ℕ}
use Rattle.base.specs.Buffers.{flat}
use Rattle.base.specs.Bytes.{bytes_of}
use Rattle.call.specs.declared.Need.{Need}
use Rattle.call.specs.declared.Summary.{Summary}

-- DIPHONE_NEED_BYTES and DIPHONE_SUMMARY_BYTES
abbrev pub report_length : ℕ
report_length = 48

unfoldable pub need_bytes : Need → List ℕ
need_bytes n = flat (bytes_of 8) (n.entries ∷ n.marks ∷ n.periods ∷ n.rows ∷ n.excitation ∷ n.decoded ∷ [])

unfoldable pub summary_bytes : Summary → List ℕ
summary_bytes m = flat (bytes_of 8) (m.rate ∷ m.periods ∷ m.samples ∷ m.marks ∷ m.order ∷ m.entries ∷ [])

use mathlib.Core.Path.{sym, ap, ◌∙◌}
use native.Mathlib.Omega.{arith}
use mathlib.Core.List.{List}
use Prim.Native.Nat.{ℕ}
use lib.Seq.{sets}
use Rattle.base.specs.Bytes.{bytes_of}
use Rattle.c_open.proofs.RecordLaws.{header-long, record-written}
use Rattle.c_open.proofs.write_record.Goals as goal

pub slice_bounds-copy-end : goal.slice_bounds-copy-end
slice_bounds-copy-end c = sym (header-long c.args.voice.now c.args.d c.requires.0 _ c.header_bytes-header.ensures)

pub copy-requires : goal.copy-requires
copy-requires c = let h = header-long c.args.voice.now c.args.d c.requires.0 _ c.header_bytes-header.ensures in omega (arith, h, c.requires.1)

pub returns : goal.returns
returns c =
    let k = record-written c.args.voice.now c.args.d c.requires.0 _ c.args.report.now _ c.header_bytes-header.ensures c.decode_room.ensures.0 c.requires.1 in
    c.write_u64-2.ensures
    ∙ ap (λ (s : List ℕ). sets s 48 (bytes_of 8 c.decode_room.result)) (c.write_u64.ensures ∙ ap (λ (s : List ℕ). sets s 40 (bytes_of 8 c.args.d.count)) c.copy.ensures)
    ∙ k

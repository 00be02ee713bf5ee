-- The tables of an open voice, read where they stand in the file.
use Rattle.std.specs.Prelude.{None, Option, Some}
use mathlib.Core.Path.{◌≡◌, sym, ap, subst, ◌∙◌}
use mathlib.Core.Bool.{true}
use mathlib.Core.List.{List}
use Prim.Native.Nat.{ℕ, suc, ◌+◌, ◌*◌, ◌≤◌, ◌<◌}
use native.Mathlib.Nat.{mul-le-mul_right, mul_assoc, mul_comm, suc-mul, mul-add}
use native.Mathlib.Omega.{arith}
use borrow.Author.Tests.{leb-true}
use lib.ListN.{length, get_or}
use Rattle.base.specs.Lists.{every, part}
use Rattle.base.specs.Buffers.{flat}
use Rattle.base.specs.Bytes.{Bytes, little_endian, bytes_of, u32_at}
use Rattle.base.specs.declared.Span.{Span}
use Rattle.base.proofs.ListLaws.{every-at, get_or-part, length_part, part-part}
use Rattle.base.proofs.BufferLaws.{upto-same}
use Rattle.base.proofs.BoundLaws.{below-part}
use Rattle.base.proofs.ByteLaws.{little_endian-part, flat-read}
use Rattle.container.specs.Sections.{bytes_at}
use Rattle.voice.specs.declared.VoiceHeader.{VoiceHeader}
use Rattle.voice.specs.declared.DiphoneVoice.{DiphoneVoice}
use Rattle.voice.specs.Voice.{Voice, sizes_at, voice_of}
use Rattle.voice.specs.Periods.{offset, gap, residual_of, sized_by, samples_of, row_of}
use Rattle.voice.specs.Opening.{IsOpen, rising_in, has_sizes}
use Rattle.voice.proofs.OpeningLaws.{opens, passed}
use Rattle.voice.proofs.PeriodLaws.{rising_le, rising-upto}
use Rattle.voice.proofs.TableLaws.{table_tests, tables-are, header_is, lpc-is, offsets-is, residual-is, sizes-is, lpc-within, offsets-within, sizes-within}

module _ (file : List ℕ) (d : DiphoneVoice) (o : IsOpen file d) where
  abbrev v : Voice
  v = voice_of file

  abbrev frames : ℕ
  frames = d.header.frames

  tests : every (table_tests file d) ≡ true
  tests = sym (tables-are file d o.places) ∙ (passed file o.fit).tables

  frames-is : v.header.frames ≡ frames
  frames-is = ap (λ (h : VoiceHeader). h.frames) (header_is file d o.places)

  pub frames-some : 0 < frames
  frames-some = subst (λ (n : ℕ). 0 < n) frames-is (opens file o.fit).some_frames

  pub residual-most : d.residual.len ≤ 16777215
  residual-most = leb-true _ _ (every-at (table_tests file d) tests 0)

  lpc-enough : frames * d.header.order * 2 ≤ d.lpc.len
  lpc-enough = leb-true _ _ (every-at (table_tests file d) tests 1)

  sizes-enough : has_sizes d.sizes frames ≡ true
  sizes-enough = every-at (table_tests file d) tests 2

  offsets-enough : (frames + 1) * 4 ≤ d.offsets.len
  offsets-enough = leb-true _ _ (every-at (table_tests file d) tests 3)

  -- an offset, where it stands
  pub offset-within : (i : ℕ) → i ≤ frames → d.offsets.at + 4 * i + 4 ≤ length file
  offset-within i h = let w = offsets-within file d o.places in let e = offsets-enough in omega arith

  pub offset_read : (i : ℕ) → i ≤ frames → little_endian 4 file (d.offsets.at + 4 * i) ≡ offset v i
  unfolding offset
  offset_read i h =
      let e = offsets-enough in
      sym (ap (λ (s : List ℕ). u32_at s i) (offsets-is file d o.places) ∙ little_endian-part 4 file d.offsets.at d.offsets.len (4 * i) (omega arith))

  last-offset : offset v frames ≤ d.residual.len
  unfolding offset
  last-offset =
      let h = leb-true _ _ (every-at (table_tests file d) tests 5) in
      subst (λ (s : List ℕ). u32_at s frames ≤ d.residual.len) (sym (offsets-is file d o.places)) h

  risen : rising_in v.offsets frames ≡ true
  risen = subst (λ (n : ℕ). rising_in v.offsets n ≡ true) frames-is (opens file o.fit).offsets_rise

  pub offset-most : (i : ℕ) → i ≤ frames → offset v i ≤ d.residual.len
  offset-most i h = let a = rising_le v frames risen i h in let b = last-offset in omega arith

  pub offset-rises : (p : ℕ) → p < frames → offset v p ≤ offset v (suc p)
  offset-rises p h = rising-upto v frames risen p h

  -- a period's samples, where its size stands
  pub size-within : (s : Span) → d.sizes ≡ Some s → (p : ℕ) → p < frames → s.at + p < length file
  size-within s e p h =
      let w = sizes-within file d o.places s e in
      let n = leb-true frames s.len (subst (λ (f : Option Span). has_sizes f frames ≡ true) e sizes-enough) in
      omega arith

  sized-is : (f : Option Span) → d.sizes ≡ f → (p : ℕ) → samples_of v p ≡ sized_by (sizes_at file f) p (gap v p)
  unfolding samples_of
  sized-is f e p = ap (λ (s : Option (List ℕ)). sized_by s p (gap v p)) (sizes-is file d o.places ∙ ap (sizes_at file) e)

  pub samples-sized : (s : Span) → d.sizes ≡ Some s → (p : ℕ) → p < frames → get_or file (s.at + p) 0 ≡ samples_of v p
  samples-sized s e p h =
      let n = leb-true frames s.len (subst (λ (f : Option Span). has_sizes f frames ≡ true) e sizes-enough) in
      sym (sized-is (Some s) e p ∙ get_or-part file s.at s.len p 0 (omega arith))

  pub samples-gap : d.sizes ≡ None → (p : ℕ) → gap v p ≡ samples_of v p
  samples-gap e p = sym (sized-is None e p)

  -- a period's residual
  pub residual-read : (p : ℕ) → p < frames → part file (d.residual.at + offset v p) (gap v p) ≡ residual_of v p
  unfolding residual_of
  residual-read p h =
      let a = offset-rises p h in
      let b = offset-most (suc p) (omega arith) in
      sym
      (ap (λ (s : List ℕ). part s (offset v p) (gap v p)) (residual-is file d o.places)
      ∙ part-part file d.residual.at d.residual.len (offset v p) (gap v p) (omega arith))

  -- a period's row
  place_is : (p : ℕ) → p * (2 * d.header.order) ≡ 2 * (p * d.header.order)
  place_is p = sym (mul_assoc p 2 d.header.order) ∙ ap (λ (n : ℕ). n * d.header.order) (mul_comm p 2) ∙ mul_assoc 2 p d.header.order

  row-end : (p : ℕ) → p < frames → 2 * (p * d.header.order) + 2 * d.header.order ≤ d.lpc.len
  row-end p h =
      let m : suc p * d.header.order ≤ frames * d.header.order = mul-le-mul_right d.header.order h in
      let n : p * d.header.order + d.header.order ≤ frames * d.header.order = rw suc-mul at m in
      let e = lpc-enough in
      omega arith

  pub row_within : (p : ℕ) → p < frames → d.lpc.at + p * (2 * d.header.order) + 2 * d.header.order ≤ length file
  row_within p h =
      let w = lpc-within file d o.places in
      let e = row-end p h in
      let q = place_is p in
      omega (arith, w, e, q)

  pub row_read : Bytes file → (p : ℕ) → p < frames → part file (d.lpc.at + p * (2 * d.header.order)) (2 * d.header.order) ≡ flat (bytes_of 2) (row_of v p)
  unfolding row_of
  row_read small p h =
      let order : v.header.order ≡ d.header.order = ap (λ (h : VoiceHeader). h.order) (header_is file d o.places) in
      let e = row-end p h in
      let k : 2 * (p * d.header.order) + 2 * d.header.order ≤ length (bytes_at file d.lpc) = rw (length_part file d.lpc.at d.lpc.len (lpc-within file d o.places)) e in
      sym
      (rw (lpc-is file d o.places, order)
      (ap (flat (bytes_of 2)) (upto-same _ _ d.header.order (λ i l. ap (little_endian 2 (bytes_at file d.lpc)) (mul-add 2 (p * d.header.order) i)))
      ∙ flat-read (bytes_at file d.lpc) (below-part 256 (omega arith) file d.lpc.at d.lpc.len small) 2 (2 * (p * d.header.order)) d.header.order k
      ∙ part-part file d.lpc.at d.lpc.len (2 * (p * d.header.order)) (2 * d.header.order) e
      ∙ ap (λ (n : ℕ). part file (d.lpc.at + n) (2 * d.header.order)) (sym (place_is p))))

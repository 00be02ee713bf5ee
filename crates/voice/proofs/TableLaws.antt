-- The tables of a voice, by their places in the file.
use Rattle.std.specs.Prelude.{None, Option, Some}
use mathlib.Core.Path.{◌≡◌, refl, sym, ap, subst, ◌∙◌}
use mathlib.Core.Bool.{Bool, true, false, ◌&&◌}
use mathlib.Core.List.{List, [], ◌∷◌}
use mathlib.Core.Logic.{⊎_elim}
use Prim.Native.Nat.{ℕ, zero, suc, ◌+◌, ◌*◌, ◌≤◌, ◌<◌}
use native.Mathlib.Nat.{eq-or-lt_of_le, le_of_suc-le-suc, mul-le-mul_left}
use native.Mathlib.Omega.{arith}
use native.Mathlib.Numerals.{add-one}
use borrow.Author.Tests.{lt-leb, le-leb, leb-true}
use lib.Dec.{leb}
use lib.ListN.{length}
use Rattle.base.specs.Lists.{every}
use Rattle.base.specs.Text.{ascii}
use Rattle.base.specs.Bytes.{u32_at}
use Rattle.base.specs.declared.Span.{Span}
use Rattle.base.proofs.ListLaws.{length_part, every-at}
use Rattle.container.specs.Sections.{find, span_of, sections, bytes_at}
use Rattle.container.proofs.SectionLaws.{section-within, found_within}
use Rattle.voice.specs.declared.DiphoneVoice.{DiphoneVoice}
use Rattle.voice.specs.declared.VoiceHeader.{VoiceHeader}
use Rattle.voice.specs.Header.{good_numbers, good_header}
use Rattle.voice.specs.Periods.{offset}
use Rattle.voice.specs.Voice.{Voice, sizes_at, voice_at, places_of, voice_of}
use Rattle.voice.specs.Opening.{rising_in, long_enough, has_sizes, good_tables}

-- ---- offsets that do not fall

pub risen-more : (os : List ℕ) (i : ℕ) → rising_in os i ≡ true → u32_at os i ≤ u32_at os (i + 1) → rising_in os (i + 1) ≡ true
unfolding rising_in
risen-more os i e h =
    let t : leb (u32_at os i) (u32_at os (suc i)) ≡ true = le-leb (u32_at os i) (u32_at os (suc i)) (rw add-one at h) in
    rw (add-one i, t, e)

pub risen-fails : (os : List ℕ) (i n : ℕ) → i < n → u32_at os (i + 1) < u32_at os i → rising_in os n ≡ false
unfolding rising_in
risen-fails os i zero h l = absurd (omega arith)
risen-fails os i (suc n) h l = ⊎_elim here (λ k. there (risen-fails os i n k l)) (eq-or-lt_of_le (le_of_suc-le-suc h))
  where
    here : i ≡ n → rising_in os (suc n) ≡ false
    here e =
        let k : u32_at os (suc n) < u32_at os n = subst (λ (m : ℕ). u32_at os (suc m) < u32_at os m) e (rw add-one at l) in
        ap (λ (t : Bool). t && rising_in os n) (lt-leb (u32_at os n) (u32_at os (suc n)) k)

    last : (t : Bool) → (t && false) ≡ false
    last true = refl
    last false = refl

    there : rising_in os n ≡ false → rising_in os (suc n) ≡ false
    there e = ap (λ (t : Bool). leb (u32_at os n) (u32_at os (suc n)) && t) e ∙ last (leb (u32_at os n) (u32_at os (suc n)))

-- ---- where the tables stand

-- the checks of the tables, by their places
abbrev pub table_tests : List ℕ → DiphoneVoice → List Bool
table_tests file d =
    let n = d.header.frames in
    leb d.residual.len 16777215
    ∷ leb (n * d.header.order * 2) d.lpc.len
    ∷ has_sizes d.sizes n
    ∷ leb ((n + 1) * 4) d.offsets.len
    ∷ rising_in (bytes_at file d.offsets) n
    ∷ leb (u32_at (bytes_at file d.offsets) n) d.residual.len
    ∷ []

module _ (file : List ℕ) (d : DiphoneVoice) (p : d ≡ places_of file) where
  -- within the file
  pub lpc-within : d.lpc.at + d.lpc.len ≤ length file
  unfolding places_of
  lpc-within = rw p (section-within file (ascii "sts.lpc"))

  pub offsets-within : d.offsets.at + d.offsets.len ≤ length file
  unfolding places_of
  offsets-within = rw p (section-within file (ascii "sts.resoffs"))

  pub residual-within : d.residual.at + d.residual.len ≤ length file
  unfolding places_of
  residual-within = rw p (section-within file (ascii "sts.res"))

  pub sizes-within : (s : Span) → d.sizes ≡ Some s → s.at + s.len ≤ length file
  unfolding places_of sections
  sizes-within s e = found_within file (ascii "sts.ressize") (length file) 8 s (sym (ap (λ (d : DiphoneVoice). d.sizes) p) ∙ e)

  -- the voice is what stands at these places
  pub voice-is : voice_of file ≡ voice_at file d
  unfolding voice_of
  voice-is = ap (voice_at file) (sym p)

  pub header_is : (voice_of file).header ≡ d.header
  unfolding voice_at
  header_is = ap (λ (v : Voice). v.header) voice-is

  pub lpc-is : (voice_of file).lpc ≡ bytes_at file d.lpc
  unfolding voice_at
  lpc-is = ap (λ (v : Voice). v.lpc) voice-is

  pub offsets-is : (voice_of file).offsets ≡ bytes_at file d.offsets
  unfolding voice_at
  offsets-is = ap (λ (v : Voice). v.offsets) voice-is

  pub residual-is : (voice_of file).residual ≡ bytes_at file d.residual
  unfolding voice_at
  residual-is = ap (λ (v : Voice). v.residual) voice-is

  pub sizes-is : (voice_of file).sizes ≡ sizes_at file d.sizes
  unfolding voice_at
  sizes-is = ap (λ (v : Voice). v.sizes) voice-is

  -- their lengths
  pub lpc-length : length (voice_of file).lpc ≡ d.lpc.len
  lpc-length = ap length lpc-is ∙ length_part file d.lpc.at d.lpc.len lpc-within

  pub offsets-length : length (voice_of file).offsets ≡ d.offsets.len
  offsets-length = ap length offsets-is ∙ length_part file d.offsets.at d.offsets.len offsets-within

  pub residual-length : length (voice_of file).residual ≡ d.residual.len
  residual-length = ap length residual-is ∙ length_part file d.residual.at d.residual.len residual-within

  pub sizes-enough : (n : ℕ) → long_enough (voice_of file).sizes n ≡ has_sizes d.sizes n
  sizes-enough n = ap (λ (s : Option (List ℕ)). long_enough s n) sizes-is ∙ by d.sizes refl
    where
      by : (f : Option Span) → d.sizes ≡ f → long_enough (sizes_at file f) n ≡ has_sizes f n
      by None e = refl
      by (Some s) e = ap (leb n) (length_part file s.at s.len (sizes-within s e))

  pub tables-are : good_tables (voice_of file) ≡ every (table_tests file d)
  unfolding good_tables offset
  tables-are = rw (residual-length, lpc-length, offsets-length, offsets-is, header_is, sizes-enough d.header.frames)

-- a header within its limits has an order that makes no product too large
pub order-low : (h : VoiceHeader) → good_numbers h ≡ true → h.frames * h.order ≤ h.frames * 32
unfolding good_numbers
order-low h e = mul-le-mul_left h.frames (leb-true h.order 32 (every-at _ e 1))

-- a good header's numbers are those of the places
pub numbers_of : (file : List ℕ) (d : DiphoneVoice) → d ≡ places_of file → good_header (bytes_at file (span_of (find (ascii "sts.header") (sections file).list))) ≡ true → good_numbers d.header ≡ true
unfolding good_header places_of
numbers_of file d p h = rw p (every-at _ h 1)

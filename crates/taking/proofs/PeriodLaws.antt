-- One period: the room it takes when decoded, what the decode buffer's front has then, and the source that is put into its window.
use mathlib.Core.Path.{◌≡◌, refl, sym, ap, subst, ◌∙◌}
use mathlib.Core.Bool.{Bool, true, false}
use mathlib.Core.List.{List, [], ◌∷◌, ◌++◌, append_assoc}
use mathlib.Core.Logic.{⊎_elim}
use Prim.Native.Nat.{ℕ, zero, suc, ◌+◌, ◌-◌, ◌*◌, ◌≤◌, ◌<◌, zero-le}
use native.Mathlib.Nat.{eq-or-lt_of_le, le_of_suc-le-suc}
use native.Mathlib.Omega.{arith}
use borrow.Author.Tests.{lt-ltb, le-ltb}
use lib.Dec.{ltb}
use lib.ListN.{length, take, drop, length-append, length-take, length-drop, take-append-drop, drop_of_length-le}
use lib.Seq.{sets, drop-append-le, drop-append-add, drop-drop}
use Rattle.base.specs.Choice.{pick}
use Rattle.base.proofs.CaseLaws.{by_order}
use Rattle.base.specs.Buffers.{over, flat}
use Rattle.base.specs.Bytes.{bytes_of}
use Rattle.base.proofs.BufferLaws.{over-nil, take-over, length-flat}
use Rattle.base.proofs.ByteLaws.{length-bytes_of}
use Rattle.adpcm.specs.Decoder.{decoded}
use Rattle.adpcm.proofs.Turns.{length-decoded}
use Rattle.voice.specs.declared.Codec.{Codec}
use Rattle.voice.specs.declared.Codec.TheVariants.{Ulaw, G721}
use Rattle.voice.specs.declared.DiphoneVoice.{DiphoneVoice}
use Rattle.voice.specs.declared.VoiceHeader.{VoiceHeader}
use Rattle.voice.specs.Header.{codec_of}
use Rattle.voice.specs.Voice.{Voice, voice_of}
use Rattle.voice.specs.Periods.{offset, gap, residual_of, samples_of, row_of, longest, decode_room_by, decode_room}
use Rattle.voice.specs.Opening.{IsOpen}
use Rattle.voice.proofs.TableLaws.{header_is}
use Rattle.excitation.specs.Source.{decoded_by, source_by, source_of, centred}
use Rattle.excitation.specs.Taken.{Period, decoded_over}
use Rattle.excitation.proofs.SizedLaws.{length-row}
use Rattle.taking.specs.declared.Progress.{Progress}
use Rattle.taking.specs.Taking.{decoded_of, HasDecoded, Held, TakesSamples}

-- ---- decoded bytes

gap-longest : (v : Voice) (n p : ℕ) → p < n → gap v p ≤ longest v n
unfolding longest
gap-longest v zero p h = absurd (omega arith)
gap-longest v (suc n) p h = ⊎_elim (λ (e : p ≡ n). rw e (omega arith)) (λ (l : p < n). let g = gap-longest v n p l in omega arith) (eq-or-lt_of_le (le_of_suc-le-suc h))

-- a decoded period fits what the decode buffer needs
pub decoded-fits : (v : Voice) (p : ℕ) → p < v.header.frames → length (decoded_of v p) ≤ decode_room v
unfolding decode_room residual_of decoded_by
decoded-fits v p h = by (codec_of v.header)
  where
    by : (k : Codec) → length (decoded_by k (residual_of v p)) ≤ decode_room_by k (longest v v.header.frames)
    by Ulaw = omega arith
    by G721 =
        let g = gap-longest v v.header.frames p h in
        let l = length-take (gap v p) (drop (offset v p) v.residual) in
        rw length-decoded (omega (arith, g, l))

-- bytes that a buffer begins with change nothing
pub over-same : (p d : List ℕ) → take (length p) d ≡ p → d ≡ over p d
unfolding over
over-same p d e = sym (take-append-drop (length p) d) ∙ ap (λ (l : List ℕ). l ++ drop (length p) d) e

-- one overlay after the other
pub over-twice : (p q d : List ℕ) → over (over p q) d ≡ over p (over q d)
unfolding over
over-twice p q d =
    append_assoc p (drop (length p) q) (drop (length (p ++ drop (length p) q)) d)
    ∙ ap (λ (l : List ℕ). p ++ l) (by_order (length q) (length p) shorter longer)
  where
    rest : List ℕ
    rest = drop (length q) d

    long : length (p ++ drop (length p) q) ≡ length p + (length q - length p)
    long = simp (length-append, length-drop)

    shorter : length q < length p → drop (length p) q ++ drop (length (p ++ drop (length p) q)) d ≡ drop (length p) (q ++ rest)
    shorter h =
        let n : length (p ++ drop (length p) q) ≡ length p = long ∙ omega arith in
        let m : length p ≡ length q + (length p - length q) = omega arith in
        let e : drop (length p) q ≡ [] = drop_of_length-le q {i = length p} (omega arith) in
        ap (λ (l : List ℕ). l ++ drop (length (p ++ drop (length p) q)) d) e
        ∙ ap (λ (k : ℕ). drop k d) (n ∙ m)
        ∙ sym (ap (λ (k : ℕ). drop k (q ++ rest)) m ∙ drop-append-add q rest (length p - length q) ∙ drop-drop (length p - length q) (length q) d)

    longer : length p ≤ length q → drop (length p) q ++ drop (length (p ++ drop (length p) q)) d ≡ drop (length p) (q ++ rest)
    longer h =
        let n : length (p ++ drop (length p) q) ≡ length q = long ∙ omega arith in
        ap (λ (k : ℕ). drop (length p) q ++ drop k d) n ∙ sym (drop-append-le (length p) q rest h)

-- so what is written of the decode buffer does not depend on what was there
pub decoded-over : (v : Voice) (ps : List Period) (p d : List ℕ) → over (decoded_over v p ps) d ≡ decoded_over v (over p d) ps
unfolding decoded_over
decoded-over v [] p d = refl
decoded-over v (q ∷ ps) p d = by (ltb 0 q.size) (λ p. decoded-over v ps p d)
  where
    by : (t : Bool) → ((p : List ℕ) → over (decoded_over v p ps) d ≡ decoded_over v (over p d) ps) → over (decoded_over v (pick t (over (decoded_of v q.number) p) p) ps) d ≡ decoded_over v (pick t (over (decoded_of v q.number) (over p d)) (over p d)) ps
    by true more = more (over (decoded_of v q.number) p) ∙ ap (λ (l : List ℕ). decoded_over v l ps) (over-twice (decoded_of v q.number) p d)
    by false more = more p

pub decoded-held : (v : Voice) (p : ℕ) (d : List ℕ) → HasDecoded v (over (decoded_of v p) d) p
decoded-held v p d = take-over (decoded_of v p) d (length (decoded_of v p)) refl

-- ---- a size of 0, and any other

module _ (file : List ℕ) (p size : ℕ) (at : Progress) where
  pub samples-none : (e b : List ℕ) → size ≡ 0 → Held (voice_of file) b at.front → TakesSamples file p size at at.front e e b b
  unfolding centred
  samples-none e b z held =
      let t = le-ltb (length (source_of (voice_of file) p)) 0 zero-le in
      rw z (record { excitation = rw t; decoded = refl; held = held })

  pub samples-some : (e₀ e₁ b₀ b₁ : List ℕ) → (size ≡ 0 → ⊥) → e₁ ≡ sets e₀ at.mark (centred size (source_of (voice_of file) p)) → b₁ ≡ over (decoded_of (voice_of file) p) b₀
      → TakesSamples file p size at p e₀ e₁ b₀ b₁
  samples-some e₀ e₁ b₀ b₁ z e b =
      let t = lt-ltb 0 size (omega (arith, z)) in
      record {
        excitation = e;
        decoded = rw t b;
        held = λ h. subst (λ (s : List ℕ). HasDecoded (voice_of file) s p) (sym b) (decoded-held (voice_of file) p b₀);
      }

-- ---- by the header at hand

module _ (file : List ℕ) (d : DiphoneVoice) (o : IsOpen file d) where
  pub frames-is : (voice_of file).header.frames ≡ d.header.frames
  frames-is = ap (λ (h : VoiceHeader). h.frames) (header_is file d o.places)

  pub codec-is : codec_of (voice_of file).header ≡ codec_of d.header
  codec-is = ap codec_of (header_is file d o.places)

  -- a period that the voice has is there
  pub held-front : (buffer : List ℕ) (p : ℕ) → p < d.header.frames → Held (voice_of file) buffer p → HasDecoded (voice_of file) buffer p
  held-front buffer p h held = held (rw frames-is h)

  -- a row's bytes
  pub row-bytes : (p : ℕ) → length (flat (bytes_of 2) (row_of (voice_of file) p)) ≡ 2 * d.header.order
  row-bytes p =
      length-flat (bytes_of 2) 2 (length-bytes_of 2) (row_of (voice_of file) p)
      ∙ ap (λ (n : ℕ). 2 * n) (length-row (voice_of file) p ∙ ap (λ (h : VoiceHeader). h.order) (header_is file d o.places))

  module _ (p : ℕ) where
    -- mu-law: nothing is decoded
    pub decoded-ulaw : (buffer : List ℕ) → codec_of d.header ≡ Ulaw → buffer ≡ over (decoded_of (voice_of file) p) buffer
    unfolding decoded_by
    decoded-ulaw buffer e = by (codec_of (voice_of file).header) (codec-is ∙ e)
      where
        by : (k : Codec) → k ≡ Ulaw → buffer ≡ over (decoded_by k (residual_of (voice_of file) p)) buffer
        by k q = rw q (sym (over-nil buffer))

    -- G.721: the residual's bytes, twice as many
    pub decoded-g721 : codec_of d.header ≡ G721 → decoded_of (voice_of file) p ≡ decoded (residual_of (voice_of file) p)
    unfolding decoded_by
    decoded-g721 e = by (codec_of (voice_of file).header) (codec-is ∙ e)
      where
        by : (k : Codec) → k ≡ G721 → decoded_by k (residual_of (voice_of file) p) ≡ decoded (residual_of (voice_of file) p)
        by k q = rw q

    pub decode-room : (n : ℕ) → p < d.header.frames → codec_of d.header ≡ G721 → decode_room (voice_of file) ≤ n → 2 * length (residual_of (voice_of file) p) ≤ n
    decode-room n h e r =
        let f = decoded-fits (voice_of file) p (rw frames-is h) in
        let l = ap length (decoded-g721 e) ∙ length-decoded (residual_of (voice_of file) p) in
        omega (arith, f, l, r)

    -- the source that is put into the window
    pub source_is : (codec : Codec) (samples : ℕ) (source residual : List ℕ) → codec ≡ codec_of d.header → samples ≡ samples_of (voice_of file) p
        → residual ≡ residual_of (voice_of file) p → source ≡ source_by codec residual → take samples source ≡ source_of (voice_of file) p
    unfolding source_of
    source_is codec samples source residual a b c e = let k = a ∙ sym codec-is in rw (e, k, b, c)

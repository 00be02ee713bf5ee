-- Inner: Document 01, 'Selecting and marking': what taking a unit's marks asks, and what it leaves in the buffers.
use Rattle.std.specs.Prelude.{◌≡◌, Bool, List, ℕ, ◌+◌, ◌*◌, ◌^◌, ◌≤◌, ◌<◌, ltb, length, drop}
use Rattle.std.proofs.lemmas.List.Edits.{sets}
use Rattle.base.specs.Choice.{pick}
use Rattle.base.specs.Buffers.{over, flat}
use Rattle.base.specs.Bytes.{bytes_of, elements}
use Rattle.voice.specs.declared.DiphoneVoice.{DiphoneVoice}
use Rattle.voice.specs.Header.{codec_of}
use Rattle.voice.specs.Voice.{Voice, voice_of}
use Rattle.voice.specs.Periods.{row_of, residual_of, decode_room}
use Rattle.voice.specs.Opening.{IsOpen}
use Rattle.units.specs.declared.Unit.{Unit}
use Rattle.units.specs.Units.{Inside, limit}
use Rattle.marks.specs.Checking.{last_of}
use Rattle.marks.specs.Rising.{Rising}
use Rattle.excitation.specs.Source.{decoded_by, Holds, source_of, centred}
use Rattle.excitation.specs.Shares.{share_count, Share, share_of}
use Rattle.excitation.specs.Taken.{Period, periods_of_share, sizes_of, rows_of, excitation_of, decoded_over}
use Rattle.taking.specs.declared.Progress.{Progress}

-- what a period leaves at the front of the decode buffer, and that the front has it
abbrev pub decoded_of : Voice → ℕ → List ℕ
decoded_of v p = decoded_by (codec_of v.header) (residual_of v p)

abbrev pub HasDecoded : Voice → List ℕ → ℕ → Type 0
HasDecoded v buffer p = Holds (codec_of v.header) buffer (residual_of v p)

-- the front of the decode buffer has the period `front` decoded, where the voice has such a period
abbrev pub Held : Voice → List ℕ → ℕ → Type 0
Held v buffer front = front < v.header.frames → HasDecoded v buffer front

-- a unit's share of the marks from element `taken` on, and the periods that it takes for them
abbrev pub unit_share : Bool → Unit → ℕ → List ℕ → Progress → Share
unit_share natural u end_before marks at = share_of natural end_before at.mark u (drop at.taken (elements 4 marks))

abbrev pub unit_taken : Bool → Voice → Unit → ℕ → List ℕ → Progress → List Period
unit_taken natural v u end_before marks at = periods_of_share v (unit_share natural u end_before marks at)

-- an open voice has the unit's periods, the marks that are left do not fall, and what the unit takes fits the buffers,
-- of which sizes, rows and excitation have so many bytes
pub record CanTake (natural : Bool) (file : List ℕ) (d : DiphoneVoice) (u : Unit) (end_before : ℕ) (marks : List ℕ) (at : Progress)
    (sizes rows excitation : ℕ) (decoded : List ℕ) : Type 0 where
  pub opened : IsOpen file d
  pub inside : Inside d.header.frames u
  pub short : u.last_period ≤ u.first_period + 255
  pub low : u.target_end ≤ limit
  pub rising : Rising at.mark (drop at.taken (elements 4 marks))
  pub sizes_room : 4 * (at.taken + length (unit_taken natural (voice_of file) u end_before marks at)) ≤ sizes
  pub rows_room : 2 * (d.header.order * (at.taken + length (unit_taken natural (voice_of file) u end_before marks at))) ≤ rows
  pub excitation_room : last_of at.mark (unit_share natural u end_before marks at).marks ≤ excitation
  pub decoded_room : decode_room (voice_of file) ≤ length decoded
  pub held : Held (voice_of file) decoded at.front

-- How far the periods are taken then, and the buffers before and after: 'for the taken periods the sizes, the row of order values q each
-- as stored, and the excitation', and 'Each taken period of size above 0 is decoded to its front, over the one before'.
pub record Takes (natural : Bool) (file : List ℕ) (d : DiphoneVoice) (u : Unit) (end_before : ℕ) (marks : List ℕ) (at r : Progress)
    (sizes₀ sizes₁ rows₀ rows₁ excitation₀ excitation₁ decoded₀ decoded₁ : List ℕ) : Type 0 where
  pub taken : r.taken ≡ at.taken + length (unit_taken natural (voice_of file) u end_before marks at)
  pub mark : r.mark ≡ last_of at.mark (unit_share natural u end_before marks at).marks
  pub left : let ms = drop at.taken (elements 4 marks) in drop r.taken (elements 4 marks) ≡ drop (share_count natural u ms) ms
  pub sizes : sizes₁ ≡ sets sizes₀ (4 * at.taken) (flat (bytes_of 4) (sizes_of (unit_taken natural (voice_of file) u end_before marks at)))
  pub rows : rows₁ ≡ sets rows₀ (2 * (d.header.order * at.taken)) (flat (bytes_of 2) (rows_of (unit_taken natural (voice_of file) u end_before marks at)))
  pub excitation : excitation₁ ≡ sets excitation₀ at.mark (excitation_of (unit_taken natural (voice_of file) u end_before marks at))
  pub decoded : decoded₁ ≡ decoded_over (voice_of file) decoded₀ (unit_taken natural (voice_of file) u end_before marks at)
  pub held : Held (voice_of file) decoded₁ r.front

-- ---- one period

-- an open voice has period p, and its samples fit the buffers, of which the excitation has so many bytes
pub record CanTakeSamples (file : List ℕ) (d : DiphoneVoice) (p size : ℕ) (at : Progress) (excitation : ℕ) (decoded : List ℕ) : Type 0 where
  pub opened : IsOpen file d
  pub inside : p < d.header.frames
  pub excitation_room : at.mark + size ≤ excitation
  pub decoded_room : decode_room (voice_of file) ≤ length decoded
  pub held : Held (voice_of file) decoded at.front

-- the buffers before and after, and the period that the decode buffer's front has then
pub record TakesSamples (file : List ℕ) (p size : ℕ) (at : Progress) (front : ℕ) (excitation₀ excitation₁ decoded₀ decoded₁ : List ℕ) : Type 0 where
  pub excitation : excitation₁ ≡ sets excitation₀ at.mark (centred size (source_of (voice_of file) p))
  pub decoded : decoded₁ ≡ pick (ltb 0 size) (over (decoded_of (voice_of file) p) decoded₀) decoded₀
  pub held : Held (voice_of file) decoded₁ front

-- the same with its size and its row
pub record CanTakePeriod (file : List ℕ) (d : DiphoneVoice) (p size : ℕ) (at : Progress) (sizes rows excitation : ℕ) (decoded : List ℕ) : Type 0 where
  pub low : size < 2 ^ 32
  pub sizes_room : 4 * at.taken + 4 ≤ sizes
  pub rows_room : 2 * (d.header.order * at.taken) + 2 * d.header.order ≤ rows
  pub samples : CanTakeSamples file d p size at excitation decoded

pub record TakesPeriod (file : List ℕ) (d : DiphoneVoice) (p size : ℕ) (at : Progress) (front : ℕ)
    (sizes₀ sizes₁ rows₀ rows₁ excitation₀ excitation₁ decoded₀ decoded₁ : List ℕ) : Type 0 where
  pub sizes : sizes₁ ≡ sets sizes₀ (4 * at.taken) (bytes_of 4 size)
  pub rows : rows₁ ≡ sets rows₀ (2 * (d.header.order * at.taken)) (flat (bytes_of 2) (row_of (voice_of file) p))
  pub samples : TakesSamples file p size at front excitation₀ excitation₁ decoded₀ decoded₁

-- What a voice that opens shows.
use Rattle.std.specs.Prelude.{None, Option, Some}
use mathlib.Core.Path.{◌≡◌, refl, ◌∙◌}
use mathlib.Core.Bool.{true, false}
use mathlib.Core.List.{List}
use Prim.Native.Nat.{ℕ, ◌≤◌}
use borrow.Author.Tests.{leb-true}
use Rattle.base.specs.Text.{ascii}
use Rattle.base.proofs.ListLaws.{and_left, and_right, every-at, failing-none, failing-passed, failing-here}
use Rattle.refusal.specs.declared.Refusal.{Refusal}
use Rattle.refusal.specs.declared.Refusal.TheVariants.{SectionCut, NotDiphone}
use Rattle.refusal.specs.Number.{answer_of}
use Rattle.container.specs.Sections.{has_magic, sections, is_diphone, find, span_of, bytes_at}
use Rattle.voice.specs.declared.DiphoneVoice.{DiphoneVoice}
use Rattle.voice.specs.Header.{in_scale, good_numbers, good_scales, good_header}
use Rattle.voice.specs.Voice.{Voice, voice_at, voice_of, places_of}
use Rattle.voice.specs.Opening.{has_needed, rising_in, good_tables, within_frames, distinct, good_index, opening_refusal, open_refusal, answer_opening, open_of, open_number}

-- 1 to 7 pass
pub record Passed (file : List ℕ) : Type 0 where
  pub magic : has_magic file ≡ true
  pub whole : (sections file).whole ≡ true
  pub backend : is_diphone file ≡ true
  pub needed : has_needed (sections file).list ≡ true
  pub header : good_header (bytes_at file (span_of (find (ascii "sts.header") (sections file).list))) ≡ true
  pub tables : good_tables (voice_of file) ≡ true
  pub index : good_index file ≡ true

pub passed : (file : List ℕ) → opening_refusal file ≡ None → Passed file
unfolding opening_refusal
passed file e =
    let a = failing-none _ _ _ e in
    let b = failing-none _ _ _ a.1 in
    let c = failing-none _ _ _ b.1 in
    let d = failing-none _ _ _ c.1 in
    let h = failing-none _ _ _ d.1 in
    let t = failing-none _ _ _ h.1 in
    let i = failing-none _ _ _ t.1 in
    record { magic = a.0; whole = b.0; backend = c.0; needed = d.0; header = h.0; tables = t.0; index = i.0 }

-- the order: a section cut short is found before the backend is looked at, and that before what is missing
pub cut-second : (file : List ℕ) → has_magic file ≡ true → (sections file).whole ≡ false → opening_refusal file ≡ Some SectionCut
unfolding opening_refusal
cut-second file m w = failing-passed _ _ _ m ∙ failing-here _ _ _ w

pub backend-third : (file : List ℕ) → has_magic file ≡ true → (sections file).whole ≡ true → is_diphone file ≡ false → opening_refusal file ≡ Some NotDiphone
unfolding opening_refusal
backend-third file m w b = failing-passed _ _ _ m ∙ failing-passed _ _ _ w ∙ failing-here _ _ _ b

-- an opening's number is that of what refuses it
pub opening-number : (d : DiphoneVoice) (o : Option Refusal) → open_number (answer_opening d o) ≡ answer_of o
opening-number d None = refl
opening-number d (Some r) = refl

pub open-number : (file : List ℕ) (n : ℕ) → open_number (open_of file n) ≡ answer_of (open_refusal file n)
unfolding open_of
open-number file n = opening-number (places_of file) (open_refusal file n)

pub record Opens (v : Voice) : Type 0 where
  pub some_frames : 1 ≤ v.header.frames
  pub order_low : v.header.order ≤ 32
  pub least_in : in_scale v.header.coeff_min ≡ true
  pub range_in : in_scale v.header.coeff_range ≡ true
  pub offsets_rise : rising_in v.offsets v.header.frames ≡ true
  pub names_differ : distinct v.entries ≡ true
  pub entries_end : within_frames v.header.frames v.entries ≡ true

pub opens : (file : List ℕ) → opening_refusal file ≡ None → Opens (voice_of file)
unfolding good_numbers good_scales good_header good_tables good_index voice_of voice_at places_of
opens file e =
    let p = passed file e in
    let numbers = every-at _ p.header 1 in
    let scales = every-at _ p.header 2 in
    record {
      some_frames = leb-true 1 _ (every-at _ numbers 0);
      order_low = leb-true _ 32 (every-at _ numbers 1);
      least_in = and_left _ _ scales;
      range_in = and_right (in_scale (voice_of file).header.coeff_min) _ scales;
      offsets_rise = every-at _ p.tables 4;
      names_differ = every-at _ p.index 3;
      entries_end = every-at _ p.index 4;
    }

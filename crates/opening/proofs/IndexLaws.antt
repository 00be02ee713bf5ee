-- The checks of a voice's index, by its place in the file.
use Rattle.std.specs.Prelude.{Err, None, Ok, Option, Some}
use mathlib.Core.Path.{◌≡◌, refl, sym, ap, ◌∙◌}
use mathlib.Core.Bool.{Bool, true, false, not}
use mathlib.Core.List.{List, [], ◌∷◌}
use Prim.Native.Nat.{ℕ, ◌+◌, ◌/◌, ◌^◌, ◌≤◌, ◌<◌}
use native.Mathlib.Omega.{arith}
use borrow.Author.Tests.{leb-true, le-leb, lt-leb}
use lib.Dec.{leb}
use lib.ListN.{length}
use Rattle.base.specs.Choice.{pick}
use Rattle.base.specs.Text.{ascii}
use Rattle.base.specs.Lists.{every, first_failing}
use Rattle.base.specs.Buffers.{over, unless_refused}
use Rattle.base.specs.declared.Span.{Span}
use Rattle.base.proofs.ListLaws.{every-at, length_part}
use Rattle.container.specs.Sections.{find, sections, span_of, bytes_at}
use Rattle.container.proofs.SectionLaws.{section-within}
use Rattle.refusal.specs.declared.Refusal.{Refusal}
use Rattle.refusal.specs.declared.Refusal.TheVariants.{ShortBuffer}
use Rattle.voice.specs.declared.DiphoneVoice.{DiphoneVoice}
use Rattle.voice.specs.Voice.{Voice, entries_from, sort, places_of, voice_at, voice_of}
use Rattle.voice.specs.Opening.{good_index, is_empty, distinct, within_frames, IsOpen, opening_refusal, open_refusal, open_of, answer_opening, index_fits, index_bytes, index_after}
use Rattle.voice.proofs.OpeningLaws.{passed}
use Rattle.voice.proofs.TableLaws.{voice-is}
use Rattle.index.specs.Index.{Indexable, index_of}
use Rattle.index.proofs.FilledLaws.{index-bytes}
use Rattle.index.proofs.SortLaws.{length-walk}

abbrev pub index_span : List ℕ → Span
index_span file = span_of (find (ascii "dip.index") (sections file).list)

-- with the entries' bytes given
abbrev pub index_tests : ℕ → DiphoneVoice → List ℕ → List Bool
index_tests len d bs =
    let i = entries_from d.count bs 0 in
    leb 4 len ∷ i.whole ∷ not (is_empty i.list) ∷ distinct i.list ∷ within_frames d.header.frames i.list ∷ []

module _ (file : List ℕ) (d : DiphoneVoice) (p : d ≡ places_of file) where
  pub index-are : (s : Span) (bs : List ℕ) → s ≡ index_span file → bs ≡ bytes_at file d.entries → good_index file ≡ every (index_tests s.len d bs)
  unfolding good_index
  index-are s bs e q = sym (ap (λ (b : List ℕ). every (index_tests s.len d b)) q ∙ ap (λ (t : Span). every (index_tests t.len d (bytes_at file d.entries))) e ∙ ap (λ (x : DiphoneVoice). every (index_tests (index_span file).len x (bytes_at file x.entries))) p)

  pub entries-within : 4 ≤ (index_span file).len → d.entries.at + d.entries.len ≤ length file
  unfolding places_of
  entries-within h = let w = section-within file (ascii "dip.index") in rw p (omega arith)

-- what an open voice shows of its index
module _ (file : List ℕ) (d : DiphoneVoice) (o : IsOpen file d) where
  tests : every (index_tests (index_span file).len d (bytes_at file d.entries)) ≡ true
  tests = sym (index-are file d o.places (index_span file) (bytes_at file d.entries) refl refl) ∙ (passed file o.fit).index

  pub open-within : d.entries.at + d.entries.len ≤ length file
  open-within = entries-within file d o.places (leb-true 4 _ (every-at _ tests 0))

  pub open-whole : (entries_from d.count (bytes_at file d.entries) 0).whole ≡ true
  open-whole = every-at _ tests 1

  pub entries-are : (voice_of file).entries ≡ (entries_from d.count (bytes_at file d.entries) 0).list
  unfolding voice_at
  entries-are = ap (λ (v : Voice). v.entries) (voice-is file d o.places)

  -- as many entries as the count says
  pub entries-count : length (voice_of file).entries ≡ d.count
  entries-count = ap length entries-are ∙ length-walk (bytes_at file d.entries) d.count 0 open-whole

pub none-fails : first_failing {C = Refusal} [] ≡ None
unfolding first_failing
none-fails = refl

-- an answer that is a voice: the file opens
pub open-answer : (file : List ℕ) (d : DiphoneVoice) → answer_opening (places_of file) (opening_refusal file) ≡ Ok d → IsOpen file d
open-answer file d e = by (opening_refusal file) refl e
  where
    by : (r : Option Refusal) → opening_refusal file ≡ r → answer_opening (places_of file) r ≡ Ok d → IsOpen file d
    by None q e = record { places = let s : places_of file ≡ d = cc in sym s; fit = q }
    by (Some c) q e = absurd (let z : ◌≡◌ {A = ℕ} 0 1 = cc in omega arith)

-- an answer that is a refusal is the opening's
pub refused-answer : (file : List ℕ) (c : Refusal) → answer_opening (places_of file) (opening_refusal file) ≡ Err c → opening_refusal file ≡ Some c
refused-answer file c e = by (opening_refusal file) e
  where
    by : (r : Option Refusal) → answer_opening (places_of file) r ≡ Err c → r ≡ Some c
    by None e = absurd (let z : ◌≡◌ {A = ℕ} 0 1 = cc in omega arith)
    by (Some x) e = let s : x ≡ c = cc in ap (λ (y : Refusal). Some y) s

-- ---- the opening's answer, and the index buffer after it

module _ (file : List ℕ) (c : Refusal) (e : opening_refusal file ≡ Some c) where
  pub refused-open : (n : ℕ) → open_of file n ≡ Err c
  unfolding open_of open_refusal
  refused-open n = rw e

  pub refused-index : (old : List ℕ) → index_after file old ≡ old
  unfolding index_after open_refusal
  refused-index old = rw e

module _ (file : List ℕ) (d : DiphoneVoice) (o : IsOpen file d) where
  pub fits_by : (n : ℕ) → d.count ≤ n / 8 → index_fits (voice_of file) n ≡ true
  unfolding index_fits
  fits_by n h = let k = entries-count file d o in rw k (le-leb d.count (n / 8) h)

  pub fits_not : (n : ℕ) → n / 8 < d.count → index_fits (voice_of file) n ≡ false
  unfolding index_fits
  fits_not n h = let k = entries-count file d o in rw k (lt-leb d.count (n / 8) h)

  pub by-fit : (n : ℕ) (t : Bool) → index_fits (voice_of file) n ≡ t → open_refusal file n ≡ pick t None (Some ShortBuffer)
  unfolding open_refusal
  by-fit n t e = rw (o.fit, e)

  pub short-open : (old : List ℕ) → length old / 8 < d.count → (Err ShortBuffer ≡ open_of file (length old)) × (old ≡ index_after file old)
  unfolding open_of index_after
  short-open old h =
      let e = by-fit (length old) false (fits_not (length old) h) in
      (sym (ap (answer_opening (places_of file)) e), sym (ap (λ (r : Option Refusal). unless_refused r (index_bytes (voice_of file)) old) e))

  pub filled-open : (old : List ℕ) → d.count ≤ length old / 8 → (Ok d ≡ open_of file (length old)) × (over (index_bytes (voice_of file)) old ≡ index_after file old)
  unfolding open_of index_after
  filled-open old h =
      let e = by-fit (length old) true (fits_by (length old) h) in
      (ap (λ (x : DiphoneVoice). Ok x) o.places ∙ sym (ap (answer_opening (places_of file)) e), sym (ap (λ (r : Option Refusal). unless_refused r (index_bytes (voice_of file)) old) e))

  -- the index has room for the entries
  pub able : (bs : List ℕ) (n : ℕ) → bs ≡ bytes_at file d.entries → index_fits (voice_of file) n ≡ true → length file < 2 ^ 63 → Indexable bs d.count d.entries.at n
  unfolding index_fits
  able bs n e f h =
      let w = open-within file d o in
      let l : length bs ≡ d.entries.len = ap length e ∙ length_part file d.entries.at d.entries.len w in
      let k = entries-count file d o in
      let r = leb-true (length (voice_of file).entries) (n / 8) f in
      record { whole = ap (λ (b : List ℕ). (entries_from d.count b 0).whole) e ∙ open-whole file d o; within = omega arith; room = omega arith }

  -- what is filled in are the bytes of the sorted index
  pub filled-bytes : (bs : List ℕ) → bs ≡ bytes_at file d.entries → index_of d.entries.at (sort (entries_from d.count bs 0).list) ≡ index_bytes (voice_of file)
  filled-bytes bs e =
      ap (λ (b : List ℕ). index_of d.entries.at (sort (entries_from d.count b 0).list)) e
      ∙ sym (ap (λ (v : Voice). index_bytes v) (voice-is file d o.places) ∙ index-bytes file d)

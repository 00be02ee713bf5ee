-- What `diphone_open` answers and leaves, case by case.
use Rattle.std.specs.Prelude.{Err, None, Ok, Option, Some}
use mathlib.Core.Path.{◌≡◌, refl, sym, ap, ◌∙◌}
use mathlib.Core.Bool.{Bool, true, false}
use mathlib.Core.List.{List, ◌++◌, append_assoc}
use Prim.Native.Nat.{ℕ, ◌≤◌, ◌<◌}
use native.Mathlib.Omega.{arith}
use borrow.Author.Tests.{le-leb, lt-leb, leb-true}
use lib.ListN.{length, take, length-append}
use lib.Seq.{sets, length-take-le}
use Rattle.base.specs.Choice.{pick}
use Rattle.base.specs.Text.{ascii}
use Rattle.base.specs.Lists.{or_next}
use Rattle.base.specs.Buffers.{over, unless_refused}
use Rattle.base.specs.Bytes.{bytes_of}
use Rattle.base.proofs.ListLaws.{next-none, every-at}
use Rattle.base.proofs.BufferLaws.{over-more}
use Rattle.base.proofs.ByteLaws.{length-bytes_of}
use Rattle.container.specs.Sections.{find, sections, span_of, bytes_at}
use Rattle.refusal.specs.declared.Refusal.{Refusal}
use Rattle.refusal.specs.declared.Refusal.TheVariants.{ShortBuffer}
use Rattle.refusal.specs.Number.{answer_of}
use Rattle.voice.specs.declared.DiphoneVoice.{DiphoneVoice}
use Rattle.voice.specs.Header.{good_header}
use Rattle.voice.specs.Voice.{places_of, voice_of}
use Rattle.voice.specs.Periods.{decode_room}
use Rattle.voice.specs.Opening.{IsOpen, opening_refusal, index_fits, open_refusal, answer_opening, open_of, index_bytes, index_after}
use Rattle.voice.proofs.OpeningLaws.{passed}
use Rattle.opening.proofs.IndexLaws.{entries-count}
use Rattle.c_open.specs.Open.{record_of, refusal_of_open, index_left, record_left}

-- the answer, and the index and the record afterwards
abbrev pub Ends : List ℕ → List ℕ → List ℕ → ℕ → List ℕ → List ℕ → Type 0
Ends file index record' r new_index new_record =
    (r ≡ answer_of (refusal_of_open file (length index) (length record')))
    × ((new_index ≡ index_left file index (length record')) × (new_record ≡ record_left file (length index) record'))

-- ---- a record that is too short

-- 1 to 7, else 13, whatever the index has room for
short-by : (x : Option Refusal) (t : Bool) → or_next (or_next x (pick t None (Some ShortBuffer))) (Some ShortBuffer) ≡ or_next x (Some ShortBuffer)
short-by None true = refl
short-by None false = refl
short-by (Some c) t = refl

-- which is a refusal
left_by : {x : Option Refusal} (y : Option Refusal) (new old : List ℕ) → x ≡ or_next y (Some ShortBuffer) → old ≡ unless_refused x new old
left_by None new old e = rw e
left_by (Some c) new old e = rw e

module _ (file index rec : List ℕ) (short : length rec < 56) where
  refusal-short : refusal_of_open file (length index) (length rec) ≡ or_next (opening_refusal file) (Some ShortBuffer)
  unfolding refusal_of_open open_refusal
  refusal-short = let f = lt-leb 56 (length rec) short in rw f (short-by (opening_refusal file) (index_fits (voice_of file) (length index)))

  pub short-ends : {r : ℕ} → r ≡ answer_of (or_next (opening_refusal file) (Some ShortBuffer)) → Ends file index rec r index rec
  short-ends q =
      let e = refusal-short in
      (q ∙ sym (ap answer_of e), (left_by (opening_refusal file) (index_bytes (voice_of file)) index e, left_by (opening_refusal file) (record_of file) rec e))

-- ---- a record that is long enough

next-none-is : (x : Option Refusal) → or_next x None ≡ x
next-none-is None = refl
next-none-is (Some c) = refl

module _ (file index rec : List ℕ) (long : 56 ≤ length rec) where
  refusal-long : refusal_of_open file (length index) (length rec) ≡ open_refusal file (length index)
  unfolding refusal_of_open
  refusal-long = let f = le-leb 56 (length rec) long in rw f (next-none-is (open_refusal file (length index)))

  pub long-ends : {r : ℕ} {new_index new_record : List ℕ} → r ≡ answer_of (open_refusal file (length index)) → new_index ≡ index_after file index
      → new_record ≡ unless_refused (open_refusal file (length index)) (record_of file) rec → Ends file index rec r new_index new_record
  unfolding index_after
  long-ends q i n =
      let e = sym refusal-long in
      (q ∙ ap answer_of e, (i ∙ ap (λ (x : Option Refusal). unless_refused x (index_bytes (voice_of file)) index) e, n ∙ ap (λ (x : Option Refusal). unless_refused x (record_of file) rec) e))

opening-none : (file : List ℕ) (n : ℕ) → open_refusal file n ≡ None → opening_refusal file ≡ None
unfolding open_refusal
opening-none file n q = (next-none (opening_refusal file) _ q).0

-- an opening that answers a voice
pub opened-by : (file : List ℕ) (n : ℕ) (d : DiphoneVoice) → open_of file n ≡ Ok d → IsOpen file d × (open_refusal file n ≡ None)
unfolding open_of
opened-by file n d e = by (open_refusal file n) refl e
  where
    by : (r : Option Refusal) → open_refusal file n ≡ r → answer_opening (places_of file) r ≡ Ok d → IsOpen file d × (open_refusal file n ≡ None)
    by None q e = (record { places = let s : places_of file ≡ d = cc in sym s; fit = opening-none file n q }, q)
    by (Some c) q e = absurd (let z : ◌≡◌ {A = ℕ} 0 1 = cc in omega arith)

-- an opening that answers a refusal
pub refused-by : (file : List ℕ) (n : ℕ) (c : Refusal) → open_of file n ≡ Err c → open_refusal file n ≡ Some c
unfolding open_of
refused-by file n c e = by (open_refusal file n) e
  where
    by : (r : Option Refusal) → answer_opening (places_of file) r ≡ Err c → r ≡ Some c
    by None e = absurd (let z : ◌≡◌ {A = ℕ} 0 1 = cc in omega arith)
    by (Some x) e = let s : x ≡ c = cc in ap (λ (y : Refusal). Some y) s

-- ---- the record

abbrev header_of : List ℕ → List ℕ
header_of file = bytes_at file (span_of (find (ascii "sts.header") (sections file).list))

module _ (file : List ℕ) (d : DiphoneVoice) (o : IsOpen file d) where
  pub header-long : (h : List ℕ) → h ≡ header_of file → length (take 40 h) ≡ 40
  unfolding good_header
  header-long h e = length-take-le 40 h (rw e (leb-true 40 _ (every-at _ (passed file o.fit).header 0)))

  pub record-written : (h old : List ℕ) (room : ℕ) → h ≡ header_of file → room ≡ decode_room (voice_of file) → 56 ≤ length old
      → sets (sets (over (take 40 h) old) 40 (bytes_of 8 d.count)) 48 (bytes_of 8 room) ≡ over (record_of file) old
  unfolding record_of
  record-written h old room e q l =
      let k = header-long h e in
      let a = bytes_of 8 d.count in
      let la : length a ≡ 8 = length-bytes_of 8 d.count in
      let lb : length (bytes_of 8 room) ≡ 8 = length-bytes_of 8 room in
      let first : sets (over (take 40 h) old) (length (take 40 h)) a ≡ over (take 40 h ++ a) old = over-more (take 40 h) a old (omega (arith, k, la)) in
      let len : length (take 40 h ++ a) ≡ 48 = length-append (take 40 h) a ∙ omega (arith, k, la) in
      let second : sets (over (take 40 h ++ a) old) (length (take 40 h ++ a)) (bytes_of 8 room) ≡ over ((take 40 h ++ a) ++ bytes_of 8 room) old = over-more (take 40 h ++ a) (bytes_of 8 room) old (omega (arith, len, lb)) in
      ap (λ (s : List ℕ). sets s 48 (bytes_of 8 room)) (rw k at first)
      ∙ rw len at second
      ∙ ap (λ (s : List ℕ). over s old) (append_assoc (take 40 h) a (bytes_of 8 room))
      ∙ rw (e, q, entries-count file d o)

-- The entry of a pair: the cluster rule, an open voice's entries, and the names tried in turn.
use Rattle.std.specs.Prelude.{None, Option, Some}
use Rattle.std.specs.Option.{MatchOption}
use mathlib.Core.Path.{◌≡◌, refl, sym, ap, subst, ◌∙◌}
use mathlib.Core.Bool.{Bool, true, false, ◌&&◌, not, true≢false}
use mathlib.Core.List.{List, [], ◌∷◌}
use Prim.Native.Nat.{ℕ, zero, suc, ◌+◌, ◌≤◌}
use native.Mathlib.Omega.{arith}
use lib.Dec.{eqb}
use lib.ListN.{length, get_or}
use Rattle.base.specs.Choice.{pick}
use Rattle.base.specs.Lists.{or_next}
use Rattle.base.specs.Text.{ascii}
use Rattle.base.specs.Bytes.{Bytes}
use Rattle.base.proofs.ListLaws.{every-at, length_part}
use Rattle.base.proofs.BoundLaws.{Each, nil, cons, below-part}
use Rattle.container.specs.Sections.{bytes_at}
use Rattle.text.specs.Names.{same, among}
use Rattle.text.proofs.NameLaws.{same-eq}
use Rattle.phoneset.specs.declared.Vc.{Vc}
use Rattle.phoneset.specs.Phones.{vowels, vc, is_vowel, is_plus, is_minus}
use Rattle.voice.specs.declared.DiphoneVoice.{DiphoneVoice}
use Rattle.voice.specs.declared.VoiceHeader.{VoiceHeader}
use Rattle.voice.specs.Voice.{Entry, Placed, Voice, voice_at, voice_of, places_of, entry_at, entries_from, lookup, sort, sorted}
use Rattle.voice.specs.Opening.{IsOpen, end_period, distinct}
use Rattle.voice.specs.Extends.{Stands, here, there}
use Rattle.voice.proofs.OpeningLaws.{passed, opens}
use Rattle.voice.proofs.TableLaws.{header_is}
use Rattle.voice.proofs.EntryLaws.{lookup-finds, stands-within}
use Rattle.index.specs.declared.EntryPeriods.{EntryPeriods}
use Rattle.index.specs.Index.{Filled, periods_of, found_of, first_of}
use Rattle.index.proofs.FilledLaws.{empty-count, first-within}
use Rattle.index.proofs.SortLaws.{Stored, each-stored, each-sort}
use Rattle.sparse.specs.declared.Spacing.{Spacing}
use Rattle.sparse.specs.Sparse.{SparseIndex}
use Rattle.opening.proofs.IndexLaws.{index_span, index-are, open-whole, entries-are}
use Rattle.sheet.specs.declared.Segment.{Segment}
use Rattle.sheet.specs.Sheet.{SegmentRead}
use Rattle.sheet.specs.Followers.{name_of}
use Rattle.units.specs.Asked.{Named}
use Rattle.units.specs.Selecting.{fold_name, folded_name, folded_segment, folded, in_cluster, pair_name, plain_name, first_tried, or_else, tried_entry, entry_of}

-- ---- folding, and the cluster rule

-- `ah` and `aa` are both vowels
both-vowels : vc (ascii "aa") ≡ vc (ascii "ah")
unfolding vc vowels among same
both-vowels = refl

vc-folded : (fold : Bool) (n : List ℕ) → vc (folded_name fold n) ≡ vc n
unfolding fold_name
vc-folded false n = refl
vc-folded true n = by (same n (ascii "ah")) refl
  where
    by : (t : Bool) → same n (ascii "ah") ≡ t → vc (pick t (ascii "aa") n) ≡ vc n
    by false e = refl
    by true e = both-vowels ∙ sym (ap vc (same-eq n (ascii "ah") e))

name-folded : (fold : Bool) (ss : List SegmentRead) (k : ℕ) → name_of (folded fold ss) k ≡ folded_name fold (name_of ss k)
unfolding folded name_of fold_name same
name-folded false ss k = refl
name-folded true ss zero = refl
name-folded true [] (suc k) = refl
name-folded true (s ∷ ss) (suc zero) = refl
name-folded true (s ∷ ss) (suc (suc k)) = name-folded true ss (suc k)

pub cluster-folded : (fold : Bool) (ss : List SegmentRead) (s : SegmentRead) → in_cluster (folded fold ss) (folded_segment fold s) ≡ in_cluster ss s
unfolding in_cluster is_vowel
cluster-folded fold ss s =
    ap (λ (v : Vc). not (is_plus v) && is_minus (vc (name_of (folded fold ss) s.follower))) (vc-folded fold s.name)
    ∙ ap (λ (v : Vc). not (is_plus (vc s.name)) && is_minus v) (ap vc (name-folded fold ss s.follower) ∙ vc-folded fold (name_of ss s.follower))

-- the rule, asked of the names' bytes
module _ (ss : List SegmentRead) (s : SegmentRead) (bs : List ℕ) (b : bs ≡ s.name) (t : Bool) (v : t ≡ is_vowel bs) where
  pub cluster-vowel : t ≡ true → in_cluster ss s ≡ false
  unfolding in_cluster
  cluster-vowel e = let h : is_vowel s.name ≡ true = ap is_vowel (sym b) ∙ sym v ∙ e in rw h

  pub cluster-next : t ≡ false → (ns : List ℕ) → ns ≡ name_of ss s.follower → (w : Vc) → w ≡ vc ns → in_cluster ss s ≡ is_minus w
  unfolding in_cluster
  cluster-next e ns n w f =
      let h : is_vowel s.name ≡ false = ap is_vowel (sym b) ∙ sym v ∙ e in
      let q : vc (name_of ss s.follower) ≡ w = ap vc (sym n) ∙ sym f in
      rw (h, q)

-- ---- a segment's name

pub name-short : {sheet : List ℕ} {s : Segment} → Named sheet s → {bs : List ℕ} → bs ≡ bytes_at sheet s.name → length bs ≤ 32
name-short {sheet} {s} n e = let l = ap length e ∙ length_part sheet s.name.at s.name.len n.within in omega (arith, l, n.short)

-- ---- the entries of an open voice, by their bytes

module _ (file : List ℕ) (d : DiphoneVoice) (o : IsOpen file d) (bs : List ℕ) (b : bs ≡ bytes_at file d.entries) where
  abbrev v : Voice
  v = voice_of file

  pub whole-at : (entries_from d.count bs 0).whole ≡ true
  whole-at = ap (λ (l : List ℕ). (entries_from d.count l 0).whole) b ∙ open-whole file d o

  pub entries_at : (entries_from d.count bs 0).list ≡ v.entries
  entries_at = ap (λ (l : List ℕ). (entries_from d.count l 0).list) b ∙ sym (entries-are file d o)

  pub distinct-at : distinct (entries_from d.count bs 0).list ≡ true
  distinct-at = ap distinct entries_at ∙ (opens file o.fit).names_differ

  pub some_at : 1 ≤ d.count
  some_at =
      let t = sym (index-are file d o.places (index_span file) bs refl b) ∙ (passed file o.fit).index in
      by d.count (ap not (sym (empty-count bs d.count 0 whole-at)) ∙ every-at _ t 2)
    where
      by : (n : ℕ) → not (eqb n 0) ≡ true → 1 ≤ n
      by zero e = absurd (true≢false (sym e))
      by (suc n) e = omega arith

  pub found_at : (name : List ℕ) {r : Option EntryPeriods} → r ≡ found_of (lookup name (entries_from d.count bs 0).list) → r ≡ found_of (lookup name v.entries)
  found_at name e = e ∙ ap (λ (ps : List Placed). found_of (lookup name ps)) entries_at

  pub first-at : {r : EntryPeriods} → r ≡ periods_of (first_of (sort (entries_from d.count bs 0).list)) → r ≡ periods_of (first_of (sorted v))
  unfolding sorted
  first-at e = e ∙ ap (λ (ps : List Placed). periods_of (first_of (sort ps))) entries_at

  pub filled_at : {index : List ℕ} → Filled (bytes_at file d.entries) d.count d.entries.at index → Filled bs d.count d.entries.at index
  filled_at {index} f = subst (λ (l : List ℕ). Filled l d.count d.entries.at index) (sym b) f

  pub sparse-at : {by : Spacing} {index : List ℕ} → SparseIndex (bytes_at file d.entries) d.count by index → SparseIndex bs d.count by index
  sparse-at {by} {index} s = subst (λ (l : List ℕ). SparseIndex l d.count by index) (sym b) s

-- ---- the names tried in turn

module _ (v : Voice) where
  abbrev named : List ℕ → Option Entry
  named n = lookup n v.entries

  else-next : (a b : Option Entry) (d : Entry) → or_else (or_next a b) d ≡ or_else a (or_else b d)
  else-next None b d = refl
  else-next (Some x) b d = refl

  found-entry : (o : Option Entry) (x : Entry) (q : EntryPeriods) → found_of o ≡ Some q → periods_of (or_else o x) ≡ q
  found-entry None x q e = absurd (let z : ◌≡◌ {A = ℕ} 0 1 = cc in omega arith)
  found-entry (Some y) x q e = cc

  missing-entry : (o : Option Entry) (x : Entry) → found_of o ≡ None → or_else o x ≡ x
  missing-entry None x e = refl
  missing-entry (Some y) x e = absurd (let z : ◌≡◌ {A = ℕ} 0 1 = cc in omega arith)

  same_next : (a : Option Entry) → or_next a a ≡ a
  same_next None = refl
  same_next (Some x) = refl

  found-next : (a b : Option Entry) (q : EntryPeriods) → found_of a ≡ Some q → Some q ≡ found_of (or_next a b)
  found-next None b q e = absurd (let z : ◌≡◌ {A = ℕ} 0 1 = cc in omega arith)
  found-next (Some x) b q e = sym e

  missing-next : (a b : Option Entry) → found_of a ≡ None → or_next a b ≡ b
  missing-next None b e = refl
  missing-next (Some x) b e = absurd (let z : ◌≡◌ {A = ℕ} 0 1 = cc in omega arith)

  -- the cluster's name where the rule says so, then the plain one
  tried : (ss : List SegmentRead) (left right : SegmentRead) (t : Bool) → in_cluster ss left ≡ t
      → tried_entry v ss left right ≡ or_next (named (pair_name t left.name right.name)) (named (pair_name false left.name right.name))
  unfolding first_tried
  tried ss left right true e = rw e refl
  tried ss left right false e = rw e refl

-- ---- an entry that is selected is one of the voice's

module _ (v : Voice) (P : Entry → Type 0) (found : (n : List ℕ) (e : Entry) → lookup n v.entries ≡ Some e → P e) (first : P (first_of (sorted v))) where
  either : (n : List ℕ) (x : Entry) → P x → P (or_else (lookup n v.entries) x)
  either n x h = by (lookup n v.entries) refl
    where
      by : (o : Option Entry) → lookup n v.entries ≡ o → P (or_else o x)
      by None e = h
      by (Some y) e = found n y e

  selected-is : (ss : List SegmentRead) (left right : SegmentRead) → P (entry_of v ss left right)
  unfolding entry_of
  selected-is ss left right =
      subst P (sym (else-next v (lookup (first_tried ss left right) v.entries) (lookup (plain_name left.name right.name) v.entries) (first_of (sorted v))))
      (either (first_tried ss left right) _ (either (plain_name left.name right.name) _ first))

-- it ends within the frames
module _ (file : List ℕ) (d : DiphoneVoice) (o : IsOpen file d) where
  abbrev frames : ℕ
  frames = (voice_of file).header.frames

  named-within : (n : List ℕ) (e : Entry) → lookup n (voice_of file).entries ≡ Some e → end_period e ≤ frames
  named-within n e p = stands-within frames (voice_of file).entries (opens file o.fit).entries_end e (lookup-finds n (voice_of file).entries e p).stands

  first-entry-within : end_period (first_of (sorted (voice_of file))) ≤ frames
  unfolding sorted
  first-entry-within = first-within frames (voice_of file).entries (opens file o.fit).entries_end

  pub selected-within : (ss : List SegmentRead) (left right : SegmentRead) → end_period (entry_of (voice_of file) ss left right) ≤ d.header.frames
  selected-within ss left right =
      subst (λ (h : VoiceHeader). end_period (entry_of (voice_of file) ss left right) ≤ h.frames) (header_is file d o.places)
      (selected-is (voice_of file) (λ e. end_period e ≤ frames) named-within first-entry-within ss left right)

-- 'two halves u8': each has at most 255 periods
abbrev pub ShortHalves : EntryPeriods → Type 0
ShortHalves e = (e.first ≤ 255) × (e.second ≤ 255)

module _ (file : List ℕ) (bytes : Bytes file) where
  abbrev IsShort : Entry → Type 0
  IsShort e = ShortHalves (periods_of e)

  abbrev IsShortPlaced : Placed → Type 0
  IsShortPlaced p = IsShort p.entry

  stored_short : (bs : List ℕ) → Bytes bs → (p : Placed) → Stored bs p → IsShortPlaced p
  unfolding entry_at
  stored_short bs b p s =
      let n = get_or bs p.at 0 in
      let f = b (p.at + 3 + n) in
      let g = b (p.at + 4 + n) in
      subst IsShort (sym s.named) (omega arith, omega arith)

  each-short : (bs : List ℕ) → Bytes bs → (ps : List Placed) → Each (Stored bs) ps → Each IsShortPlaced ps
  each-short bs b [] nil = nil
  each-short bs b (p ∷ ps) (cons h k) = cons (stored_short bs b p h) (each-short bs b ps k)

  entries-short : Each IsShortPlaced (voice_of file).entries
  unfolding voice_of voice_at
  entries-short =
      let d = places_of file in
      let bs = bytes_at file d.entries in
      each-short bs (below-part 256 (omega arith) file d.entries.at d.entries.len bytes) _ (each-stored bs d.count 0)

  stands-short : (ps : List Placed) → Each IsShortPlaced ps → (e : Entry) → Stands e ps → IsShort e
  stands-short [] _ e x = elim x [ ]
  stands-short (p ∷ ps) (cons h k) e (here q) = subst IsShort (sym q) h
  stands-short (p ∷ ps) (cons h k) e (there m) = stands-short ps k e m

  first_short : IsShort (first_of (sorted (voice_of file)))
  unfolding sorted
  first_short = go (sort (voice_of file).entries) (each-sort IsShortPlaced (voice_of file).entries entries-short)
    where
      go : (ps : List Placed) → Each IsShortPlaced ps → IsShort (first_of ps)
      go [] k = (omega arith, omega arith)
      go (p ∷ ps) (cons h k) = h

  pub selected-short : (ss : List SegmentRead) (left right : SegmentRead) → ShortHalves (periods_of (entry_of (voice_of file) ss left right))
  selected-short = selected-is (voice_of file) IsShort (λ n e p. stands-short _ entries-short e (lookup-finds n (voice_of file).entries e p).stands) first_short

-- ---- the answers of a selection, by the bytes of the names

module _ (file : List ℕ) (d : DiphoneVoice) (o : IsOpen file d) (ss : List SegmentRead) (left right : SegmentRead) where
  abbrev Selected : EntryPeriods → Type 0
  Selected e = (e ≡ periods_of (entry_of (voice_of file) ss left right)) × (e.start + e.first + e.second ≤ d.header.frames)

  selected : (e : EntryPeriods) → periods_of (entry_of (voice_of file) ss left right) ≡ e → Selected e
  selected e q = subst Selected q (refl, selected-within file d o ss left right)

  pub selected-found : {e : EntryPeriods} → found_of (tried_entry (voice_of file) ss left right) ≡ Some e → Selected e
  unfolding entry_of
  selected-found {e} q = selected e (found-entry (voice_of file) (tried_entry (voice_of file) ss left right) _ e q)

  pub selected-first : found_of (tried_entry (voice_of file) ss left right) ≡ None → {e : EntryPeriods} → e ≡ periods_of (first_of (sorted (voice_of file))) → Selected e
  unfolding entry_of
  selected-first m {e} q = selected e (ap (λ (x : Entry). periods_of x) (missing-entry (voice_of file) (tried_entry (voice_of file) ss left right) _ m) ∙ sym q)

  -- one that is found, else the sorted first
  pub selected-or : {o : Option EntryPeriods} → o ≡ found_of (tried_entry (voice_of file) ss left right) → {P : Type 0} {e : EntryPeriods}
      → MatchOption o P (λ (x : EntryPeriods). e ≡ x) → (P → e ≡ periods_of (first_of (sorted (voice_of file)))) → Selected e
  selected-or {o = None} f m p = selected-first (sym f) (p m)
  selected-or {o = Some x} f m p = subst Selected (sym m) (selected-found (sym f))

module _ (file : List ℕ) (fold : Bool) (ss : List SegmentRead) (l r : SegmentRead) (ls rs : List ℕ) (el : ls ≡ l.name) (er : rs ≡ r.name) (t : Bool) (i : t ≡ in_cluster ss l) where
  -- by names as they stand in the sheet
  abbrev by_names : List ℕ → List ℕ → Bool → Option Entry
  by_names a b cluster = lookup (pair_name cluster (folded_name fold a) (folded_name fold b)) (voice_of file).entries

  abbrev by_name : Bool → Option Entry
  by_name = by_names ls rs

  abbrev tried_here : Option Entry
  tried_here = tried_entry (voice_of file) (folded fold ss) (folded_segment fold l) (folded_segment fold r)

  tried-is : (u : Bool) → t ≡ u → or_next (by_name u) (by_name false) ≡ tried_here
  tried-is u e =
      ap (λ (n : List ℕ). or_next (by_names n rs u) (by_names n rs false)) el
      ∙ ap (λ (n : List ℕ). or_next (by_names l.name n u) (by_names l.name n false)) er
      ∙ sym (tried (voice_of file) (folded fold ss) (folded_segment fold l) (folded_segment fold r) u (cluster-folded fold ss l ∙ sym i ∙ e))

  pub tried-plain : t ≡ false → {f : Option EntryPeriods} → f ≡ found_of (by_name false) → f ≡ found_of tried_here
  tried-plain e q = q ∙ ap found_of (sym (same_next (voice_of file) (by_name false)) ∙ tried-is false e)

  module _ (e : t ≡ true) where
    pub tried-found : {q : EntryPeriods} → found_of (by_name true) ≡ Some q → Some q ≡ found_of tried_here
    tried-found {q} f = found-next (voice_of file) (by_name true) (by_name false) q f ∙ ap found_of (tried-is true e)

    pub tried-missing : found_of (by_name true) ≡ None → {f : Option EntryPeriods} → f ≡ found_of (by_name false) → f ≡ found_of tried_here
    tried-missing m q = q ∙ ap found_of (sym (missing-next (voice_of file) (by_name true) (by_name false) m) ∙ tried-is true e)

    -- what the first name finds, else what the second does
    pub tried-or : {f : Option EntryPeriods} → f ≡ found_of (by_name true) → {P : Type 0} {g : Option EntryPeriods} → MatchOption f P (λ (x : EntryPeriods). g ≡ Some x)
        → (P → g ≡ found_of (by_name false)) → g ≡ found_of tried_here
    tried-or {f = None} e m p = tried-missing (sym e) (p m)
    tried-or {f = Some x} e m p = m ∙ tried-found (sym e)

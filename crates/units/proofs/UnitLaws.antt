-- The units of a sheet on a voice head those of a longer sheet, and are those of a voice that extends it.
use Rattle.std.specs.Prelude.{None, Option, Some}
use mathlib.Core.Path.{◌≡◌, refl, sym, ap, subst, ◌∙◌}
use mathlib.Core.Bool.{Bool, true, false}
use mathlib.Core.List.{List, [], ◌∷◌, ◌++◌, map, map-append}
use Prim.Native.Nat.{ℕ, zero, suc, ◌+◌, ◌≤◌, ◌<◌}
use native.Mathlib.Nat.{le_of_suc-le-suc}
use native.Mathlib.Omega.{arith}
use lib.Ieee.{Float}
use lib.ListN.{length, length-map}
use Rattle.base.specs.Lists.{Heads}
use Rattle.base.proofs.ListLaws.{and_left, and_right, heads-nil, heads-after}
use Rattle.voice.specs.Voice.{Voice, Entry, lookup, is_some}
use Rattle.voice.specs.Opening.{end_period, within_frames, distinct}
use Rattle.voice.specs.Extends.{Extends}
use Rattle.voice.proofs.EntryLaws.{lookup-finds, stands-found, stands-within}
use Rattle.sheet.specs.Sheet.{SegmentRead, as_f32}
use Rattle.sheet.specs.Followers.{name_of}
use Rattle.sheet.proofs.SheetLaws as sheets
use Rattle.sheet.proofs.SheetLaws.{Refers}
use Rattle.units.specs.declared.Unit.{Unit}
use Rattle.units.specs.Selecting.{fold_segment, folded, in_cluster, first_tried, entry_of, first_entry, found_from, found_all, first_tried_found}
use Rattle.units.specs.Units.{units_of_pair, units_from, units_all, units_of}

-- units whose periods are below n
pub data Within (n : ℕ) : List Unit → Type 0 where
  nil : Within n []
  cons : {u : Unit} {us : List Unit} → u.first_period ≤ u.last_period → u.last_period ≤ n → Within n us → Within n (u ∷ us)

-- ---- a voice that extends another

pair_same : (pair r r' : ℕ) (e e' : Entry) (x y : Float) (q q' : List Unit) → r ≡ r' → e ≡ e' → q ≡ q' → units_of_pair pair r e x y ++ q ≡ units_of_pair pair r' e' x y ++ q'
pair_same pair r r' e e' x y q q' a b c = cc

pub pair-within : (n pair r : ℕ) (e : Entry) (x y : Float) (us : List Unit) → end_period e ≤ n → Within n us → Within n (units_of_pair pair r e x y ++ us)
unfolding units_of_pair
pair-within n pair r e x y us l i =
    let a : e.start ≤ e.start + e.first = omega arith in
    let b : e.start + e.first ≤ n = omega arith in
    let c : e.start + e.first ≤ e.start + e.first + e.second = omega arith in
    cons a b (cons c l i)

-- the same entry in both voices, within the first one's frames
record SameEntry (v w : Voice) (n : ℕ) (ss : List SegmentRead) (left right : SegmentRead) : Type 0 where
  one : Entry
  from_v : entry_of v ss left right ≡ one
  from_w : entry_of w ss left right ≡ one
  inside : end_period one ≤ n

record Is (h : Option Entry) : Type 0 where
  entry : Entry
  is : h ≡ Some entry

is-some : (h : Option Entry) → is_some h ≡ true → Is h
is-some None e = absurd (let z : ◌≡◌ {A = ℕ} 0 1 = cc in omega arith)
is-some (Some e) q = record { entry = e; is = refl }

module _ (v w : Voice) (x : Extends w v) (inside : within_frames v.header.frames v.entries ≡ true) (unique : distinct w.entries ≡ true) where
  entry_found : (ss : List SegmentRead) (left right : SegmentRead) (e : Entry) → lookup (first_tried ss left right) v.entries ≡ Some e → SameEntry v w v.header.frames ss left right
  unfolding entry_of
  entry_found ss left right e p =
      let f = lookup-finds (first_tried ss left right) v.entries e p in
      let q : lookup (first_tried ss left right) w.entries ≡ Some e = ap (λ (m : List ℕ). lookup m w.entries) (sym f.named) ∙ stands-found w.entries unique e (x.entries e f.stands) in
      record { one = e; from_v = rw p; from_w = rw q; inside = stands-within v.header.frames v.entries inside e f.stands }

  same-entry : (ss : List SegmentRead) (left right : SegmentRead) → is_some (first_entry v ss left right) ≡ true → SameEntry v w v.header.frames ss left right
  same-entry ss left right h = let a = is-some (first_entry v ss left right) h in entry_found ss left right a.entry a.is

  -- the units are the same, and their periods are the first voice's
  record Same (us ws : List Unit) : Type 0 where
    same : ws ≡ us
    within : Within v.header.frames us

  from-same : (ss : List SegmentRead) (pair : ℕ) (left : SegmentRead) (rs : List SegmentRead) → found_from (first_entry v ss) left rs ≡ true
      → Same (units_from v ss pair left rs) (units_from w ss pair left rs)
  unfolding units_from found_from
  from-same ss pair left [] h = record { same = refl; within = nil }
  from-same ss pair left (right ∷ rs) h =
      let found = is_some (first_entry v ss left right) in
      let a = same-entry ss left right (and_left found (found_from (first_entry v ss) right rs) h) in
      let b = from-same ss (suc pair) right rs (and_right found (found_from (first_entry v ss) right rs) h) in
      record {
        same = pair_same pair w.header.rate v.header.rate (entry_of w ss left right) (entry_of v ss left right) (as_f32 left.end) (as_f32 right.end) _ _ x.rate
            (a.from_w ∙ sym a.from_v) b.same;
        within = pair-within v.header.frames pair v.header.rate (entry_of v ss left right) (as_f32 left.end) (as_f32 right.end) (units_from v ss (suc pair) right rs)
            (subst (λ (e : Entry). end_period e ≤ v.header.frames) (sym a.from_v) a.inside) b.within;
      }

  all_same : (ss rs : List SegmentRead) → found_all (first_entry v ss) rs ≡ true → Same (units_all v ss rs) (units_all w ss rs)
  unfolding units_all found_all
  all_same ss [] h = record { same = refl; within = nil }
  all_same ss (s ∷ rs) h = from-same ss 1 s rs h

  module _ (fold : Bool) (ss : List SegmentRead) (found : first_tried_found v fold ss ≡ true) where
    pub units-same : units_of w (folded fold ss) ≡ units_of v (folded fold ss)
    unfolding first_tried_found
    units-same = (all_same (folded fold ss) (folded fold ss) found).same

    pub units-within : Within v.header.frames (units_of v (folded fold ss))
    unfolding first_tried_found
    units-within = (all_same (folded fold ss) (folded fold ss) found).within

-- ---- a longer sheet

name-append : (ss m : List SegmentRead) (k : ℕ) → k ≤ length ss → name_of (ss ++ m) k ≡ name_of ss k
unfolding name_of
name-append ss m zero h = refl
name-append [] m (suc k) h = absurd (omega arith)
name-append (s ∷ ss) m (suc zero) h = refl
name-append (s ∷ ss) m (suc (suc k)) h = name-append ss m (suc k) (le_of_suc-le-suc h)

entry-append : (v : Voice) (ss m : List SegmentRead) (left right : SegmentRead) → left.follower ≤ length ss → entry_of v (ss ++ m) left right ≡ entry_of v ss left right
unfolding entry_of first_tried in_cluster
entry-append v ss m left right h = let a = name-append ss m left.follower h in rw a

from-append : (v : Voice) (ss m : List SegmentRead) (pair : ℕ) (left : SegmentRead) (rs q : List SegmentRead) → left.follower ≤ length ss → Refers (length ss) rs
    → Heads (units_from v ss pair left rs) (units_from v (ss ++ m) pair left (rs ++ q))
unfolding units_from
from-append v ss m pair left [] q h r = heads-nil _
from-append v ss m pair left (right ∷ rs) q h (sheets.cons l r) =
    let a = entry-append v ss m left right h in
    rw a (heads-after (units_of_pair pair v.header.rate (entry_of v ss left right) (as_f32 left.end) (as_f32 right.end)) (from-append v ss m (suc pair) right rs q l r))

all_append : (v : Voice) (ss m rs : List SegmentRead) → Refers (length ss) rs → Heads (units_all v ss rs) (units_all v (ss ++ m) (rs ++ m))
unfolding units_all
all_append v ss m [] r = heads-nil _
all_append v ss m (s ∷ rs) (sheets.cons l r) = from-append v ss m 1 s rs m l r

-- folding

folded-append : (f : Bool) (ss m : List SegmentRead) → folded f (ss ++ m) ≡ folded f ss ++ folded f m
unfolding folded
folded-append false ss m = refl
folded-append true ss m = map-append fold_segment ss m

pub length-folded : (f : Bool) (ss : List SegmentRead) → length (folded f ss) ≡ length ss
unfolding folded
length-folded false ss = refl
length-folded true ss = length-map ss fold_segment

refers-folded : (f : Bool) (n : ℕ) (ss : List SegmentRead) → Refers n ss → Refers n (folded f ss)
unfolding folded
refers-folded false n ss r = r
refers-folded true n ss r = go ss r
  where
    go : (ss : List SegmentRead) → Refers n ss → Refers n (map fold_segment ss)
    go [] sheets.nil = sheets.nil
    go (s ∷ ss) (sheets.cons l r) = sheets.cons l (go ss r)

pub units-append : (v : Voice) (fold : Bool) (ss m : List SegmentRead) → Refers (length ss) ss → Heads (units_of v (folded fold ss)) (units_of v (folded fold (ss ++ m)))
units-append v fold ss m r =
    let l = length-folded fold ss in
    rw (folded-append fold ss m) (all_append v (folded fold ss) (folded fold m) (folded fold ss) (rw l (refers-folded fold (length ss) ss r)))

-- two segments make units
all-some : (v : Voice) (ss rs : List SegmentRead) → 2 ≤ length rs → 0 < length (units_all v ss rs)
unfolding units_all units_from units_of_pair
all-some v ss [] h = absurd (omega arith)
all-some v ss (s ∷ []) h = absurd (omega arith)
all-some v ss (s ∷ t ∷ rs) h = omega arith

pub units-some : (v : Voice) (fold : Bool) (ss : List SegmentRead) → 2 ≤ length ss → 0 < length (units_of v (folded fold ss))
units-some v fold ss h = let l = length-folded fold ss in all-some v (folded fold ss) (folded fold ss) (omega arith)

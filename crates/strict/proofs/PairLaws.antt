-- Whether each pair finds a name that it tries, pair by pair.
use Rattle.std.specs.Prelude.{None, Option, Some}
use mathlib.Core.Path.{◌≡◌, refl, sym, ap, ◌∙◌}
use mathlib.Core.Bool.{Bool, true, false, ◌&&◌, true≢false}
use mathlib.Core.List.{List, [], ◌∷◌}
use mathlib.Core.Logic.{inl, inr}
use Prim.Native.Nat.{ℕ}
use Rattle.base.specs.Choice.{pick}
use Rattle.base.specs.Lists.{or_next}
use Rattle.base.proofs.ListLaws.{and_left, and_right, next-none}
use Rattle.text.specs.Names.{same}
use Rattle.text.proofs.NameLaws.{same_refl}
use Rattle.voice.specs.Voice.{Entry, Placed, Voice, lookup, is_some}
use Rattle.voice.specs.Extends.{Stands}
use Rattle.voice.specs.Extends as stands
use Rattle.voice.proofs.EntryLaws.{lookup-finds}
use Rattle.sheet.specs.Sheet.{SegmentRead}
use Rattle.units.specs.Selecting.{plain_name, first_tried, folded, first_entry, tried_entry, entry_of, found_from, found_all}
use Rattle.pairs.specs.Pairs.{tried_found}
use Rattle.strict.specs.Pairs.{Adjacent, here, there, NoEntry, Lacks, ByName}

-- ---- by any look-up

module _ (find : SegmentRead → SegmentRead → Option Entry) where
  from_each : (s : SegmentRead) (rs : List SegmentRead) → found_from find s rs ≡ true → (left right : SegmentRead) → Adjacent left right (s ∷ rs)
      → is_some (find left right) ≡ true
  unfolding found_from
  from_each s [] h left right p = elim p [ ]
  from_each s (r ∷ rs) h left right here = and_left (is_some (find left right)) (found_from find right rs) h
  from_each s (r ∷ rs) h left right (there p) = from_each r rs (and_right (is_some (find s r)) (found_from find r rs) h) left right p

  record Missing (rs : List SegmentRead) : Type 0 where
    left : SegmentRead
    right : SegmentRead
    adjacent : Adjacent left right rs
    not_found : is_some (find left right) ≡ false

  from-missing : (s : SegmentRead) (rs : List SegmentRead) → found_from find s rs ≡ false → Missing (s ∷ rs)
  unfolding found_from
  from-missing s [] h = absurd (true≢false h)
  from-missing s (r ∷ rs) h = by (is_some (find s r)) refl h (from-missing r rs)
    where
      by : (t : Bool) → is_some (find s r) ≡ t → (t && found_from find r rs) ≡ false → (found_from find r rs ≡ false → Missing (r ∷ rs)) → Missing (s ∷ r ∷ rs)
      by false e h rest = record { left = s; right = r; adjacent = here; not_found = e }
      by true e h rest = let m = rest h in record { left = m.left; right = m.right; adjacent = there m.adjacent; not_found = m.not_found }

  all-each : (rs : List SegmentRead) → found_all find rs ≡ true → (left right : SegmentRead) → Adjacent left right rs → is_some (find left right) ≡ true
  unfolding found_all
  all-each [] h left right p = elim p [ ]
  all-each (s ∷ rs) h left right p = from_each s rs h left right p

  all-missing : (rs : List SegmentRead) → found_all find rs ≡ false → Missing rs
  unfolding found_all
  all-missing [] h = absurd (true≢false h)
  all-missing (s ∷ rs) h = from-missing s rs h

is_none : (o : Option Entry) → is_some o ≡ false → o ≡ None
is_none None e = refl
is_none (Some x) e = absurd (true≢false e)

-- ---- by name

stands-some : (ps : List Placed) (e : Entry) → Stands e ps → is_some (lookup e.name ps) ≡ true
unfolding lookup
stands-some [] e s = elim s [ ]
stands-some (p ∷ ps) e (stands.here q) = rw (q, same_refl p.entry.name) refl
stands-some (p ∷ ps) e (stands.there m) = by (same p.entry.name e.name) (stands-some ps e m)
  where
    by : (t : Bool) → is_some (lookup e.name ps) ≡ true → is_some (pick t (Some p.entry) (lookup e.name ps)) ≡ true
    by true h = refl
    by false h = h

module _ (v : Voice) (n : List ℕ) where
  none_then : lookup n v.entries ≡ None → NoEntry v n
  none_then e x s q = true≢false (sym (stands-some v.entries x s) ∙ ap (λ (m : List ℕ). is_some (lookup m v.entries)) q ∙ ap is_some e)

  then-none : NoEntry v n → lookup n v.entries ≡ None
  then-none h = by (lookup n v.entries) refl
    where
      by : (o : Option Entry) → lookup n v.entries ≡ o → o ≡ None
      by None e = refl
      by (Some x) e = let f = lookup-finds n v.entries x e in absurd (h x f.stands f.named)

-- ---- by the names that a pair tries

module _ (v : Voice) (fold : Bool) (ss : List SegmentRead) where
  pub lacks-pair : tried_found v fold ss ≡ false → Lacks v (folded fold ss)
  unfolding tried_found
  lacks-pair e =
      let m = all-missing (tried_entry v (folded fold ss)) (folded fold ss) e in
      let n = next-none (first_entry v (folded fold ss) m.left m.right) _ (is_none _ m.not_found) in
      record { left = m.left; right = m.right; adjacent = m.adjacent; not_first = none_then v _ n.0; not_plain = none_then v _ n.1 }

  pub lacks-none : Lacks v (folded fold ss) → tried_found v fold ss ≡ false
  unfolding tried_found
  lacks-none l = by (found_all (tried_entry v (folded fold ss)) (folded fold ss)) refl
    where
      by : (t : Bool) → found_all (tried_entry v (folded fold ss)) (folded fold ss) ≡ t → t ≡ false
      by false e = refl
      by true e =
          let a = then-none v _ l.not_first in
          let b = then-none v _ l.not_plain in
          let misses : tried_entry v (folded fold ss) l.left l.right ≡ None = rw (a, b) refl in
          absurd (true≢false (sym (all-each _ (folded fold ss) e l.left l.right l.adjacent) ∙ ap is_some misses))

-- an entry that a pair finds bears a name that it tries
module _ (v : Voice) (ss : List SegmentRead) (left right : SegmentRead) where
  found-by : (a b : Option Entry) → first_entry v ss left right ≡ a → lookup (plain_name left.name right.name) v.entries ≡ b
      → is_some (or_next a b) ≡ true → ByName v ss left right
  unfolding entry_of
  found-by (Some e) b p q h =
      let f = lookup-finds (first_tried ss left right) v.entries e p in
      record { entry = e; selected = rw p refl; stands = f.stands; named = inl f.named }
  found-by None (Some e) p q h =
      let f = lookup-finds (plain_name left.name right.name) v.entries e q in
      record { entry = e; selected = rw (p, q) refl; stands = f.stands; named = inr f.named }
  found-by None None p q h = absurd (true≢false (sym h))

pub all-by-name : (v : Voice) (fold : Bool) (ss : List SegmentRead) → tried_found v fold ss ≡ true → (left right : SegmentRead)
    → Adjacent left right (folded fold ss) → ByName v (folded fold ss) left right
unfolding tried_found
all-by-name v fold ss e left right p = found-by v (folded fold ss) left right _ _ refl refl (all-each (tried_entry v (folded fold ss)) (folded fold ss) e left right p)

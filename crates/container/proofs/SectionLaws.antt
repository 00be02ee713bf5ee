-- The sections of a file, one step at a time.
use Rattle.std.specs.Prelude.{None, Option, Some}
use mathlib.Core.Path.{◌≡◌, refl, sym, ap, subst, ◌∙◌}
use mathlib.Core.Bool.{Bool, true, false, ◌&&◌}
use mathlib.Core.List.{List, []}
use Prim.Native.Nat.{ℕ, zero, suc, ◌+◌, ◌-◌, ◌≤◌, ◌<◌}
use native.Mathlib.Omega.{arith}
use borrow.Author.Tests.{lt-ltb, le-ltb, lt-leb, le-leb, leb-true}
use lib.Dec.{ltb, leb}
use lib.ListN.{length, get_or, take, drop}
use Rattle.base.specs.Choice.{pick}
use Rattle.base.specs.Lists.{every}
use Rattle.base.specs.declared.Span.{Span}
use Rattle.text.specs.Utf8.{utf8}
use Rattle.text.specs.Names.{same}
use Rattle.base.proofs.ListLaws.{every-at}
use Rattle.container.specs.Sections.{Sections, is_whole, section_name, section_at, with_section, sections_from, data_place, next_place, sections, find, span_of}

missing_at : (s : Span) → None ≡ Some s → ⊥
missing_at s e = let z : ◌≡◌ {A = ℕ} 0 1 = cc in omega arith

-- those from a place on
abbrev pub rest : List ℕ → ℕ → Sections
rest file at = sections_from (length file) file at

module _ (file : List ℕ) where
  -- a step of the definition, with its tests given
  abbrev after : Bool → Bool → ℕ → Sections → Sections
  after t u at r =
      elim t [
        | false ↦ record { whole = true; list = [] }
        | true ↦ elim u [ false ↦ record { whole = false; list = [] } | true ↦ with_section (section_at file at) r ]
      ]

  past : (at : ℕ) (r : Sections) → length file ≤ at → after (ltb at (length file)) (is_whole file at) at r ≡ record { whole = true; list = [] }
  past at r h = ap (λ (t : Bool). after t (is_whole file at) at r) (le-ltb at (length file) h)

  -- how many are asked for does not matter, once that is enough
  enough : (n m at : ℕ) → length file ≤ at + n → length file ≤ at + m → sections_from n file at ≡ sections_from m file at
  unfolding sections_from
  enough zero zero at h k = refl
  enough zero (suc m) at h k = sym (past at (sections_from m file (next_place file at)) (omega arith))
  enough (suc n) zero at h k = past at (sections_from n file (next_place file at)) (omega arith)
  enough (suc n) (suc m) at h k =
      ap (after (ltb at (length file)) (is_whole file at) at) (enough n m (next_place file at) (omega arith) (omega arith))

  one_more : (at : ℕ) → rest file at ≡ after (ltb at (length file)) (is_whole file at) at (rest file (next_place file at))
  unfolding sections_from
  one_more at = enough (length file) (suc (length file)) at (omega arith) (omega arith)

  pub rest-done : (at : ℕ) → length file ≤ at → rest file at ≡ record { whole = true; list = [] }
  rest-done at h = one_more at ∙ past at (rest file (next_place file at)) h

  pub rest-cut : (at : ℕ) → at < length file → is_whole file at ≡ false → rest file at ≡ record { whole = false; list = [] }
  rest-cut at h e = let t = lt-ltb at (length file) h in one_more at ∙ rw (t, e)

  pub rest_more : (at : ℕ) → at < length file → is_whole file at ≡ true → rest file at ≡ with_section (section_at file at) (rest file (next_place file at))
  rest_more at h e = let t = lt-ltb at (length file) h in one_more at ∙ rw (t, e)

  -- where a whole section ends, within the file
  pub whole-data : (at : ℕ) → is_whole file at ≡ true → data_place file at ≤ length file
  unfolding is_whole
  whole-data at e = leb-true _ _ (every-at _ e 0)

  pub whole-next : (at : ℕ) → is_whole file at ≡ true → next_place file at ≤ length file
  unfolding is_whole
  whole-next at e = leb-true _ _ (every-at _ e 2)

  -- ---- the tests of a section

  -- the part of the file that is its name
  pub name-part : (at k : ℕ) → k ≡ get_or file at 0 → take k (drop (at + 1) file) ≡ section_name file at
  name-part at k e = ap (λ (n : ℕ). take n (drop (at + 1) file)) e

  pub whole-short : (at : ℕ) → length file < data_place file at → is_whole file at ≡ false
  unfolding is_whole every
  whole-short at h = let t = lt-leb (data_place file at) (length file) h in rw t

  pub whole-unnamed : (at : ℕ) → utf8 (section_name file at) ≡ false → is_whole file at ≡ false
  unfolding is_whole every
  whole-unnamed at e = rw e (go (leb (data_place file at) (length file)))
    where
      go : (t : Bool) → (t && false) ≡ false
      go true = refl
      go false = refl

  pub whole_by : (at : ℕ) → data_place file at ≤ length file → utf8 (section_name file at) ≡ true → is_whole file at ≡ leb (next_place file at) (length file)
  unfolding is_whole every
  whole_by at h e = let t = le-leb (data_place file at) (length file) h in rw (t, e) (go (leb (next_place file at) (length file)))
    where
      go : (t : Bool) → (t && true) ≡ t
      go true = refl
      go false = refl

  -- ---- a name among the sections from a place on

  module _ (name : List ℕ) where
    -- the name compared is the part of the file before the data's length
    pub same_name : (at : ℕ) (d : Span) → d ≡ (section_at file at).span → same (section_name file at) name ≡ same (take (d.at - 4 - (at + 1)) (drop (at + 1) file)) name
    same_name at d e =
        let n : d.at ≡ data_place file at = ap (λ (s : Span). s.at) e in
        ap (λ (s : List ℕ). same s name) (sym (name-part at (d.at - 4 - (at + 1)) (omega (arith, n))))

    pub find-done : (at : ℕ) → length file ≤ at → find name (rest file at).list ≡ None
    unfolding find
    find-done at h = ap (λ (r : Sections). find name r.list) (rest-done at h)

    pub find-cut : (at : ℕ) → at < length file → is_whole file at ≡ false → find name (rest file at).list ≡ None
    unfolding find
    find-cut at h w = ap (λ (r : Sections). find name r.list) (rest-cut at h w)

    pub find-here : (at : ℕ) → at < length file → is_whole file at ≡ true → same (section_name file at) name ≡ true → find name (rest file at).list ≡ Some (section_at file at).span
    unfolding find
    find-here at h w e = ap (λ (r : Sections). find name r.list) (rest_more at h w) ∙ rw e

    pub find-next : (at : ℕ) → at < length file → is_whole file at ≡ true → same (section_name file at) name ≡ false
        → find name (rest file at).list ≡ find name (rest file (next_place file at)).list
    unfolding find
    find-next at h w e = ap (λ (r : Sections). find name r.list) (rest_more at h w) ∙ rw e

    -- a section that is found lies within the file
    pub found_within : (n at : ℕ) (s : Span) → find name (sections_from n file at).list ≡ Some s → s.at + s.len ≤ length file
    unfolding find sections_from
    found_within zero at s e = absurd (missing_at s e)
    found_within (suc n) at s e = by (ltb at (length file)) (is_whole file at) refl e (found_within n (next_place file at) s)
      where
        here : (t : Bool) → is_whole file at ≡ true → pick t (Some (section_at file at).span) (find name (sections_from n file (next_place file at)).list) ≡ Some s
            → (find name (sections_from n file (next_place file at)).list ≡ Some s → s.at + s.len ≤ length file)
            → s.at + s.len ≤ length file
        here true w e ih = let q : (section_at file at).span ≡ s = cc in subst (λ (d : Span). d.at + d.len ≤ length file) q (whole-next at w)
        here false w e ih = ih e

        by : (t u : Bool) → is_whole file at ≡ u → find name (after t u at (sections_from n file (next_place file at))).list ≡ Some s
            → (find name (sections_from n file (next_place file at)).list ≡ Some s → s.at + s.len ≤ length file)
            → s.at + s.len ≤ length file
        by false u w e ih = absurd (missing_at s e)
        by true false w e ih = absurd (missing_at s e)
        by true true w e ih = here (same (section_name file at) name) w e ih

    pub section-within : let d = span_of (find name (sections file).list) in d.at + d.len ≤ length file
    unfolding sections
    section-within = by (find name (sections file).list) refl
      where
        by : (f : Option Span) → find name (sections file).list ≡ f → (span_of f).at + (span_of f).len ≤ length file
        by None e = omega arith
        by (Some d) e = found_within (length file) 8 d e

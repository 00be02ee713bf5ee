use mathlib.Core.Path.{refl, sym, ap, subst, ◌∙◌}
use borrow.Author.Tests.{lt-leb, le-leb, eq-eqb, ne_eqb}
use Rattle.base.proofs.ListLaws.{every-pass, every-fail, every_one}
use mathlib.Core.Bool.{not}
use native.Mathlib.Omega.{arith}
use Prim.Native.Nat.{◌≤◌}
use Rattle.base.specs.declared.Span.{Span}
use Rattle.container.specs.Sections.{span_of, bytes_at}
use Rattle.index.proofs.FilledLaws.{empty-count}
use Rattle.opening.proofs.IndexLaws.{index-are, entries-within}
use Rattle.opening.proofs.has_good_index.Goals as goal

pub returns-then-section-lt4 : goal.returns-then-section-lt4
returns-then-section-lt4 c =
    let f = c.args.file.now in
    let d = c.args.d in
    let p = c.requires in
    let s = c.span_of-section.ensures ∙ ap span_of c.find.ensures in
    sym (index-are f d p c.span_of-section.result (bytes_at f d.entries) s refl ∙ every-fail _ _ (lt-leb 4 _ c.if-section-lt4.true))

pub bytes_at-entries-requires : goal.bytes_at-entries-requires
bytes_at-entries-requires c =
    let f = c.args.file.now in
    let d = c.args.d in
    let p = c.requires in
    let s = c.span_of-section.ensures ∙ ap span_of c.find.ensures in
    entries-within f d p (subst (λ (t : Span). 4 ≤ t.len) s c.if-section-lt4.false)

pub returns-then-not-has_whole_entries : goal.returns-then-not-has_whole_entries
returns-then-not-has_whole_entries c =
    let f = c.args.file.now in
    let d = c.args.d in
    let p = c.requires in
    let s = c.span_of-section.ensures ∙ ap span_of c.find.ensures in
    sym (index-are f d p c.span_of-section.result _ s c.bytes_at-entries.ensures ∙ every-pass _ _ (le-leb 4 _ c.if-section-lt4.false) ∙ every-fail _ _ (sym c.has_whole_entries.ensures ∙ c.if-not-has_whole_entries.true))

pub returns-then-count-eq0 : goal.returns-then-count-eq0
returns-then-count-eq0 c =
    let f = c.args.file.now in
    let d = c.args.d in
    let p = c.requires in
    let s = c.span_of-section.ensures ∙ ap span_of c.find.ensures in
    let w = sym c.has_whole_entries.ensures ∙ c.if-not-has_whole_entries.false in
    let e = empty-count _ d.count 0 w ∙ eq-eqb d.count 0 (omega arith) in
    sym (index-are f d p c.span_of-section.result _ s c.bytes_at-entries.ensures ∙ every-pass _ _ (le-leb 4 _ c.if-section-lt4.false) ∙ every-pass _ _ (w) ∙ every-fail _ _ (ap not e))

pub has_distinct_names-requires : goal.has_distinct_names-requires
has_distinct_names-requires c = sym c.has_whole_entries.ensures ∙ c.if-not-has_whole_entries.false

pub returns-then-not-has_distinct_names : goal.returns-then-not-has_distinct_names
returns-then-not-has_distinct_names c =
    let f = c.args.file.now in
    let d = c.args.d in
    let p = c.requires in
    let s = c.span_of-section.ensures ∙ ap span_of c.find.ensures in
    let w = sym c.has_whole_entries.ensures ∙ c.if-not-has_whole_entries.false in
    let e = empty-count _ d.count 0 w ∙ ne_eqb d.count 0 (omega arith) in
    sym (index-are f d p c.span_of-section.result _ s c.bytes_at-entries.ensures ∙ every-pass _ _ (le-leb 4 _ c.if-section-lt4.false) ∙ every-pass _ _ (w) ∙ every-pass _ _ (ap not e) ∙ every-fail _ _ (sym c.has_distinct_names.ensures ∙ c.if-not-has_distinct_names.true))

pub ends_within-requires : goal.ends_within-requires
ends_within-requires c = sym c.has_whole_entries.ensures ∙ c.if-not-has_whole_entries.false

pub returns : goal.returns
returns c =
    let f = c.args.file.now in
    let d = c.args.d in
    let p = c.requires in
    let s = c.span_of-section.ensures ∙ ap span_of c.find.ensures in
    let w = sym c.has_whole_entries.ensures ∙ c.if-not-has_whole_entries.false in
    let e = empty-count _ d.count 0 w ∙ ne_eqb d.count 0 (omega arith) in
    c.ends_within.ensures
    ∙ sym (index-are f d p c.span_of-section.result _ s c.bytes_at-entries.ensures ∙ every-pass _ _ (le-leb 4 _ c.if-section-lt4.false) ∙ every-pass _ _ (w) ∙ every-pass _ _ (ap not e) ∙ every-pass _ _ (sym c.has_distinct_names.ensures ∙ c.if-not-has_distinct_names.false) ∙ every_one _)

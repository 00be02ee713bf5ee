use mathlib.Core.Path.{sym, ap, ◌∙◌}
use native.Mathlib.Omega.{arith}
use borrow.Author.Tests.{lt-leb, le-leb}
use mathlib.Core.List.{List}
use Prim.Native.Nat.{ℕ}
use lib.Dec.{leb}
use Rattle.base.specs.Bytes.{u32_at}
use Rattle.base.proofs.ListLaws.{length_part, every-pass, every-fail, every_one}
use Rattle.voice.specs.Opening.{rising_in}
use Rattle.voice.proofs.TableLaws.{tables-are, order-low, offsets-within}
use Rattle.voice.proofs.tables.is_good.Goals as goal

pub returns-then-d-gt-RESIDUAL_LIMIT : goal.returns-then-d-gt-RESIDUAL_LIMIT
returns-then-d-gt-RESIDUAL_LIMIT c =
    sym (tables-are _ _ c.requires.0 ∙ every-fail _ _ (lt-leb _ _ c.if-d-gt-RESIDUAL_LIMIT.true))

pub overflow_mul-frames : goal.overflow_mul-frames
overflow_mul-frames c =
    omega (arith, order-low c.args.d.header c.requires.1)

pub overflow_mul-frames-2 : goal.overflow_mul-frames-2
overflow_mul-frames-2 c =
    omega (arith, order-low c.args.d.header c.requires.1)

pub returns-then-d-frames : goal.returns-then-d-frames
returns-then-d-frames c =
    sym (tables-are _ _ c.requires.0 ∙ every-pass _ _ (le-leb _ _ c.if-d-gt-RESIDUAL_LIMIT.false) ∙ every-fail _ _ (lt-leb _ _ c.if-d-frames.true))

pub returns-then-not-has_sizes : goal.returns-then-not-has_sizes
returns-then-not-has_sizes c =
    sym (tables-are _ _ c.requires.0 ∙ every-pass _ _ (le-leb _ _ c.if-d-gt-RESIDUAL_LIMIT.false) ∙ every-pass _ _ (le-leb _ _ c.if-d-frames.false) ∙ every-fail _ _ (sym c.has_sizes.ensures ∙ c.if-not-has_sizes.true))

pub returns-then-d-frames-2 : goal.returns-then-d-frames-2
returns-then-d-frames-2 c =
    sym (tables-are _ _ c.requires.0 ∙ every-pass _ _ (le-leb _ _ c.if-d-gt-RESIDUAL_LIMIT.false) ∙ every-pass _ _ (le-leb _ _ c.if-d-frames.false) ∙ every-pass _ _ (sym c.has_sizes.ensures ∙ c.if-not-has_sizes.false) ∙ every-fail _ _ (lt-leb _ _ c.if-d-frames-2.true))

pub bytes_at-offsets-requires : goal.bytes_at-offsets-requires
bytes_at-offsets-requires c = offsets-within c.args.file.now c.args.d c.requires.0

pub is_rising-requires : goal.is_rising-requires
is_rising-requires c =
    let h = offsets-within c.args.file.now c.args.d c.requires.0 in
    rw c.bytes_at-offsets.ensures (omega (arith, length_part c.args.file.now c.args.d.offsets.at c.args.d.offsets.len h, c.if-d-frames-2.false))

pub u32_at-requires : goal.u32_at-requires
u32_at-requires c =
    let h = offsets-within c.args.file.now c.args.d c.requires.0 in
    rw c.bytes_at-offsets.ensures (omega (arith, length_part c.args.file.now c.args.d.offsets.at c.args.d.offsets.len h, c.if-d-frames-2.false))

pub returns-then-is_rising : goal.returns-then-is_rising
returns-then-is_rising c =
    let d = c.args.d in
    let part = c.bytes_at-offsets.ensures in
    let rising = ap (λ (os : List ℕ). rising_in os d.header.frames) (sym part) ∙ sym c.is_rising.ensures ∙ c.if-is_rising.true in
    let last = c.u32_at.ensures ∙ ap (λ (os : List ℕ). u32_at os d.header.frames) part in
    ap (λ (n : ℕ). leb n d.residual.len) last ∙ sym (tables-are _ d c.requires.0 ∙ every-pass _ _ (le-leb _ _ c.if-d-gt-RESIDUAL_LIMIT.false) ∙ every-pass _ _ (le-leb _ _ c.if-d-frames.false) ∙ every-pass _ _ (sym c.has_sizes.ensures ∙ c.if-not-has_sizes.false) ∙ every-pass _ _ (le-leb _ _ c.if-d-frames-2.false) ∙ every-pass _ _ rising ∙ every_one _)

pub returns-else-is_rising : goal.returns-else-is_rising
returns-else-is_rising c =
    let d = c.args.d in
    let part = c.bytes_at-offsets.ensures in
    let rising = ap (λ (os : List ℕ). rising_in os d.header.frames) (sym part) ∙ sym c.is_rising.ensures ∙ c.if-is_rising.false in
    c.if-is_rising.false ∙ sym (tables-are _ d c.requires.0 ∙ every-pass _ _ (le-leb _ _ c.if-d-gt-RESIDUAL_LIMIT.false) ∙ every-pass _ _ (le-leb _ _ c.if-d-frames.false) ∙ every-pass _ _ (sym c.has_sizes.ensures ∙ c.if-not-has_sizes.false) ∙ every-pass _ _ (le-leb _ _ c.if-d-frames-2.false) ∙ every-fail _ _ rising)

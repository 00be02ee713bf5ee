use Rattle.voice.specs.Header.{good_numbers}
use mathlib.Core.Path.{sym, ◌∙◌}
use borrow.Author.Tests.{lt-leb, le-leb}
use Rattle.base.proofs.ListLaws.{every-pass, every-fail, every_one}
use Rattle.voice.proofs.header.has_good_numbers.Goals as goal

pub returns-then-h-lt1 : goal.returns-then-h-lt1
unfolding good_numbers
returns-then-h-lt1 c = sym (every-fail _ _ (lt-leb _ _ c.if-h-lt1.true))

pub returns-then-h-gt32 : goal.returns-then-h-gt32
unfolding good_numbers
returns-then-h-gt32 c = sym (every-pass _ _ (le-leb _ _ c.if-h-lt1.false) ∙ every-fail _ _ (lt-leb _ _ c.if-h-gt32.true))

pub returns-then-h-lt1-2 : goal.returns-then-h-lt1-2
unfolding good_numbers
returns-then-h-lt1-2 c = sym (every-pass _ _ (le-leb _ _ c.if-h-lt1.false) ∙ every-pass _ _ (le-leb _ _ c.if-h-gt32.false) ∙ every-fail _ _ (lt-leb _ _ c.if-h-lt1-2.true))

pub returns-then-h-gt48000 : goal.returns-then-h-gt48000
unfolding good_numbers
returns-then-h-gt48000 c = sym (every-pass _ _ (le-leb _ _ c.if-h-lt1.false) ∙ every-pass _ _ (le-leb _ _ c.if-h-gt32.false) ∙ every-pass _ _ (le-leb _ _ c.if-h-lt1-2.false) ∙ every-fail _ _ (lt-leb _ _ c.if-h-gt48000.true))

pub returns : goal.returns
unfolding good_numbers
returns c = sym (every-pass _ _ (le-leb _ _ c.if-h-lt1.false) ∙ every-pass _ _ (le-leb _ _ c.if-h-gt32.false) ∙ every-pass _ _ (le-leb _ _ c.if-h-lt1-2.false) ∙ every-pass _ _ (le-leb _ _ c.if-h-gt48000.false) ∙ every_one _)

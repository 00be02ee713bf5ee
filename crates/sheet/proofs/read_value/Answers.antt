use Rattle.std.proofs.Common.{refl, ◌∙◌, arith, to_z-of_z, w32, SFits}
use Rattle.sheet.specs.Sheet.{value_of}
use Rattle.sheet.proofs.AnswerLaws.{read, refused, same-reading, exits, goes_on}
use Rattle.sheet.proofs.ValueLaws.{value-end, by_kind, int-word, unknown}
use Rattle.sheet.proofs.read_value.Goals as goal

pub returns-in_default : goal.returns-in_default
returns-in_default c = value-end _ _ (omega (arith, c.in_default.ensures.lookup))

pub returns-in_err-word-in-0 : goal.returns-in_err-word-in-0
returns-in_err-word-in-0 c =
    same-reading (by_kind _ _ _ c.in-Some.ensures.lookup.3 0 c.in-0.is ∙ int-word _) (exits _ _ c.from_residual.ensures.1 c.in_err-word-in-0.ensures)

pub returns-in_ok-word-in-0 : goal.returns-in_ok-word-in-0
returns-in_ok-word-in-0 c =
    let i = c.in_ok-word-in-0.ensures in
    let f : SFits w32 c.cast_signed.result = record { sfits = c.cast_signed.type_inv } in
    same-reading (by_kind _ _ _ c.in-Some.ensures.lookup.3 0 c.in-0.is ∙ int-word _)
    (goes_on _ i (rw (to_z-of_z f ∙ c.cast_signed.ensures) (read refl i.within.0 tt)))

pub returns-in-1 : goal.returns-in-1
returns-in-1 c = same-reading (by_kind _ _ _ c.in-Some.ensures.lookup.3 1 c.in-1.is) c.read_float.ensures

pub returns-in-2 : goal.returns-in-2
unfolding value_of
returns-in-2 c =
    let got = c.in-Some.ensures.lookup.3 in
    same-reading (by_kind _ _ _ got 2 c.in-2.is) (read refl (omega (arith, got.0)) tt)

pub returns-in-3 : goal.returns-in-3
unfolding value_of
returns-in-3 c = same-reading (by_kind _ _ _ c.in-Some.ensures.lookup.3 3 c.in-3.is) c.read_text.ensures

pub returns-in_default-kind : goal.returns-in_default-kind
returns-in_default-kind c = refused (by_kind _ _ _ c.in-Some.ensures.lookup.3 _ refl ∙ unknown _ _ (omega arith))

use Rattle.std.proofs.Common.{◌-◌, inl, inr, arith}
use Rattle.sheet.proofs.AnswerLaws.{exit}
use Rattle.sheet.proofs.NumberLaws.{groups_none, groups-first, groups-last, groups-zero, groups-cut, groups-more, power_small}
use Rattle.sheet.proofs.+read_groups.Goals as goal

pub returns-then-left-eq0 : goal.returns-then-left-eq0
returns-then-left-eq0 t c = let a = c.args in groups_none a.sheet.now a.at a.left a.first c.then-left-eq0.either

pub returns-then-not-first : goal.returns-then-not-first
returns-then-not-first t c =
    let a = c.args in
    groups-zero a.sheet.now a.at a.left a.first c.if-left-eq0.false (omega arith) c.if-not-first.true (omega arith)

pub returns-then-group-lt128 : goal.returns-then-group-lt128
returns-then-group-lt128 t c =
    let a = c.args in
    rw c.from-group.ensures
    (elim c.else-group-eq0.either [
      | inl e ↦ groups-first a.sheet.now a.at a.left a.first c.if-left-eq0.false (omega arith) e.1 (omega arith)
      | inr n ↦ groups-last a.sheet.now a.at a.left a.first c.if-left-eq0.false (omega arith) (λ e. omega arith) (omega arith)
    ])

pub overflow_mul-result : goal.overflow_mul-result
overflow_mul-result t c =
    omega (arith, c.in_ok-high.ensures.within.1, power_small (c.args.left - 1) (omega arith))

pub overflow_add-result-2 : goal.overflow_add-result-2
overflow_add-result-2 t c =
    omega (arith, c.in_ok-high.ensures.within.1, power_small (c.args.left - 1) (omega arith), c.type_inv.sheet c.args.at)

pub returns-in_err-high : goal.returns-in_err-high
returns-in_err-high t c =
    let a = c.args in
    exit _ c.from_residual.ensures.1 (groups-cut a.sheet.now a.at a.left a.first c.if-left-eq0.false (omega arith) (omega arith) _ c.in_err-high.ensures)

pub returns : goal.returns
returns t c =
    let a = c.args in
    let s = c.type_inv.sheet a.at in
    rw c.from-group.ensures
    (groups-more a.sheet.now a.at a.left a.first c.if-left-eq0.false (omega arith) (omega arith) _ _ (omega (arith, s)) c.in_ok-high.ensures)

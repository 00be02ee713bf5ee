use Rattle.std.specs.Prelude.{Err, None, Ok, Some}
use Rattle.std.proofs.Common.{arith, w64, refl, sym, ap, ◌∙◌}
use mir.Facts.{to_z-of_z, to_z_pos}
use Rattle.base.proofs.ResultLaws.{holding}
use Rattle.call.specs.declared.Pulled.{Pulled}
use Rattle.call.specs.Pull.{lent_of}
use Rattle.c_pull.proofs.PullLaws.{cut_short, other-filter, is_state_lem, no-state-ends, pulled-ends, pulled-by, slice-by, given-fits}
use Rattle.c_pull.proofs.pull_in_c.Goals as goal

pub returns-then-state-lt168 : goal.returns-then-state-lt168
returns-then-state-lt168 c =
    let all = no-state-ends c.args.state.now (lent_of c.args.sizes.now c.args.rows.now c.args.excitation.now) c.args.samples.now _ (cut_short c.args.state.now (omega (arith, c.if-state-lt168.true)))
    (to_z-of_z {w = w64} (record { sfits = c.minus_number.type_inv }) ∙ c.minus_number.ensures) in
    record { value = all.0; state_after = all.1.0; samples_after = all.1.1 }

pub returns-then-read_u32-gt1 : goal.returns-then-read_u32-gt1
returns-then-read_u32-gt1 c =
    let all = no-state-ends c.args.state.now (lent_of c.args.sizes.now c.args.rows.now c.args.excitation.now) c.args.samples.now _
    (other-filter c.args.state.now (omega (arith, c.if-state-lt168.false)) (omega (arith, c.read_u32.ensures, c.if-read_u32-gt1.true)))
    (to_z-of_z {w = w64} (record { sfits = c.minus_number-then-read_u32-gt1.type_inv }) ∙ c.minus_number-then-read_u32-gt1.ensures) in
    record { value = all.0; state_after = all.1.0; samples_after = all.1.1 }

pub overflow_cast-result : goal.overflow_cast-result
overflow_cast-result c = record {
  sfits =
      given-fits _ _ _ _ _ _ (pulled-by _ _ c.load.ensures c.pull-pulled.ensures.value)
      (holding c.in-Ok-Some.is (rw c.in-Ok-Some.is at c.in-Ok-Some.field-0-is)) (omega arith);
}

pub returns-in-Ok-Some : goal.returns-in-Ok-Some
returns-in-Ok-Some c =
    let answer = holding c.in-Ok-Some.is (rw c.in-Ok-Some.is at c.in-Ok-Some.field-0-is) in
    let came = pulled-by _ _ c.load.ensures c.pull-pulled.ensures.value in
    let all = pulled-ends c.args.state.now (lent_of c.args.sizes.now c.args.rows.now c.args.excitation.now) c.args.samples.now _ c.pull-pulled.result (Ok (Some _)) _ _
    (is_state_lem _ (omega (arith, c.if-state-lt168.false)) (omega (arith, c.read_u32.ensures, c.if-read_u32-gt1.false))) came answer
    (to_z_pos w64 (given-fits _ _ _ _ _ _ came answer (omega arith))) c.store.ensures (slice-by _ _ c.load.ensures c.pull-pulled.ensures.samples_after) in
    record { value = all.0; state_after = all.1.0; samples_after = all.1.1 }

pub returns-in-Ok-None : goal.returns-in-Ok-None
returns-in-Ok-None c =
    let answer = holding c.in-Ok-None.is (rw c.in-Ok-None.is at c.in-Ok-None.field-0-is) in
    let all = pulled-ends c.args.state.now (lent_of c.args.sizes.now c.args.rows.now c.args.excitation.now) c.args.samples.now _ c.pull-pulled.result (Ok None) _ _
    (is_state_lem _ (omega (arith, c.if-state-lt168.false)) (omega (arith, c.read_u32.ensures, c.if-read_u32-gt1.false)))
    (pulled-by _ _ c.load.ensures c.pull-pulled.ensures.value) answer refl refl (slice-by _ _ c.load.ensures c.pull-pulled.ensures.samples_after) in
    record { value = all.0; state_after = all.1.0; samples_after = all.1.1 }

pub returns-in-Err : goal.returns-in-Err
returns-in-Err c =
    let all = pulled-ends c.args.state.now (lent_of c.args.sizes.now c.args.rows.now c.args.excitation.now) c.args.samples.now _ c.pull-pulled.result (Err _) _ _
    (is_state_lem _ (omega (arith, c.if-state-lt168.false)) (omega (arith, c.read_u32.ensures, c.if-read_u32-gt1.false)))
    (pulled-by _ _ c.load.ensures c.pull-pulled.ensures.value) c.in-Err.is
    (to_z-of_z {w = w64} (record { sfits = c.minus_number-in-Err.type_inv }) ∙ c.minus_number-in-Err.ensures) refl (slice-by _ _ c.load.ensures c.pull-pulled.ensures.samples_after) in
    record { value = all.0; state_after = all.1.0; samples_after = all.1.1 }

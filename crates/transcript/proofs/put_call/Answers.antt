use native.Mathlib.Omega.{arith}
use Rattle.transcript.proofs.CallLaws.{hands, refused-text, refused-low}
use Rattle.transcript.proofs.put_call.Goals as goal

pub put_spoken-requires : goal.put_spoken-requires
put_spoken-requires c =
    let h = hands _ _ _ _ _ c.plan-planned.ensures.0 (λ i. let z = c.type_inv.voice i in omega arith) _ c.plan-planned.ensures.1 _ c.in-Ok.is c.requires.0 c.requires.1.0 in
    record { spoke = h.spoke; in_bounds = c.requires.1.1 }

pub put_refused-requires : goal.put_refused-requires
put_refused-requires c = (refused-low c.in-Err.is c.from.ensures, omega (arith, c.requires.1.1))

pub returns-in-Ok : goal.returns-in-Ok
returns-in-Ok c =
    let h = hands _ _ _ _ _ c.plan-planned.ensures.0 (λ i. let z = c.type_inv.voice i in omega arith) _ c.plan-planned.ensures.1 _ c.in-Ok.is c.requires.0 c.requires.1.0 in
    record { puts = rw h.text at c.put_spoken.ensures.puts; upper_bound = c.put_spoken.ensures.upper_bound; decoded_after = c.plan-planned.ensures.1 }

pub returns-in-Err : goal.returns-in-Err
returns-in-Err c =
    let e = refused-text _ _ _ _ _ c.plan-planned.ensures.0 _ c.in-Err.is in
    let n = c.from.ensures in
    record { puts = rw e (rw n at c.put_refused.ensures.puts); upper_bound = omega (arith, c.put_refused.ensures.upper_bound); decoded_after = c.plan-planned.ensures.1 }

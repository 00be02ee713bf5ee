-- Every call can be made, and every pull: the claim over the contracts is not empty.
use mathlib.Core.Path.{refl}
use Rattle.call.proofs.NumberLaws.{planned-number}
use Rattle.law.specs.Made.{made as plan-made}
use Rattle.law.specs.MadeInC.{made as plan-in-c}
use Rattle.law.proofs.Lends.{share, lend, lend_all, lifetimes}
use Rattle.unnamed.specs.Kept.{made}
use Rattle.unnamed.specs.Claims.{CanBeMade}

pub can-be-made : CanBeMade
can-be-made =
    record {
      plan = λ file sheet o b.
          plan-made (lifetimes 8) (share file) (share sheet) (lend_all b) o _ _ (refl, refl, planned-number file sheet o b);
      pull = λ b s d.
          made (lifetimes 4) s (share b.sizes) (share b.rows) (share b.excitation) (lend d) _ _ refl refl refl (refl, refl);
      plan_in_c = λ file sheet word h.
          plan-in-c (lifetimes 10) (share file) (share sheet) word (lend_all h.buffers) (lend h.state) (lend h.summary) _ _ (refl, refl);
      pull_in_c = λ b w d.
          made (lifetimes 5) (lend w) (share b.sizes) (share b.rows) (share b.excitation) (lend d) _ _ _ refl refl refl (refl, (refl, refl));
      need_in_c = λ file sheet word old. made (lifetimes 3) (share file) (share sheet) word (lend old) _ _ (refl, refl);
      report_in_c = λ file sheet word old. made (lifetimes 3) (share file) (share sheet) word (lend old) _ _ (refl, refl);
    }

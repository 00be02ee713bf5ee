-- What `?` hands on, and what an answer holds.
use mathlib.Core.Path.{◌≡◌, ap, ◌∙◌}
use Rattle.std.specs.Prelude.{Result, Ok, Err, IsErr, IsErrAnd}

-- where a call fails, `?` answers its error
pub failed : {T E : Type 0} {e : E} (r : Result T E) → IsErr r × IsErrAnd r (λ x. x ≡ e) → r ≡ Err e
failed (Ok x) h = absurd h.1
failed (Err x) h = ap Err h.1

-- an answer by what it holds
pub holding : {T E : Type 0} {r : Result T E} {x y : T} → r ≡ Ok x → x ≡ y → r ≡ Ok y
holding e f = e ∙ ap Ok f

-- What the marks of one unit leave.
use Rattle.std.specs.Prelude.{ℕ, ◌≤◌, Err, Ok, Result}
use Rattle.refusal.specs.declared.Refusal.{Refusal}

-- a place within the limit, and no more marks allowed than before
abbrev pub Goes : ℕ → Result (ℕ × ℕ) Refusal → Type 0
Goes left (Ok (place, after)) = (place ≤ 16777215) × (after ≤ left)
Goes left (Err r) = Unit

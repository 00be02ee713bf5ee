-- A filter in general, and the periods of samples that it gives.
use Rattle.std.specs.Prelude.{List, [], ◌∷◌, ℕ, get_or, take, drop}

-- `next` is the output for a byte of the excitation, from a row of values q and the history, of which y k is the output k + 1 back;
-- `out` is an output's sample, as a word of 16 bits; `rest` is what the history starts at.
pub record Filter (A : Type 0) : Type 0 where
  pub rest : A
  pub next : List ℕ → (ℕ → A) → ℕ → A
  pub out : A → ℕ

-- a period as the filter gets it: its row, and its part of the excitation
pub record Part : Type 0 where
  pub row : List ℕ
  pub bytes : List ℕ

-- What was lent, cut into periods. 'A short residual ends a period early.'
unfoldable pub cut : ℕ → List ℕ → List ℕ → List ℕ → List Part
cut order [] rows e = []
cut order (z ∷ zs) rows e = record { row = take order rows; bytes = take z e } ∷ cut order zs (drop order rows) (drop z e)

module _ {A : Type 0} (f : Filter A) where
  -- the history, of all outputs so far, newest first
  abbrev pub back : List A → ℕ → A
  back h k = get_or h k f.rest

  -- the outputs after some bytes more, and their samples
  unfoldable pub outputs : List ℕ → List A → List ℕ → List A
  outputs row h [] = h
  outputs row h (x ∷ xs) = outputs row (f.next row (back h) x ∷ h) xs

  unfoldable pub samples : List ℕ → List A → List ℕ → List ℕ
  samples row h [] = []
  samples row h (x ∷ xs) = f.out (f.next row (back h) x) ∷ samples row (f.next row (back h) x ∷ h) xs

  -- the samples of each period: 'History crosses periods'
  unfoldable pub periods_from : List A → List Part → List (List ℕ)
  periods_from h [] = []
  periods_from h (p ∷ ps) = samples p.row h p.bytes ∷ periods_from (outputs p.row h p.bytes) ps

-- Document 02, A2: what the second program prints for document 01's example, for a call of no pairs, and for empty files.
use Rattle.std.specs.Prelude.{◌≡◌, [], ◌∷◌}
use Rattle.base.specs.Text.{ascii}
use Rattle.worked.specs.ProvedExamples.{example_voice, example_sheet}
use Rattle.report.specs.ReportText.{text_of}

pub record Examples : Type 0 where
  -- 'For document 01's example they are `1 1 1 0 2` and `2 1 2 2 3`'
  pub printed : text_of example_voice example_sheet ≡ ascii "1 1 1 0 2\n2 1 2 2 3\n"
  pub no_pairs : text_of example_voice (0 ∷ 0 ∷ []) ≡ []
  pub empty : text_of [] [] ≡ ascii "refused 1\n"

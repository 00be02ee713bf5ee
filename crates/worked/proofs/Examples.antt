-- Document 01's proved examples: computed, and by the laws on marks.
use mathlib.Core.Path.{refl}
use Rattle.marks.specs.PitchMarks.{most_marks}
use Rattle.marks.proofs.CountLaws.{marks-full, marks-most, refusal-full, refusal-most}
use Rattle.adpcm.specs.Decoder.{state_at}
use Rattle.lines.specs.Lines as lines
use Rattle.lines.specs.Lines.{digit, decimal, sample, next, period, summary, periods}
use Rattle.transcript.specs.CallText.{spoken_text, call_text}
use Rattle.worked.specs.Tried.{tried}
use Rattle.worked.specs.Files.{voice_file, sheet_file}
use Rattle.worked.specs.ProvedExamples.{Table, Printed, Edges, PorterErrors, Examples, segments_of}

-- the twelve rows
table : Table
unfolding tried
table =
    record {
      mu_law_zero = (refl, refl);
      mu_law_ends = (refl, refl);
      encode_step = (refl, refl);
      encode_sign = (refl, refl);
      encode_ends = (refl, refl);
      code_seven = (refl, refl);
      code_eight = (refl, refl);
      code_fifteen = (refl, refl);
      row_values = (refl, refl);
      tie_moves_on = refl;
      centred_bytes = (refl, refl);
      four_marks = refl;
    }

-- the printed example
printed : Printed
unfolding tried voice_file spoken_text call_text digit decimal sample next lines.samples period summary periods
printed = record { text = refl; summary = refl; periods = refl; buffers = refl }

-- the edges
edges : Edges
unfolding tried voice_file sheet_file segments_of
edges =
    record {
      orders = (refl, refl);
      rates = (refl, refl);
      leasts = (refl, refl);
      ranges = (refl, refl);
      headers = (refl, refl);
      trailing = refl;
      segments = (refl, refl);
      names = (refl, refl);
      low_byte = (refl, refl);
      high_byte = (refl, refl);
      shortest = (refl, refl);
      marks = (refl, refl);
      pitch_full = marks-full;
      pitch_most = marks-most;
      simple_full = refusal-full most_marks;
      simple_most = refusal-most most_marks;
    }

-- the errors
porter_errors : PorterErrors
unfolding tried state_at
porter_errors =
    record {
      towards_zero = refl;
      keeps = refl;
      sends = refl;
      wraps = refl;
      not_identity = refl;
      crosses = refl;
      row_towards_zero = (refl, refl);
      product = refl;
      sum_wraps = refl;
      mixed = refl;
      loudest = (refl, (refl, refl));
    }

pub examples : Examples
examples = record { table = table; printed = printed; edges = edges; porter_errors = porter_errors }

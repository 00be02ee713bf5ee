-- Document 01: the call. What it gives is defined for every voice and sheet; what refuses it stands beside that.
use Rattle.std.specs.Prelude.{Bool, true, false, ◌&&◌, not, List, [], ℕ, ltb, length, None, Option, Some}
use Rattle.base.specs.Choice.{pick}
use Rattle.base.specs.Lists.{or_next}
use Rattle.base.specs.Buffers.{flat}
use Rattle.refusal.specs.declared.Refusal.{Refusal}
use Rattle.refusal.specs.declared.Refusal.TheVariants.{MissingPair}
use Rattle.voice.specs.Voice.{Voice}
use Rattle.sheet.specs.declared.Target.{Target}
use Rattle.sheet.specs.Sheet.{SegmentRead, Sheet}
use Rattle.units.specs.declared.Unit.{Unit}
use Rattle.units.specs.Selecting.{folded}
use Rattle.units.specs.Units.{units_of, end_refusal}
use Rattle.pairs.specs.Pairs.{tried_found}
use Rattle.marks.specs.PitchMarks.{pitch_marks, most_marks}
use Rattle.marks.specs.NaturalMarks.{natural_marks, natural_units, mark_refusal}
use Rattle.excitation.specs.Taken.{Period, taken, sizes_of, rows_of, excitation_of}
use Rattle.lpc.specs.declared.ResynthType.{ResynthType}
use Rattle.lpc.specs.declared.ResynthType.TheVariants.{Float}
use Rattle.lpc.specs.Filter.{Part, cut}
use Rattle.lpc.specs.State.{periods_by}
use Rattle.call.specs.declared.JoinType.{JoinType}
use Rattle.call.specs.declared.JoinType.TheVariants.{None, Simple, ModifiedLpc}
use Rattle.call.specs.declared.Settings.{Settings}

-- ---- the units and the marks of a join

-- units with their target ends, marks, and the refusal that these bring about
pub record Plan : Type 0 where
  pub refusal : Option Refusal
  pub units : List Unit
  pub marks : List ℕ

abbrev pub empty_plan : Plan
empty_plan = record { refusal = None; units = []; marks = [] }

-- 'The simple join sums period samples and ignores ends and targets'
unfoldable pub simple_plan : Voice → List Unit → Plan
simple_plan v us = record { refusal = mark_refusal most_marks (natural_marks v 0 us); units = natural_units v 0 us; marks = natural_marks v 0 us }

-- 'reports target ends in unit order, then marks in the order made'
unfoldable pub modified_plan : Voice → List Unit → List Target → Plan
modified_plan v us ts =
    let made = pitch_marks v.header.rate ts in
    record { refusal = or_next (end_refusal us) made.refusal; units = us; marks = made.marks }

-- the plan of two segments or more, folded already
unfoldable pub plan_by : JoinType → Voice → List SegmentRead → List Target → Plan
plan_by None v ss ts = empty_plan
plan_by Simple v ss ts = simple_plan v (units_of v ss)
plan_by ModifiedLpc v ss ts = modified_plan v (units_of v ss) ts

-- 'Join none, or fewer than two segments, gives zero periods with no mark made'
unfoldable pub plan_of : Voice → Sheet → Settings → Plan
plan_of v s o =
    elim (ltb (length s.segments) 2) [ true ↦ empty_plan | false ↦ plan_by o.join v (folded o.fold s.segments) s.targets ]

-- ---- what refuses a call whose voice is open and whose sheet is read, apart from its buffers

-- document 02, A1: 'It refuses with 16 a strict call in which some pair finds no name that it tries before the sorted first entry, under
-- every join, ..'
unfoldable pub missing_refusal : Voice → Sheet → Settings → Option Refusal
missing_refusal v s o = pick (o.strict && not (tried_found v o.fold s.segments)) (Some MissingPair) None

-- '.. after the sheet's checks and before target ends'
unfoldable pub read_refusal : Voice → Sheet → Settings → Option Refusal
read_refusal v s o = or_next (missing_refusal v s o) (plan_of v s o).refusal

-- ---- the periods taken, and their samples

-- whether the units of a join end where they naturally do
abbrev pub is_simple : JoinType → Bool
is_simple None = false
is_simple Simple = true
is_simple ModifiedLpc = false

unfoldable pub periods_taken : Voice → Sheet → Settings → List Period
periods_taken v s o = taken (is_simple o.join) v (plan_of v s o).units (plan_of v s o).marks

-- what the filter is lent, cut into periods
abbrev pub parts_of : Voice → List Period → List Part
parts_of v ps = cut v.header.order (sizes_of ps) (rows_of ps) (excitation_of ps)

-- the filter that a call ends up with: the one that it names, else float (document 02, A5)
abbrev pub filter_by : Option ResynthType → ResynthType
filter_by None = Float
filter_by (Some f) = f

abbrev pub filter_in : Settings → ResynthType
filter_in o = filter_by o.filter

-- the periods of samples of a call, each sample a word of 16 bits
unfoldable pub periods_of : Voice → Sheet → Settings → List (List ℕ)
periods_of v s o = periods_by (filter_in o) v.header.coeff_min v.header.coeff_range (parts_of v (periods_taken v s o))

-- all samples of a call
unfoldable pub samples_of_call : Voice → Sheet → Settings → List ℕ
samples_of_call v s o = flat (λ (p : List ℕ). p) (periods_of v s o)

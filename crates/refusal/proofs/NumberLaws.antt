-- How large the number of a refusal is: from 1 on, and document 02 goes up to 22.
use Prim.Native.Nat.{◌≤◌}
use native.Mathlib.Omega.{arith}
use Rattle.refusal.specs.declared.Refusal.{Refusal}
use Rattle.refusal.specs.declared.Refusal.TheVariants.{BadMagic, SectionCut, NotDiphone, MissingSection, BadHeader, BadTables, BadIndex, BadSheet, NotFinite, BadSlope, PastLimit, TooManyMarks, ShortBuffer, ShortSlice, BadState, MissingPair, LongText}
use Rattle.refusal.specs.Number.{number_of}

range : (r : Refusal) → (1 ≤ number_of r) × (number_of r ≤ 22)
range BadMagic = (omega arith, omega arith)
range SectionCut = (omega arith, omega arith)
range NotDiphone = (omega arith, omega arith)
range MissingSection = (omega arith, omega arith)
range BadHeader = (omega arith, omega arith)
range BadTables = (omega arith, omega arith)
range BadIndex = (omega arith, omega arith)
range BadSheet = (omega arith, omega arith)
range NotFinite = (omega arith, omega arith)
range BadSlope = (omega arith, omega arith)
range PastLimit = (omega arith, omega arith)
range TooManyMarks = (omega arith, omega arith)
range ShortBuffer = (omega arith, omega arith)
range ShortSlice = (omega arith, omega arith)
range BadState = (omega arith, omega arith)
range MissingPair = (omega arith, omega arith)
range LongText = (omega arith, omega arith)

pub number-some : (r : Refusal) → 1 ≤ number_of r
number-some r = (range r).0

pub number-low : (r : Refusal) → number_of r ≤ 22
number-low r = (range r).1

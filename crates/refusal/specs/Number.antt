-- Document 01, 'Refused calls', and document 02: the number of each cause.
use Rattle.std.specs.Prelude.{ℕ, None, Option, Some}
use Rattle.refusal.specs.declared.Refusal.{Refusal}
use Rattle.refusal.specs.declared.Refusal.TheVariants.{BadMagic, SectionCut, NotDiphone, MissingSection, BadHeader, BadTables, BadIndex, BadSheet, NotFinite, BadSlope, PastLimit, TooManyMarks, ShortBuffer, ShortSlice, BadState, MissingPair, LongText}

abbrev pub number_of : Refusal → ℕ
-- first 8 bytes not `FLRSDAT` and 0x01
number_of BadMagic = 1
-- section cut short, or its name not UTF-8
number_of SectionCut = 2
-- `Container::backend` does not give `Diphone`
number_of NotDiphone = 3
-- needed section missing
number_of MissingSection = 4
-- header cut short or outside its limits
number_of BadHeader = 5
-- voice tables inconsistent
number_of BadTables = 6
-- index cut short, empty, name not UTF-8 or twice, or an entry ends past frames
number_of BadIndex = 7
-- call sheet malformed
number_of BadSheet = 8
-- sheet float not finite
number_of NotFinite = 9
-- slope not finite as f32
number_of BadSlope = 10
-- mark or target end above 16,777,215
number_of PastLimit = 11
-- more than 65,536 marks
number_of TooManyMarks = 12
-- a buffer lent for a call or an opening is shorter than stated, or a program's file longer than its limit
number_of ShortBuffer = 13
-- sample slice shorter than the next period
number_of ShortSlice = 14
-- filter state impossible, or coefficients end within the next row
number_of BadState = 15
-- 'some pair finds no name that it tries before the sorted first entry', in a strict call (document 02, A1)
number_of MissingPair = 16
-- 'a length byte above 12, whatever follows it' (document 02, A4)
number_of LongText = 17

-- 0, or the number
abbrev pub answer_of : Option Refusal → ℕ
answer_of None = 0
answer_of (Some r) = number_of r

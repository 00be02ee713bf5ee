-- Document 01, 'Call sheet', and document 02, A4: reading one stops at the first 8, 9 or 17.
use Rattle.std.specs.Prelude.{ℕ, zero, suc, ◌+◌, ◌-◌, ◌*◌, Bool, true, false, not, ◌&&◌, ◌||◌, List, [], ◌∷◌, length, take, drop, pos, ◌==◌, from_bits, nat_lt, Float, None, Option, Some}
use Rattle.std.specs.Float.{nan, inf, fin, binary32}
use Rattle.std.specs.Float.Ieee.{of_int}
use Rattle.base.specs.Choice.{pick, within}
use Rattle.base.specs.Bytes.{little_endian}
use Rattle.base.specs.Words.{signed32}
use Rattle.decimal.specs.Decimal.{text_value}
use Rattle.refusal.specs.declared.Refusal.{Refusal}
use Rattle.refusal.specs.declared.Refusal.TheVariants.{BadSheet, NotFinite, LongText}
use Rattle.sheet.specs.declared.Value.{Value}
use Rattle.sheet.specs.declared.Value.TheVariants.{Int, Float as FloatValue, Absent}
use Rattle.sheet.specs.declared.Target.{Target}

-- a segment as read: its name's bytes, its end value, and its follower (0 none, else the number from 1 of the segment next in the syllable)
pub record SegmentRead : Type 0 where
  pub name : List ℕ
  pub end : Value
  pub follower : ℕ

pub record Sheet : Type 0 where
  pub segments : List SegmentRead
  pub targets : List Target

-- ---- reading from the front of some bytes: a refusal, or what was read and the bytes after it

pub data Got (A : Type 0) : Type 0 where
  fails : Refusal → Got A
  gets : A → List ℕ → Got A

infixl 20 ◌and_then◌
unfoldable pub ◌and_then◌ : {A B : Type 0} → Got A → (A → List ℕ → Got B) → Got B
fails r and_then f = fails r
gets a bs and_then f = f a bs

-- 8 where the test passes
abbrev pub malformed_if : {A : Type 0} → Bool → Got A → Got A
malformed_if true g = fails BadSheet
malformed_if false g = g

-- 'groups of seven bits, lowest first, bit 7 set on all but the last, at most five groups, shortest form': AC 02 is 44 + 128 * 2 = 300;
-- 80 00 is a longer form of 0, so a last group of 0 must be the first. At most n groups follow; `first` says that none came before.
unfoldable pub groups : ℕ → Bool → List ℕ → Got ℕ
groups zero first bs = fails BadSheet
groups (suc n) first [] = fails BadSheet
groups (suc n) first (b ∷ bs) =
    elim (nat_lt b 128) [
      | true ↦ malformed_if (not first && b == 0) (gets b bs)
      | false ↦ groups n false bs and_then (λ m r. gets (b - 128 + 128 * m) r)
    ]

abbrev pub number : List ℕ → Got ℕ
number bs = groups 5 true bs

-- 'At most 4,096 of each'
unfoldable pub count : List ℕ → Got ℕ
count bs = number bs and_then λ n r. malformed_if (nat_lt 4096 n) (gets n r)

-- 'names 0 to 32 bytes, each 33 to 126'
unfoldable pub printable : List ℕ → Bool
printable [] = true
printable (b ∷ bs) = within 33 126 b && printable bs

unfoldable pub name : List ℕ → Got (List ℕ)
name bs = number bs and_then λ n r. malformed_if (nat_lt 32 n || (nat_lt (length r) n || not (printable (take n r)))) (gets (take n r) (drop n r))

-- ---- values: 'kind byte 0 and i32, 1 and f32 bits, 2 alone, little-endian'; 3 and a text

unfoldable pub is_finite : Float → Bool
is_finite nan = false
is_finite (inf s) = false
is_finite (fin s m e) = true

-- 9 where the float is not finite
unfoldable pub finite : Float → List ℕ → Got Value
finite x r = pick (is_finite x) (gets (FloatValue x) r) (fails NotFinite)

-- 'a length byte and up to 12 bytes'; 17 'a length byte above 12, whatever follows it'. The value is the float that the text stands for.
unfoldable pub text : List ℕ → Got Value
text [] = fails BadSheet
text (n ∷ bs) =
    pick (nat_lt 12 n) (fails LongText)
    (malformed_if (nat_lt (length bs) n) (gets (FloatValue (text_value (take n bs))) (drop n bs)))

unfoldable pub value_of : ℕ → List ℕ → Got Value
value_of zero bs = malformed_if (nat_lt (length bs) 4) (gets (Int (signed32 (little_endian 4 bs 0))) (drop 4 bs))
value_of (suc zero) bs = malformed_if (nat_lt (length bs) 4) (finite (from_bits binary32 (little_endian 4 bs 0)) (drop 4 bs))
value_of (suc (suc zero)) bs = gets Absent bs
value_of (suc (suc (suc zero))) bs = text bs
value_of (suc (suc (suc (suc k)))) bs = fails BadSheet

unfoldable pub value : List ℕ → Got Value
value [] = fails BadSheet
value (k ∷ bs) = value_of k bs

-- 'Whole numbers become f32 to nearest, ties to even; absent counts 0'
unfoldable pub as_f32 : Value → Float
as_f32 (Int i) = of_int binary32 i
as_f32 (FloatValue x) = x
as_f32 Absent = fin false 0 (pos 0)

-- ---- the sheet

-- 'end value, follower', after the name nm; a follower above the segment count n gives 8
abbrev pub segment_after : ℕ → List ℕ → List ℕ → Got SegmentRead
segment_after n nm bs =
    value bs and_then λ end r.
    number r and_then λ follower r₁.
    malformed_if (nat_lt n follower) (gets (record { name = nm; end = end; follower = follower }) r₁)

-- 'name length, name, end value, follower'
unfoldable pub segment : ℕ → List ℕ → Got SegmentRead
segment n bs = name bs and_then λ nm r. segment_after n nm r

-- 'pos value, f0 value'
unfoldable pub target : List ℕ → Got Target
target bs =
    value bs and_then λ p r.
    value r and_then λ f r₁.
    gets (record { pos = p; f0 = f }) r₁

-- n in a row
unfoldable pub repeated : {A : Type 0} → (List ℕ → Got A) → ℕ → List ℕ → Got (List A)
repeated one zero bs = gets [] bs
repeated one (suc n) bs = one bs and_then λ x r. repeated one n r and_then λ xs r₁. gets (x ∷ xs) r₁

-- segments, or targets, as read: how many, the bytes from the first of them on, and each
pub record Counted (A : Type 0) : Type 0 where
  pub count : ℕ
  pub from : List ℕ
  pub items : List A

-- a count n, then n times what `one n` reads
abbrev pub counted : {A : Type 0} → (ℕ → List ℕ → Got A) → List ℕ → Got (Counted A)
counted one bs =
    count bs and_then λ n r.
    repeated (one n) n r and_then λ xs r₁.
    gets (record { count = n; from = r; items = xs }) r₁

pub record Parts : Type 0 where
  pub segments : Counted SegmentRead
  pub targets : Counted Target

-- 'Segment count; per segment ..; then target count; per target ..'; bytes left over give 8
unfoldable pub sheet_from : List ℕ → Got Parts
sheet_from bs =
    counted segment bs and_then λ segments r.
    counted (λ n. target) r and_then λ targets r₁.
    malformed_if (nat_lt 0 (length r₁)) (gets (record { segments = segments; targets = targets }) r₁)

abbrev pub refusal_in : {A : Type 0} → Got A → Option Refusal
refusal_in (fails r) = Some r
refusal_in (gets x bs) = None

abbrev pub sheet_in : Got Parts → Sheet
sheet_in (fails r) = record { segments = []; targets = [] }
sheet_in (gets p bs) = record { segments = p.segments.items; targets = p.targets.items }

unfoldable pub sheet_refusal : List ℕ → Option Refusal
sheet_refusal bs = refusal_in (sheet_from bs)

-- the sheet that was read; an empty one where it is refused
unfoldable pub sheet_of : List ℕ → Sheet
sheet_of bs = sheet_in (sheet_from bs)

-- Inner: what the reader of the sheet says at a place, held against the definition's reading of the bytes from there on.
use Rattle.std.specs.Prelude.{◌≡◌, ℕ, ◌+◌, ◌<◌, ◌≤◌, List, length, drop, nat_lt, Err, Ok, Result}
use Rattle.base.specs.Bytes.{little_endian}
pub use Rattle.base.specs.Spans.{bytes_at}
use Rattle.base.specs.declared.Span.{Span}
use Rattle.refusal.specs.declared.Refusal.{Refusal}
use Rattle.sheet.specs.Sheet.{SegmentRead, Got, fails, gets, malformed_if}
use Rattle.sheet.specs.Places.{mapped}
use Rattle.sheet.specs.declared.Read.{Read}
use Rattle.sheet.specs.declared.Value.{Value}
use Rattle.sheet.specs.declared.Segment.{Segment}
use Rattle.sheet.specs.declared.Target.{Target}
use Rattle.sheet.specs.declared.Items.{Items}

-- what a function of the reader says: a refusal, or what was read and the place after it
pub data Said (A : Type 0) : Type 0 where
  refuses : Refusal → Said A
  reads : A → ℕ → Said A

-- the same in the definition's terms: what was read by its meaning, the place after it by the bytes of the sheet from there on
abbrev pub meant : {A B : Type 0} → List ℕ → (A → B) → Said A → Got B
meant sheet meaning (refuses r) = fails r
meant sheet meaning (reads a next) = gets (meaning a) (drop next sheet)

-- the place after it is within the sheet, and P holds of what was read
abbrev pub Within : {A : Type 0} → List ℕ → (A → Type 0) → Said A → Type 0
Within sheet P (refuses r) = Unit
Within sheet P (reads a next) = (next ≤ length sheet) × P a

-- what is said agrees with a reading: it means the same, and is within the sheet
pub record Agrees {A B : Type 0} (sheet : List ℕ) (meaning : A → B) (P : A → Type 0) (said : Said A) (reading : Got B) : Type 0 where
  pub same : meant sheet meaning said ≡ reading
  pub within : Within sheet P said

-- ---- what each function says, and when that agrees

abbrev pub says : {A : Type 0} → Result (Read A) Refusal → Said A
says (Err r) = refuses r
says (Ok x) = reads x.value x.next

-- a number below a bound
abbrev pub NumberIs : List ℕ → ℕ → Result (Read ℕ) Refusal → Got ℕ → Type 0
NumberIs sheet bound r reading = Agrees sheet (λ n. n) (λ n. n < bound) (says r) reading

-- a name is within the sheet
abbrev pub NameIs : List ℕ → Result (Read Span) Refusal → Got (List ℕ) → Type 0
NameIs sheet r reading = Agrees sheet (bytes_at sheet) (λ s. s.at + s.len ≤ length sheet) (says r) reading

abbrev pub ValueIs : List ℕ → Result (Read Value) Refusal → Got Value → Type 0
ValueIs sheet r reading = Agrees sheet (λ v. v) (λ v. Unit) (says r) reading

-- four bytes
abbrev pub word : List ℕ → Got ℕ
word bs = malformed_if (nat_lt (length bs) 4) (gets (little_endian 4 bs 0) (drop 4 bs))

abbrev pub WordIs : List ℕ → Result (Read ℕ) Refusal → Got ℕ → Type 0
WordIs sheet r reading = Agrees sheet (λ n. n) (λ n. Unit) (says r) reading

-- a segment's name is where it stands
abbrev pub segment_read : List ℕ → Segment → SegmentRead
segment_read sheet s = record { name = bytes_at sheet s.name; end = s.end; follower = s.follower }

-- its name is within the sheet, and its follower at most the count
abbrev pub SegmentSaid : List ℕ → ℕ → Said Segment → Got SegmentRead → Type 0
SegmentSaid sheet count said reading =
    Agrees sheet (segment_read sheet) (λ s. (s.name.at + s.name.len ≤ length sheet) × (s.follower ≤ count)) said reading

abbrev pub SegmentIs : List ℕ → ℕ → Result (Read Segment) Refusal → Got SegmentRead → Type 0
SegmentIs sheet count r reading = SegmentSaid sheet count (says r) reading

abbrev pub TargetSaid : List ℕ → Said Target → Got Target → Type 0
TargetSaid sheet said reading = Agrees sheet (λ t. t) (λ t. Unit) said reading

abbrev pub TargetIs : List ℕ → Result (Read Target) Refusal → Got Target → Type 0
TargetIs sheet r reading = TargetSaid sheet (says r) reading

abbrev pub ItemsIs : List ℕ → Result (Read Items) Refusal → Got Items → Type 0
ItemsIs sheet r reading = Agrees sheet (λ i. i) (λ i. Unit) (says r) reading

-- so many items from a place on, where a reading read them
abbrev pub standing : {A : Type 0} → ℕ → ℕ → Got A → Got Items
standing n at g = mapped (λ x. record { count = n; at = at }) g

-- What is kept of records as they are read: what a query keeps of their features, or their first fault. Only contracts
-- of private functions cite this.
use Rattle.std.specs.Prelude.{◌≡◌, ℕ, ◌+◌, ◌-◌, ◌<◌, ◌≤◌, true, List, [], ◌∷◌, ◌++◌, length, drop, slice_index, Option}
use Rattle.std.specs.Prelude.{Some, None, Result, Ok, Err}
use Rattle.std.specs.List.{position_or_len}
use Rattle.at_text.specs.Faults.{fault_at, first_of}
use Rattle.at_text.specs.declared.faults.Fault.{Fault}
use Rattle.at_text.specs.declared.faults.FaultKind.TheVariants as kinds
use Rattle.at_text.specs.declared.texts.Span.{Span}
use Rattle.at_text.specs.Spans.{span_of}
use Rattle.at_text.specs.Texts.{is_space}
use Rattle.at_lex.specs.Fronts.{IsFront}
use Rattle.at_fixed.specs.declared.rounding.Coords.{Coords}
use Rattle.at_nest.specs.declared.finishing.NestEnd.{NestEnd}
use Rattle.at_nest.specs.declared.finishing.NestEnd.TheVariants as texts
use Rattle.at_query.specs.declared.features.Feature.{Feature}
use Rattle.at_query.specs.declared.answer.parts.Part.{Part}
use Rattle.at_query.specs.declared.answer.accumulators.Accumulator.{Accumulator}
use Rattle.at_query.specs.Parts.{IsPart}
use Rattle.at_query.specs.Accumulators.{IsAccumulated}
use Rattle.at_query.specs.Keeping.{Asked}
use Rattle.at_query.specs.declared.answer.gathered.Gathered.{Gathered}
use Rattle.at_query.specs.declared.answer.gathered.Gathered.TheVariants.{Kept, Failed}
use Rattle.at_text.specs.Separated.{Piece}
use Rattle.at_seq.specs.Records.{is_separator, records_in}
use Rattle.at_seq.specs.Sequences.{HaveRecordFaults, AreRecordFeatures}

-- the first fault of the records, or none
abbrev pub IsFirstOfRecords : ℕ → Coords → List Piece → Option Fault → Type 0
IsFirstOfRecords digits how records first = (faults : List Fault) × HaveRecordFaults digits how records faults
    × (first ≡ first_of faults)

-- what the query keeps of the features of the records
abbrev pub IsKeptOfRecords : Asked → List Piece → Accumulator → Type 0
IsKeptOfRecords asked records kept = (features : List Feature)
    × AreRecordFeatures asked.digits asked.how records features × IsAccumulated asked.query features kept

-- none of the records has a fault, and this is kept of their features; or this is the first of their faults
abbrev pub IsGathered : Asked → Gathered → List Piece → Type 0
IsGathered asked (Kept kept) records = IsFirstOfRecords asked.digits asked.how records None
    × IsKeptOfRecords asked records kept
IsGathered asked (Failed fault) records = IsFirstOfRecords asked.digits asked.how records (Some fault)

-- of whatever records the one is gathered, the next is gathered of those and of these behind them
abbrev pub AddsRecords : Asked → Gathered → List Piece → Gathered → Type 0
AddsRecords asked old more new = (before : List Piece) → IsGathered asked old before
    → IsGathered asked new (before ++ more)

-- the part of the record's features where it has no fault, and else the first of its faults
abbrev pub HasRecordPart : Asked → Piece → Result Part Fault → Type 0
HasRecordPart asked r (Ok part) = IsFirstOfRecords asked.digits asked.how (r ∷ []) None × ((features : List Feature)
    × AreRecordFeatures asked.digits asked.how (r ∷ []) features × IsPart asked.query features part)
HasRecordPart asked r (Err fault) = IsFirstOfRecords asked.digits asked.how (r ∷ []) (Some fault)

-- of a record that ends at the offset and is no JSON text
abbrev pub IsEndFault : ℕ → NestEnd → Fault → Type 0
IsEndFault to (texts.Syntax place) fault = fault ≡ fault_at kinds.Syntax place
IsEndFault to texts.Ended fault = fault ≡ fault_at kinds.Ended to
IsEndFault to texts.Memory fault = ⊥

-- from the place on nothing but white space stands before the end, and there a separator
pub record IsSeparatorBehind (w : List ℕ) (from end : ℕ) : Type 0 where
  pub more : ℕ
  pub end_is : end ≡ from + more
  pub spaces : IsFront is_space (drop from w) more
  pub inside : end < length w
  pub separator : is_separator (slice_index w end) ≡ true

-- the span's first separator stands at the offset, and the record before it is put behind those of which the one is
-- gathered
pub record AddsFirst (asked : Asked) (bytes : List ℕ) (span : Span) (old new : Gathered) (end : ℕ) : Type 0 where
  pub begins : span.from ≤ end
  pub inside : end < span.to
  pub first : end - span.from ≡ position_or_len is_separator (span_of bytes span.from span.to)
  pub adds : AddsRecords asked old (records_in (record { at = span.from; text = span_of bytes span.from end } ∷ [])) new

-- or nothing is put
abbrev pub AddsFeature : Asked → List ℕ → Span → Gathered → Gathered → Option ℕ → Type 0
AddsFeature asked bytes span old new (Some end) = AddsFirst asked bytes span old new end
AddsFeature asked bytes span old new None = new ≡ old

-- or the span has no separator, and nothing is put
abbrev pub AddsNext : Asked → List ℕ → Span → Gathered → Gathered → Option ℕ → Type 0
AddsNext asked bytes span old new (Some end) = AddsFirst asked bytes span old new end
AddsNext asked bytes span old new None = (new ≡ old)
    × (span.to - span.from ≡ position_or_len is_separator (span_of bytes span.from span.to))

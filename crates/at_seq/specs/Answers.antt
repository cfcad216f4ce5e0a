-- The part of a sequence's features under a query, and why there is none. Nothing here knows of blocks.
use Rattle.std.specs.Prelude.{ℕ, List, None}
use Rattle.at_fixed.specs.declared.rounding.Coords.{Coords}
use Rattle.at_query.specs.declared.query.queries.Query.{Query}
use Rattle.at_query.specs.declared.features.Feature.{Feature}
use Rattle.at_query.specs.declared.answer.parts.Part.{Part}
use Rattle.at_query.specs.declared.answer.parts.Part.TheVariants.{Entries}
use Rattle.at_query.specs.Parts.{IsPart, AreProper}
use Rattle.at_seq.specs.Sequences.{HasSeqFault, AreSeqFeatures}

-- the sequence has no fault, and the part is that of its features
pub record IsSeqPart (digits : ℕ) (how : Coords) (query : Query) (bytes : List ℕ) (part : Part) : Type 0 where
  pub faultless : HasSeqFault digits how bytes None
  pub features : List Feature
  pub are_features : AreSeqFeatures digits how bytes features
  pub is_part : IsPart query features part

-- the entries of a part that is one of a join can be joined
abbrev pub HasProperEntries : Part → Type 0
HasProperEntries (Entries entries) = AreProper entries
HasProperEntries _ = Unit {0}

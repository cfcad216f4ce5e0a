-- What a whole sequence ends in. Only contracts of private functions cite this.
use Rattle.std.specs.Prelude.{◌≡◌, List, Option, Some, None, Result, Ok, Err}
use Rattle.at_text.specs.Faults.{first_fault}
use Rattle.at_text.specs.declared.faults.Fault.{Fault}
use Rattle.at_query.specs.declared.query.queries.Query.{Query}
use Rattle.at_query.specs.declared.features.Feature.{Feature}
use Rattle.at_query.specs.declared.answer.parts.Part.{Part}
use Rattle.at_query.specs.declared.answer.accumulators.Accumulator.{Accumulator}
use Rattle.at_query.specs.Parts.{IsPart}
use Rattle.at_query.specs.Accumulators.{IsAccumulated}
use Rattle.at_query.specs.declared.answer.gathered.Gathered.{Gathered}
use Rattle.at_query.specs.declared.answer.gathered.Gathered.TheVariants.{Kept, Failed}
use Rattle.at_text.specs.declared.refusals.Refusal.{Refusal}
use Rattle.at_text.specs.declared.refusals.Refusal.TheVariants.{Found, Memory}

-- the part of whatever features these are kept of, or want of memory
abbrev pub BecomesPart : Accumulator → Result Part Refusal → Type 0
BecomesPart kept (Ok part) = (query : Query) (fs : List Feature) → IsAccumulated query fs kept → IsPart query fs part
BecomesPart kept (Err end) = end ≡ Memory

-- from what is gathered of the records, and the fault of what stands before the first separator, if it has one
abbrev pub IsEndOf : Gathered → Option Fault → Result Part Refusal → Type 0
IsEndOf (Kept kept) None result = BecomesPart kept result
IsEndOf (Kept kept) (Some fault) result = result ≡ Err (Found fault)
IsEndOf (Failed fault) head result = (first : Fault) × (result ≡ Err (Found first))
    × (Some first ≡ first_fault head (Some fault))

-- The first fault of a file of GeoJSON, and what such a file ends in. Nothing here knows of blocks.
use Rattle.std.specs.Prelude.{◌≡◌, ◌⊎◌, ℕ, List, [], ◌∷◌, Option, Some, None, Result, Ok, Err}
use Rattle.std.specs.Bool.{⊤}
use Rattle.at_text.specs.Faults.{fault_at, first_of}
use Rattle.at_text.specs.Texts.{utf8_fault}
use Rattle.at_text.specs.declared.faults.Fault.{Fault}
use Rattle.at_text.specs.declared.faults.FaultKind.TheVariants as kinds
use Rattle.at_fixed.specs.declared.rounding.Coords.{Coords}
use Rattle.at_nest.specs.Tree.{Tree}
use Rattle.at_nest.specs.Syntax.{IsFileOf, HasJsonFault}
use Rattle.at_nest.specs.declared.finishing.NestEnd.{NestEnd}
use Rattle.at_nest.specs.declared.finishing.NestEnd.TheVariants as texts
use Rattle.at_query.specs.declared.query.queries.Query.{Query}
use Rattle.at_query.specs.declared.answer.parts.Part.{Part}
use Rattle.at_query.specs.Parts.{IsPart}
use Rattle.at_text.specs.declared.refusals.Refusal.{Refusal}
use Rattle.at_geojson.specs.Roles.{features_of}
use Rattle.at_geojson.specs.Wholes.{faults_of}
use Rattle.at_text.specs.declared.refusals.Refusal.TheVariants.{Found, Memory}

module _ (digits : ℕ) (how : Coords) where
  -- the one syntax fault, or else all equal names and all that the roles find wrong
  abbrev pub HaveJsonFaults : List ℕ → List Fault → Type 0
  HaveJsonFaults bytes faults = ((fault : Fault) × HasJsonFault bytes (Some fault) × (faults ≡ fault ∷ []))
      ⊎ ((t : Tree) × IsFileOf bytes t × (faults ≡ faults_of digits how t))

  abbrev pub HasJsonFaultBehind : Option Fault → List ℕ → Option Fault → Type 0
  HasJsonFaultBehind (Some fault) bytes first = first ≡ Some fault
  HasJsonFaultBehind None bytes first = (faults : List Fault) × HaveJsonFaults bytes faults × (first ≡ first_of faults)

  -- the first fault of a file, or none: that of its encoding, or else the first of all others
  abbrev pub HasJsonFileFault : List ℕ → Option Fault → Type 0
  HasJsonFileFault bytes first = HasJsonFaultBehind (utf8_fault bytes) bytes first

  -- what a file whose encoding has no fault ends in
  abbrev pub EndsJson : Query → List ℕ → Result Part Refusal → Type 0
  EndsJson query bytes (Ok part) = (t : Tree) × IsFileOf bytes t × (faults_of digits how t ≡ [])
      × IsPart query (features_of digits how t) part
  EndsJson query bytes (Err (Found fault)) = (faults : List Fault) × HaveJsonFaults bytes faults
      × (Some fault ≡ first_of faults)
  EndsJson query bytes (Err Memory) = ⊤

-- why a text of so many bytes has no tree
abbrev pub text_end : ℕ → NestEnd → Refusal
text_end len (texts.Syntax place) = Found (fault_at kinds.Syntax place)
text_end len texts.Ended = Found (fault_at kinds.Ended len)
text_end len texts.Memory = Memory

-- The faults of a GeoJSON text sequence, its first one, and its features. Nothing here knows of blocks.
use Rattle.std.specs.Prelude.{◌≡◌, ◌⊎◌, ℕ, ◌+◌, if◌then◌else◌, List, [], ◌∷◌, ◌++◌, Option, Some, None}
use Rattle.at_text.specs.Faults.{fault_at, first_of}
use Rattle.at_text.specs.Syntax.{IsSyntaxFault}
use Rattle.at_text.specs.Texts.{is_space, utf8_fault}
use Rattle.at_text.specs.declared.faults.Fault.{Fault}
use Rattle.at_text.specs.declared.faults.FaultKind.TheVariants.{Syntax}
use Rattle.at_fixed.specs.declared.rounding.Coords.{Coords}
use Rattle.at_nest.specs.Tree.{Tree, IsTextOf}
use Rattle.at_nest.specs.Syntax.{JsonText}
use Rattle.at_query.specs.declared.features.Feature.{Feature}
use Rattle.at_geojson.specs.Roles.{features_of}
use Rattle.at_geojson.specs.Wholes.{faults_of}
use Rattle.at_text.specs.Separated.{Piece}
use Rattle.at_seq.specs.Records.{pieces_of, records_of}

-- Syntax at the first byte that is no white space, where there is one; the first byte has the offset
abbrev pub stray_faults : ℕ → List ℕ → List Fault
stray_faults at [] = []
stray_faults at (b ∷ w) = if is_space b then stray_faults (at + 1) w else fault_at Syntax at ∷ []

-- that of the first piece, which is no record
abbrev pub head_faults : List Piece → List Fault
head_faults [] = []
head_faults (head ∷ records) = stray_faults head.at head.text

module _ (digits : ℕ) (how : Coords) where
  -- the one syntax fault of a record as a JSON text, or else all equal names and all that the roles find wrong
  abbrev pub HasRecordFaults : Piece → List Fault → Type 0
  HasRecordFaults r faults = ((fault : Fault) × IsSyntaxFault (JsonText r.at) r.at r.text fault × (faults ≡ fault ∷ []))
      ⊎ ((t : Tree) × IsTextOf r.at r.text t × (faults ≡ faults_of digits how t))

  abbrev pub HaveRecordFaults : List Piece → List Fault → Type 0
  HaveRecordFaults [] faults = faults ≡ []
  HaveRecordFaults (r ∷ rs) faults = (first others : List Fault) × HasRecordFaults r first × HaveRecordFaults rs others
      × (faults ≡ first ++ others)

  -- the fault of the encoding where there is one, or else the first of what stands before the records and of all
  -- records' faults
  abbrev pub HasSeqFaultBehind : Option Fault → List ℕ → Option Fault → Type 0
  HasSeqFaultBehind (Some fault) bytes first = first ≡ Some fault
  HasSeqFaultBehind None bytes first = (faults : List Fault) × HaveRecordFaults (records_of bytes) faults
      × (first ≡ first_of (head_faults (pieces_of bytes) ++ faults))

  -- the first fault of a sequence, or none
  abbrev pub HasSeqFault : List ℕ → Option Fault → Type 0
  HasSeqFault bytes first = HasSeqFaultBehind (utf8_fault bytes) bytes first

  -- no other is the first fault of the sequence
  abbrev pub TheSeqFault : List ℕ → Option Fault → Type 0
  TheSeqFault bytes first = (other : Option Fault) → HasSeqFault bytes other → other ≡ first

  -- the features of the trees that the records spell, in order
  abbrev pub AreRecordFeatures : List Piece → List Feature → Type 0
  AreRecordFeatures [] features = features ≡ []
  AreRecordFeatures (r ∷ rs) features = (t : Tree) × (others : List Feature) × IsTextOf r.at r.text t
      × AreRecordFeatures rs others × (features ≡ features_of digits how t ++ others)

  abbrev pub AreSeqFeatures : List ℕ → List Feature → Type 0
  AreSeqFeatures bytes features = AreRecordFeatures (records_of bytes) features

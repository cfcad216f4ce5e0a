-- Files of lines and text sequences that are cut between lines or records, and what the parts say of the whole file.
use Rattle.std.specs.Prelude.{◌≡◌, ◌⊎◌, ℕ, ◌<◌, List, [], ◌∷◌, ◌++◌, length, map, Option, option_map}
use Rattle.at_text.specs.declared.faults.Fault.{Fault}
use Rattle.at_text.specs.Faults.{first_fault}
use Rattle.at_text.specs.Texts.{utf8_fault, base_of}
use Rattle.at_fixed.specs.declared.rounding.Coords.{Coords}
use Rattle.at_query.specs.declared.features.Feature.{Feature}
use Rattle.at_run.specs.Features.{AreFileFeatures}
use Rattle.at_run.specs.LineFaults.{HasLinesFault}
use Rattle.at_seq.specs.Sequences.{HasSeqFault, AreSeqFeatures}
use Rattle.at_parts.specs.Moved.{feature_moved, fault_moved}

-- the byte before the cut is one of ASCII, or the byte behind it is
abbrev pub IsCutByAscii : List ℕ → List ℕ → Type 0
IsCutByAscii a b = ((front : List ℕ) × (c : ℕ) × (a ≡ front ++ c ∷ []) × (c < 0x80))
    ⊎ ((c : ℕ) × (rest : List ℕ) × (b ≡ c ∷ rest) × (c < 0x80))

-- the fault of the encoding of bytes that are cut so is that of the first part, or else that of the second, moved
abbrev pub EncodingIsOfTheParts : Type 0
EncodingIsOfTheParts = (a b : List ℕ) → IsCutByAscii a b
    → utf8_fault (a ++ b) ≡ first_fault (utf8_fault a) (option_map (fault_moved (length a)) (utf8_fault b))

-- a file of lines is cut behind a line feed, and no byte order mark stands behind the cut
abbrev pub AreLinesCut : List ℕ → List ℕ → Type 0
AreLinesCut a b = ((front : List ℕ) × (a ≡ front ++ 0x0A ∷ [])) × (base_of b ≡ 0)

-- a text sequence is cut before a separator
abbrev pub AreRecordsCut : List ℕ → List ℕ → Type 0
AreRecordsCut a b = (rest : List ℕ) × (b ≡ 0x1E ∷ rest)

-- the features of a file that is cut so are those of both parts, in order, at their offsets in the file
abbrev pub HaveFeaturesOfParts : (List ℕ → List ℕ → Type 0) → (List ℕ → List Feature → Type 0) → Type 0
HaveFeaturesOfParts AreCut Are = (a b : List ℕ) (fs gs : List Feature) → AreCut a b → Are a fs → Are b gs
    → Are (a ++ b) (fs ++ map (feature_moved (length a)) gs)

-- its first fault is the first of both parts' first faults, that of the second one at its offset in the file
abbrev pub HaveFaultsOfParts : (List ℕ → List ℕ → Type 0) → (List ℕ → Option Fault → Type 0) → Type 0
HaveFaultsOfParts AreCut Has = (a b : List ℕ) (f g : Option Fault) → AreCut a b → Has a f → Has b g
    → Has (a ++ b) (first_fault f (option_map (fault_moved (length a)) g))

module _ (digits : ℕ) (how : Coords) where
  abbrev pub LinesHaveFeaturesOfParts : Type 0
  LinesHaveFeaturesOfParts = HaveFeaturesOfParts AreLinesCut (AreFileFeatures digits how)

  abbrev pub LinesHaveFaultsOfParts : Type 0
  LinesHaveFaultsOfParts = HaveFaultsOfParts AreLinesCut (HasLinesFault digits how)

  abbrev pub SequencesHaveFeaturesOfParts : Type 0
  SequencesHaveFeaturesOfParts = HaveFeaturesOfParts AreRecordsCut (AreSeqFeatures digits how)

  abbrev pub SequencesHaveFaultsOfParts : Type 0
  SequencesHaveFaultsOfParts = HaveFaultsOfParts AreRecordsCut (HasSeqFault digits how)

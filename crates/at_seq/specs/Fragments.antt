-- What a fragment of a sequence stands for: the texts at its ends, and what is gathered of the records between them.
-- Only contracts of private functions cite this.
use Rattle.std.specs.Prelude.{◌≡◌, ℕ, ◌+◌, ◌≤◌, ◌<◌, List, [], ◌∷◌, ◌++◌, length}
use Rattle.at_text.specs.Spans.{span_of}
use Rattle.at_nest.specs.FragmentMeanings.{StandsFor}
use Rattle.at_nest.specs.declared.fragments.Fragment.{Fragment}
use Rattle.at_query.specs.Keeping.{Asked}
use Rattle.at_geojson.specs.declared.asked.GeoAlgebra.{GeoAlgebra}
use Rattle.at_geojson.specs.declared.atoms.atom.GeoAtom.{GeoAtom}
use Rattle.at_geojson.specs.Atoms.{IsGeoAtom}
use Rattle.at_blocks.specs.Encodings.{IsValidIn}
use Rattle.at_seq.specs.declared.fragments.Inner.{Inner}
use Rattle.at_seq.specs.declared.fragments.PartedText.{PartedText}
use Rattle.at_seq.specs.declared.fragments.SeqText.{SeqText}
use Rattle.at_seq.specs.declared.fragments.SeqText.TheVariants.{Lone, Parted}
use Rattle.at_seq.specs.declared.fragments.SeqRead.{SeqRead}
use Rattle.at_seq.specs.declared.fragments.SeqFragment.{SeqFragment}
use Rattle.at_seq.specs.declared.fragments.SeqFragment.TheVariants.{Lost, Read}
use Rattle.at_text.specs.Separated.{Piece}
use Rattle.at_seq.specs.Records.{pieces_from, records_in}
use Rattle.at_seq.specs.Gathering.{IsGathered}

-- a query with how numbers are read, and the bytes of the file of which it is asked
pub record SeqAsks : Type 0 where
  pub asked : Asked
  pub bytes : List ℕ

-- the bytes of the file from one place up to another, as a piece
abbrev pub piece_in : List ℕ → ℕ → ℕ → Piece
piece_in bytes i k = record { at = i; text = span_of bytes i k }

-- the pieces of these bytes
abbrev pub pieces_in : List ℕ → ℕ → ℕ → List Piece
pieces_in bytes i k = pieces_from i (span_of bytes i k)

-- for any meaning of what spans of a file give: the two are of neighbouring spans, and the third is of both
module _ {F : Type 0} (Holds : ℕ → ℕ → F → Type 0) (bytes : List ℕ) where
  abbrev pub AreBeside : ℕ → ℕ → ℕ → F → F → Type 0
  AreBeside i j k left right = (i ≤ j) × (j ≤ k) × (k ≤ length bytes) × Holds i j left × Holds j k right

  abbrev pub IsOfBoth : F → F → F → Type 0
  IsOfBoth left right both = (i j k : ℕ) → AreBeside i j k left right → Holds i k both

module _ (asked : Asked) (bytes : List ℕ) where
  -- the fragment stands for the bytes from i up to k as a span of JSON
  abbrev pub HoldsJson : ℕ → ℕ → Fragment GeoAlgebra GeoAtom → Type 0
  HoldsJson i k f = StandsFor (IsGeoAtom asked) i (span_of bytes i k) f

  -- the bytes from i up to k are those before their first separator, the records between that and their last one, and
  -- those behind it
  pub record HoldsParted (i k : ℕ) (parted : PartedText) : Type 0 where
    pub inner : List Piece
    pub pieces : pieces_in bytes i k ≡ piece_in bytes i parted.first ∷ (inner ++ piece_in bytes parted.last k ∷ [])
    pub begins : i ≤ parted.first
    pub order : parted.first < parted.last
    pub ends : parted.last ≤ k
    pub before : HoldsJson i parted.first parted.before
    pub kept : IsGathered asked parted.kept (records_in inner)
    pub behind : HoldsJson parted.last k parted.behind

  -- without a separator, or with one
  abbrev pub HoldsText : ℕ → ℕ → SeqText → Type 0
  HoldsText i k (Lone f) = (pieces_in bytes i k ≡ piece_in bytes i k ∷ []) × HoldsJson i k f
  HoldsText i k (Parted parted) = HoldsParted i k parted

  -- the span lies in the file, and the bytes that are said to be UTF-8 are
  pub record HoldsSpan (i k : ℕ) (read : SeqRead) : Type 0 where
    pub order : i ≤ k
    pub within : k ≤ length bytes
    pub text : HoldsText i k read.text
    pub valid : IsValidIn i (span_of bytes i k) read.valid

  abbrev pub HoldsFragment : ℕ → ℕ → SeqFragment → Type 0
  HoldsFragment i k Lost = Unit {0}
  HoldsFragment i k (Read read) = HoldsSpan i k read

  -- the pieces from a place up to the last separator before the other are gathered, and the last one begins behind it
  pub record HoldsInner (i k : ℕ) (read : Inner) : Type 0 where
    pub inner : List Piece
    pub pieces : pieces_in bytes i k ≡ inner ++ piece_in bytes read.last k ∷ []
    pub kept : IsGathered asked read.kept (records_in inner)
    pub begins : i ≤ read.last
    pub ends : read.last ≤ k

-- the fragment stands for so many bytes of the reader's file, from the offset on
abbrev pub StandsInFile : SeqAsks → ℕ → List ℕ → SeqFragment → Type 0
StandsInFile asks at bytes fragment = HoldsFragment asks.asked asks.bytes at (at + length bytes) fragment

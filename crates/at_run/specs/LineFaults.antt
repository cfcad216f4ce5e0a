-- The faults of the lines of a file of Well-Known Text, and the file's first one.
use Rattle.std.specs.Prelude.{◌≡◌, ◌⊎◌, ℕ, List, [], ◌∷◌, ◌++◌, Option, Some, None}
use Rattle.at_text.specs.declared.faults.Fault.{Fault}
use Rattle.at_text.specs.Faults.{first_of}
use Rattle.at_text.specs.Syntax.{IsSyntaxFault}
use Rattle.at_text.specs.Texts.{utf8_fault}
use Rattle.at_fixed.specs.declared.rounding.Coords.{Coords}
use Rattle.at_lex.specs.Strings.{Character}
use Rattle.at_wkt.specs.Geometry.{Geometry}
use Rattle.at_wkt.specs.Meaning.{faults_of}
use Rattle.at_wkt.specs.Lines.{FileLine, lines_of}
use Rattle.at_run.specs.Labels.{SpellsLabelled, LabelledLine}

module _ (digits : ℕ) (how : Coords) where
  -- the one syntax fault of a line, or else all faults of its geometry
  abbrev pub HasFaults : FileLine → List Fault → Type 0
  HasFaults l faults = ((fault : Fault) × IsSyntaxFault (LabelledLine l.at) l.at l.text fault × (faults ≡ fault ∷ []))
      ⊎ ((label : Option (List Character)) × (g : Geometry) × SpellsLabelled label g l.at l.text
      × (faults ≡ faults_of digits how g))

  abbrev pub HaveFaults : List FileLine → List Fault → Type 0
  HaveFaults [] faults = faults ≡ []
  HaveFaults (l ∷ ls) faults = (first others : List Fault) × HasFaults l first × HaveFaults ls others
      × (faults ≡ first ++ others)

  -- the fault of the encoding where there is one, or else the first of the faults of all lines
  abbrev pub HasLinesFaultBehind : Option Fault → List ℕ → Option Fault → Type 0
  HasLinesFaultBehind (Some fault) bytes first = first ≡ Some fault
  HasLinesFaultBehind None bytes first = (faults : List Fault) × HaveFaults (lines_of bytes) faults
      × (first ≡ first_of faults)

  -- the first fault of a file of lines, or none: that of its encoding, or else the first of the faults of all its lines
  abbrev pub HasLinesFault : List ℕ → Option Fault → Type 0
  HasLinesFault bytes first = HasLinesFaultBehind (utf8_fault bytes) bytes first

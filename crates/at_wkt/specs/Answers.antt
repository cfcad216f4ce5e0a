-- What a reader answers of a line, and of a text that a geometry begins.
use Rattle.std.specs.Prelude.{◌≡◌, ℕ, ◌≤◌, if◌then◌else◌, List, ◌++◌, length, take, Option, Some, None, is_none}
use Rattle.at_text.specs.declared.faults.Fault.{Fault}
use Rattle.at_text.specs.Faults.{first_of}
use Rattle.at_text.specs.Prefix.{LongestViable}
use Rattle.at_text.specs.Syntax.{IsSyntaxFault, stop_fault}
use Rattle.at_fixed.specs.declared.rounding.Coords.{Coords}
use Rattle.at_geom.specs.declared.shapes.Shape.{Shape}
use Rattle.at_wkt.specs.declared.answers.Prefix.{Prefix}
use Rattle.at_wkt.specs.Geometry.{Geometry, SpellsGeometry, IsLineOf, WktGeometry, WktLine}
use Rattle.at_geom.specs.Shapes.{empty_shape}
use Rattle.at_wkt.specs.Meaning.{shape_of, faults_of}

module _ (digits : ℕ) (how : Coords) where
  -- the line, which begins at the offset, spells a geometry of this first fault and shape, and no other
  pub record SpellsLine (at : ℕ) (text : List ℕ) (fault : Option Fault) (shape : Shape) : Type 0 where
    pub geometry : Geometry
    pub spelled : IsLineOf at text geometry
    pub fault_is : fault ≡ first_of (faults_of digits how geometry)
    pub shape_is : shape ≡ shape_of digits how geometry
    pub only : (other : Geometry) → IsLineOf at text other → (shape_of digits how other ≡ shape)
        × (first_of (faults_of digits how other) ≡ fault)

  -- the line has no fault, and this shape
  abbrev pub HasLineShape : ℕ → List ℕ → Shape → Type 0
  HasLineShape at text shape = SpellsLine at text None shape

  -- the first fault of the line: of its syntax, or else of its geometry
  pub data HasFirstLineFault (at : ℕ) (text : List ℕ) (fault : Fault) : Type 0 where
    unspelled : IsSyntaxFault (WktLine at) at text fault → HasFirstLineFault at text fault
    faulty : (shape : Shape) → SpellsLine at text (Some fault) shape → HasFirstLineFault at text fault

  -- the first fault of the line, or None where it has a shape
  abbrev pub HasFaultOrShape : ℕ → List ℕ → Option Fault → Type 0
  HasFaultOrShape at text None = (shape : Shape) × HasLineShape at text shape
  HasFaultOrShape at text (Some fault) = HasFirstLineFault at text fault

  -- a geometry begins the text, which begins at the offset: it has that length, first fault and shape. With a fault the
  -- shape is empty. Whatever spelling of a geometry agrees with these bytes, as far as both go, is these bytes, with
  -- that shape and fault: no other geometry begins the text, and no spelling is a proper prefix of another
  pub record IsPrefixOf (at : ℕ) (text : List ℕ) (prefix : Prefix) : Type 0 where
    pub fits : prefix.taken ≤ length text
    pub geometry : Geometry
    pub spelled : SpellsGeometry at (take prefix.taken text) geometry
    pub fault_is : prefix.fault ≡ first_of (faults_of digits how geometry)
    pub shape_is : prefix.shape ≡ (if is_none prefix.fault then shape_of digits how geometry else empty_shape)
    pub only : (other : Geometry) (v r s : List ℕ) → SpellsGeometry at v other → v ++ r ≡ take prefix.taken text ++ s
        → (v ≡ take prefix.taken text)
        × (shape_of digits how other ≡ shape_of digits how geometry)
        × (first_of (faults_of digits how other) ≡ prefix.fault)

-- no geometry begins the text, and the fault stands at the end of its longest prefix that a geometry may begin with
pub record IsPrefixFault (at : ℕ) (text : List ℕ) (fault : Fault) : Type 0 where
  pub no_geometry : (n : ℕ) → n ≤ length text → ¬ WktGeometry at (take n text)
  pub taken : ℕ
  pub longest : LongestViable (WktGeometry at) text taken
  pub place : fault ≡ stop_fault at text taken

-- What the functions that read the parts of a query promise each other. Only contracts of private functions cite this.
use Rattle.std.specs.Prelude.{◌≡◌, ◌⊎◌, ℕ, ℤ, ◌+◌, ◌<◌, ◌≤◌, Bool, if◌then◌else◌, List, [], ◌∷◌, ◌++◌, length}
use Rattle.std.specs.Prelude.{drop, map, codes, Option, Some, None, option_map, is_none}
use Rattle.at_text.specs.declared.faults.Fault.{Fault}
use Rattle.at_text.specs.Parts.{Exactly, ◌▸◌}
use Rattle.at_text.specs.Texts.{is_one_of}
use Rattle.at_text.specs.Faults.{first_of}
use Rattle.at_fixed.specs.NumberSoFar.{between}
use Rattle.at_fixed.specs.declared.rounding.Coords.{Coords}
use Rattle.at_lex.specs.Strings.{Character, units_of, SpellsString}
use Rattle.at_geom.specs.declared.rectangles.Extent.{Extent}
use Rattle.at_wkt.specs.Geometry.{Geometry, SpellsGeometry}
use Rattle.at_geom.specs.Shapes.{empty_shape}
use Rattle.at_wkt.specs.Meaning.{shape_of, faults_of}
use Rattle.at_query.specs.declared.query.coordinates.NumberRead.{NumberRead}
use Rattle.at_query.specs.declared.query.boxes.BoxRead.{BoxRead}
use Rattle.at_query.specs.declared.query.boxes.Corners.{Corners}
use Rattle.at_query.specs.declared.query.filters.TestRead.{TestRead}
use Rattle.at_query.specs.declared.query.queries.Verb.{Verb}
use Rattle.at_query.specs.declared.query.queries.Test.{Test}
use Rattle.at_query.specs.declared.query.queries.Test.TheVariants.{InBox, MeetsShape, Has}
use Rattle.at_query.specs.Spelling.{Placed, SpellsPlaced, SpelledBox, SpellsBox, Spelled, in_box, meets_box, meets}
use Rattle.at_query.specs.Spelling.{has, SpellsTest, SpellsTests, verb_text}
use Rattle.at_query.specs.Queries.{lesser, least_of, placed_value, placed_faults, extent_of_box, box_faults}
use Rattle.at_query.specs.Queries.{box_shape, is_reversed}

-- A part P of a text says of a value, an offset and the bytes that begin there that they spell the value.

-- the text w spells the value x from the place i up to j, and whatever spelling agrees with it there is these bytes and
-- of this value
pub record Ends {X : Type 0} (P : X → ℕ → List ℕ → Type 0) (w : List ℕ) (i j : ℕ) (x : X) : Type 0 where
  pub order : i ≤ j
  pub within : j ≤ length w
  pub sound : P x i (between w i j)
  pub only : (y : X) (v r s : List ℕ) → P y i v → v ++ r ≡ between w i j ++ s → (y ≡ x) × (v ≡ between w i j)

-- the bytes go on as the text does from i through the byte at n, or are the text from i on, which ends at n
pub data AgreesThrough (w : List ℕ) (i n : ℕ) (u : List ℕ) : Type 0 where
  past : n < length w → (s : List ℕ) → u ≡ between w i (n + 1) ++ s → AgreesThrough w i n u
  over : n ≡ length w → u ≡ between w i n → AgreesThrough w i n u

-- some spelling agrees with the text from i up to n, and none further
pub record Stops {X : Type 0} (P : X → ℕ → List ℕ → Type 0) (w : List ℕ) (i n : ℕ) : Type 0 where
  pub order : i ≤ n
  pub within : n ≤ length w
  pub viable : (x : X) × (more : List ℕ) × P x i (between w i n ++ more)
  pub dead : (x : X) (v r : List ℕ) → P x i v → AgreesThrough w i n (v ++ r) → ⊥

-- the text spells the value from the place i up to its end, and no other
pub record Covers {X : Type 0} (P : X → ℕ → List ℕ → Type 0) (w : List ℕ) (i : ℕ) (x : X) : Type 0 where
  pub within : i ≤ length w
  pub sound : P x i (drop i w)
  pub only : (y : X) → P y i (drop i w) → y ≡ x

-- the text from the place i up to its end spells nothing, and its longest prefix that something begins with ends at n
pub record Breaks {X : Type 0} (P : X → ℕ → List ℕ → Type 0) (w : List ℕ) (i n : ℕ) : Type 0 where
  pub order : i ≤ n
  pub within : n ≤ length w
  pub viable : (x : X) × (more : List ℕ) × P x i (between w i n ++ more)
  pub dead : (x : X) (v : List ℕ) → P x i v → AgreesThrough w i n v → ⊥

-- the word stands from a place up to another
pub record WordStands (w : List ℕ) (i j : ℕ) (word : List ℕ) : Type 0 where
  pub end : j ≡ i + length word
  pub within : j ≤ length w
  pub text : between w i j ≡ word

-- so many bytes of the word stand from a place on, and the next one doesn't
pub record WordBreaks (w : List ℕ) (i n : ℕ) (word : List ℕ) : Type 0 where
  pub order : i ≤ n
  pub within : n ≤ length w
  pub front : List ℕ
  pub byte : ℕ
  pub rest : List ℕ
  pub word_is : word ≡ front ++ (byte ∷ rest)
  pub text : between w i n ≡ front
  pub differs : n < length w → between w i (n + 1) ≡ front ++ (byte ∷ []) → ⊥

-- the word
abbrev pub Word : List ℕ → Unit {0} → ℕ → List ℕ → Type 0
Word word u = Exactly word

-- a word, and behind it a part
abbrev pub Behind : {X : Type 0} → List ℕ → (X → ℕ → List ℕ → Type 0) → X → ℕ → List ℕ → Type 0
Behind word P x = Exactly word ▸ P x

-- a part, and behind it another
abbrev pub Then : {X Y : Type 0} → (X → ℕ → List ℕ → Type 0) → (Y → ℕ → List ℕ → Type 0) → X × Y → ℕ → List ℕ → Type 0
Then P Q p = P p.0 ▸ Q p.1

-- a space, a comma or a closing bracket
abbrev pub ends_number : ℕ → Bool
ends_number b = is_one_of (0x20 ∷ 0x2C ∷ 0x29 ∷ []) b

pub record NumberMeaning : Type 0 where
  pub value : ℤ
  pub fault : Option ℕ

pub record BoxMeaning : Type 0 where
  pub extent : Extent
  pub fault : Option ℕ

-- with a fault the shape of a geometry is empty
pub record TestMeaning : Type 0 where
  pub test : Test
  pub fault : Option ℕ

-- what the code read
abbrev pub number_in : NumberRead → NumberMeaning
number_in read = record { value = read.value; fault = read.fault }

abbrev pub box_in : BoxRead → BoxMeaning
box_in read = record { extent = read.extent; fault = read.fault }

abbrev pub test_in : TestRead → TestMeaning
test_in read = record { test = read.test; fault = read.fault }

-- the four numbers of a box
abbrev pub Four : Type 0
Four = NumberMeaning × (NumberMeaning × (NumberMeaning × NumberMeaning))

abbrev pub four_in : Corners → Four
four_in c = (number_in c.low_x, (number_in c.low_y, (number_in c.high_x, number_in c.high_y)))

abbrev pub extent_in : Corners → Extent
extent_in c = record {
  low = record { x = c.low_x.value; y = c.low_y.value };
  high = record { x = c.high_x.value; y = c.high_y.value };
}

-- the least fault of the numbers of a box
abbrev pub four_fault : Corners → Option ℕ
four_fault c = lesser c.low_x.fault (lesser c.low_y.fault (lesser c.high_x.fault c.high_y.fault))

-- the fault of a box of this least fault of its numbers, which stands at the offset
abbrev pub fault_with : Option ℕ → Extent → ℕ → Option ℕ
fault_with None e at = if is_reversed e then Some at else None
fault_with (Some n) e at = Some n

-- a verb
abbrev pub VerbPart : Verb → ℕ → List ℕ → Type 0
VerbPart verb = Exactly (verb_text verb)

-- a string of these code units
abbrev pub Text : List ℕ → ℕ → List ℕ → Type 0
Text units at w = (cs : List Character) × (units ≡ units_of cs) × SpellsString cs at w

-- a name and a value
abbrev pub HasTest : TestMeaning → ℕ → List ℕ → Type 0
HasTest m at w = (p : List ℕ × List ℕ) × (m ≡ record { test = Has p.0 p.1; fault = None })
    × Behind (codes "has ") (Then Text (Behind (codes " = ") Text)) p at w

-- what a test of a box says
abbrev pub met_box : BoxMeaning → TestMeaning
met_box m = record { test = MeetsShape (box_shape m.extent); fault = m.fault }

abbrev pub kept_in : BoxMeaning → TestMeaning
kept_in m = record { test = InBox m.extent; fault = m.fault }

module _ (digits : ℕ) (how : Coords) where
  abbrev pub number_meaning : Placed → NumberMeaning
  number_meaning n = record { value = placed_value digits how n; fault = least_of (placed_faults digits how n) }

  -- a number of this meaning, with the byte behind it
  abbrev pub Number : ℕ → NumberMeaning → ℕ → List ℕ → Type 0
  Number delimiter m at w = (n : Placed) × (m ≡ number_meaning n) × SpellsPlaced n (delimiter ∷ []) at w

  -- the four numbers of a box, each with the byte behind it
  abbrev pub FourNumbers : Four → ℕ → List ℕ → Type 0
  FourNumbers = Then (Number 0x20) (Then (Number 0x2C) (Then (Number 0x20) (Number 0x29)))

  abbrev pub box_meaning : SpelledBox → BoxMeaning
  box_meaning b = record { extent = extent_of_box digits how b; fault = least_of (box_faults digits how b) }

  -- a box of this meaning
  abbrev pub Box : BoxMeaning → ℕ → List ℕ → Type 0
  Box m at w = (b : SpelledBox) × (m ≡ box_meaning b) × SpellsBox b at w

  abbrev pub geometry_fault : Geometry → Option Fault
  geometry_fault g = first_of (faults_of digits how g)

  abbrev pub geometry_meaning : Geometry → TestMeaning
  geometry_meaning g = record {
    test = MeetsShape (if is_none (geometry_fault g) then shape_of digits how g else empty_shape);
    fault = option_map (λ (f : Fault). f.at) (geometry_fault g);
  }

  -- a box that a shape is to meet
  abbrev pub BoxTarget : TestMeaning → ℕ → List ℕ → Type 0
  BoxTarget m at w = (b : BoxMeaning) × (m ≡ met_box b) × Box b at w

  -- a geometry that a shape is to meet
  abbrev pub GeometryTarget : TestMeaning → ℕ → List ℕ → Type 0
  GeometryTarget m at w = (g : Geometry) × (m ≡ geometry_meaning g) × SpellsGeometry at w g

  -- one of the two
  abbrev pub Target : TestMeaning → ℕ → List ℕ → Type 0
  Target m at w = BoxTarget m at w ⊎ GeometryTarget m at w

  -- the three kinds of tests
  abbrev pub InTest : TestMeaning → ℕ → List ℕ → Type 0
  InTest m at w = (b : BoxMeaning) × (m ≡ kept_in b) × Behind (codes "in ") Box b at w

  abbrev pub MeetsTest : TestMeaning → ℕ → List ℕ → Type 0
  MeetsTest = Behind (codes "meets ") Target

  abbrev pub test_meaning : Spelled → TestMeaning
  test_meaning (in_box b) = kept_in (box_meaning b)
  test_meaning (meets_box b) = met_box (box_meaning b)
  test_meaning (meets g) = geometry_meaning g
  test_meaning (has name value) = record { test = Has (units_of name) (units_of value); fault = None }

  -- a test of this meaning
  abbrev pub OneTest : TestMeaning → ℕ → List ℕ → Type 0
  OneTest m at w = (t : Spelled) × (m ≡ test_meaning t) × SpellsTest t at w

  -- tests of these meanings, the first behind the word
  abbrev pub Tests : List ℕ → List TestMeaning → ℕ → List ℕ → Type 0
  Tests word ms at w = (ts : List Spelled) × (ms ≡ map test_meaning ts) × SpellsTests word ts at w

-- the word before a test, behind the tests before it
abbrev pub joint_of : {X : Type 0} → List X → List ℕ
joint_of [] = codes " where "
joint_of (t ∷ ts) = codes " and "

-- the tests of the meanings, and the least of their faults
abbrev pub tests_of : List TestMeaning → List Test
tests_of ms = map (λ (m : TestMeaning). m.test) ms

abbrev pub fault_of : List TestMeaning → Option ℕ
fault_of [] = None
fault_of (m ∷ ms) = lesser m.fault (fault_of ms)

-- tests cover the text from a place on
pub record TestsCover (digits : ℕ) (how : Coords) (w : List ℕ) (i : ℕ) (items : List Test) (fault : Option ℕ)
    : Type 0 where
  pub meanings : List TestMeaning
  pub covers : Covers (Tests digits how (codes " where ")) w i meanings
  pub items_are : items ≡ tests_of meanings
  pub fault_is : fault ≡ fault_of meanings

-- a whole query covers the text
pub record QueryCovers (digits : ℕ) (how : Coords) (w : List ℕ) (verb : Verb) (items : List Test) (fault : Option ℕ)
    : Type 0 where
  pub meanings : List TestMeaning
  pub covers : Covers (Then VerbPart (Tests digits how (codes " where "))) w 0 (verb, meanings)
  pub items_are : items ≡ tests_of meanings
  pub fault_is : fault ≡ fault_of meanings

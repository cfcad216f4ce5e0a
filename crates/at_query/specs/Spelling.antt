-- The query line and its spelling (docs/QUERY.md, "The query line").
use Rattle.std.specs.Prelude.{ℕ, List, [], ◌∷◌, codes}
use Rattle.at_text.specs.Parts.{Nothing, Exactly, ◌▸◌, At}
use Rattle.at_fixed.specs.Numerals.{Numeral}
use Rattle.at_lex.specs.Strings.{Character, SpellsString}
use Rattle.at_wkt.specs.Geometry.{Geometry, SpellsGeometry, SpellsNumber}
use Rattle.at_query.specs.declared.query.queries.Verb.{Verb}
use Rattle.at_query.specs.declared.query.queries.Verb.TheVariants as verbs

-- a number and the offset at which it stands
pub record Placed : Type 0 where
  pub number : Numeral
  pub at : ℕ

-- `box(low_x low_y,high_x high_y)`, the word `box` standing at the offset `at`
pub record SpelledBox : Type 0 where
  pub at : ℕ
  pub low_x : Placed
  pub low_y : Placed
  pub high_x : Placed
  pub high_y : Placed

pub data Spelled : Type 0 where
  in_box : SpelledBox → Spelled
  meets_box : SpelledBox → Spelled
  meets : Geometry → Spelled
  has : (name value : List Character) → Spelled

-- a verb, and the tests behind it, if there are any
pub record SpelledQuery : Type 0 where
  pub verb : Verb
  pub tests : List Spelled

abbrev pub verb_text : Verb → List ℕ
verb_text verbs.Select = codes "select"
verb_text verbs.Count = codes "count"
verb_text verbs.Area = codes "area"
verb_text verbs.Extent = codes "extent"
verb_text verbs.Hull = codes "hull"
verb_text verbs.Join = codes "join"

-- a number with the bytes behind it
abbrev pub SpellsPlaced : Placed → List ℕ → ℕ → List ℕ → Type 0
SpellsPlaced n delimiter = At n.at (SpellsNumber n.number) ▸ Exactly delimiter

abbrev pub SpellsBox : SpelledBox → ℕ → List ℕ → Type 0
SpellsBox b = At b.at (Exactly (codes "box(") ▸ SpellsPlaced b.low_x (codes " ") ▸ SpellsPlaced b.low_y (codes ",")
    ▸ SpellsPlaced b.high_x (codes " ") ▸ SpellsPlaced b.high_y (codes ")"))

abbrev pub SpellsTest : Spelled → ℕ → List ℕ → Type 0
SpellsTest (in_box b) = Exactly (codes "in ") ▸ SpellsBox b
SpellsTest (meets_box b) = Exactly (codes "meets ") ▸ SpellsBox b
SpellsTest (meets g) = Exactly (codes "meets ") ▸ (λ i v. SpellsGeometry i v g)
SpellsTest (has name value) = Exactly (codes "has ") ▸ SpellsString name ▸ Exactly (codes " = ") ▸ SpellsString value

-- nothing, or tests: the first behind the word, and each other one behind ` and `
abbrev pub SpellsTests : List ℕ → List Spelled → ℕ → List ℕ → Type 0
SpellsTests word [] = Nothing
SpellsTests word (t ∷ ts) = Exactly word ▸ SpellsTest t ▸ SpellsTests (codes " and ") ts

abbrev pub SpellsQuery : SpelledQuery → ℕ → List ℕ → Type 0
SpellsQuery q = Exactly (verb_text q.verb) ▸ SpellsTests (codes " where ") q.tests

-- the text spells the query line
abbrev pub IsSpelled : List ℕ → SpelledQuery → Type 0
IsSpelled text q = SpellsQuery q 0 text

-- the text spells some query line
abbrev pub QueryText : List ℕ → Type 0
QueryText text = (q : SpelledQuery) × IsSpelled text q

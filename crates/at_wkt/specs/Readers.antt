-- What the functions that read the parts of a text promise each other. Only contracts of private functions cite this.
use Rattle.std.specs.Prelude.{Result, MatchResult, IfSome, Ok, Err, Some, None, is_none, if◌then◌else◌, zero, suc, map, flat_map}
use Rattle.std.specs.Prelude.{option_to_list, Option, ◌≡◌, ◌≢◌, ℕ, ◌+◌, ◌-◌, not, slice_index, codes, ◌⊎◌, ◌||◌, ◌<◌}
use Rattle.std.specs.Prelude.{◌≤◌, ◌&&◌, ◌==◌, nat_le, nat_lt, Bool, true, false, IsTrue, List, [], ◌∷◌, ◌++◌, length}
use Rattle.std.specs.Prelude.{take, drop, slice_index_or}
use Rattle.std.specs.Ordering.{int_eq}
use Rattle.std.specs.Str.{str_to_ascii_uppercase}
use Rattle.std.specs.Char.{to_ascii_uppercase}
use Rattle.std.specs.List.{AllByRecursion}
use Rattle.at_text.specs.Prefix.{LongestViable}
use Rattle.at_text.specs.Parts.{Many, Exactly, ◌▸◌}
use Rattle.at_fixed.specs.NumberSoFar.{between}
use Rattle.at_fixed.specs.Numerals.{Numeral, IsWktNumeral, numeral_text, WktNumber}
use Rattle.at_geom.specs.Closed.{last_of}
use Rattle.at_wkt.specs.declared.line.kinds.Kind.{Kind}
use Rattle.at_wkt.specs.declared.line.kinds.Kind.TheVariants.{Point, LineString, Polygon, MultiPoint, MultiLineString}
use Rattle.at_wkt.specs.declared.line.kinds.Kind.TheVariants.{MultiPolygon, GeometryCollection}
use Rattle.at_wkt.specs.declared.line.kinds.Head.{Head}
use Rattle.at_text.specs.Syntax.{IsSyntaxFault, stop_fault}
use Rattle.at_text.specs.declared.refusals.Refusal.{Refusal}
use Rattle.at_text.specs.declared.refusals.Refusal.TheVariants.{Found, Memory as NoMemory}
use Rattle.at_wkt.specs.Answers.{SpellsLine}
use Rattle.at_text.specs.declared.halts.Halt.{Halt}
use Rattle.at_text.specs.declared.halts.Halt.TheVariants.{At, Memory}
use Rattle.at_text.specs.Halts.{IfStopped}
use Rattle.at_wkt.specs.declared.line.sources.Rules.{Rules}
use Rattle.at_wkt.specs.declared.line.sources.Place.{Place}
use Rattle.at_wkt.specs.declared.line.numbers.Coordinate.{Coordinate}
use Rattle.at_wkt.specs.declared.line.positions.DelimiterRead.{DelimiterRead}
use Rattle.at_wkt.specs.declared.line.positions.PositionRead.{PositionRead}
use Rattle.at_wkt.specs.declared.line.positions.NumbersRead.{NumbersRead}
use Rattle.at_wkt.specs.declared.line.checks.ListPassed.{ListPassed}
use Rattle.at_wkt.specs.declared.line.checks.RowPassed.{RowPassed}
use Rattle.at_wkt.specs.declared.line.paths.Role.{Role}
use Rattle.at_wkt.specs.declared.line.paths.Role.TheVariants.{Line, Ring}
use Rattle.at_wkt.specs.declared.line.paths.ListRead.{ListRead}
use Rattle.at_wkt.specs.declared.line.parts.Read.{Read}
use Rattle.at_wkt.specs.declared.line.parts.ItemRead.{ItemRead}
use Rattle.at_text.specs.declared.faults.Fault.{Fault}
use Rattle.at_geom.specs.declared.positions.Pos.{Pos}
use Rattle.at_geom.specs.Shapes.{line_fault, ring_fault}
use Rattle.at_wkt.specs.declared.line.geometries.Gathered.{Gathered}
use Rattle.at_wkt.specs.declared.line.geometries.Progress.{Progress}
use Rattle.at_text.specs.Faults.{first_of, first_fault}
use Rattle.at_fixed.specs.declared.rounding.Coords.{Coords}
use Rattle.at_wkt.specs.Positions.{Position, Positions, value_of, number_fault, pos_of, position_faults, path_of}
use Rattle.at_wkt.specs.Positions.{items_faults, is_closed, faults_of_line, faults_of_ring}
use Rattle.at_geom.specs.declared.shapes.Shape.{Shape}
use Rattle.at_geom.specs.Shapes.{both, empty_shape}
use Rattle.at_wkt.specs.Meaning.{shape_of, shape_of_all, faults_of, faults_of_all}
use Rattle.at_wkt.specs.Geometry.{Geometry, point, line_string, polygon, multi_point, multi_line_string, multi_polygon}
use Rattle.at_wkt.specs.Geometry.{collection, Geometries, no_geometries, geometry_and, WktLine, SpellsGeometry}
use Rattle.at_wkt.specs.Geometry.{SpellsGeometries, SpellsPoint, SpellsList, SpellsArea, EmptyOrParted}
use Rattle.at_wkt.specs.Geometry.{SpellsPointMember, is_blank, SpellsFurther, SpellsPosition, InBrackets}
use Rattle.at_wkt.specs.declared.line.dimension.Dimension.{Dimension}
use Rattle.at_wkt.specs.declared.line.dimension.Dimension.TheVariants.{Open, Fixed}

-- the byte at a place, and at the end a number that is no byte
abbrev pub next : List ℕ → ℕ → ℕ
next w i = slice_index_or w i 256

-- whether positions may have so many numbers
abbrev pub allows : Dimension → ℕ → Bool
allows Open count = nat_le 2 count && nat_le count 4
allows (Fixed numbers) count = count == numbers

-- whether they may have more than so many
abbrev pub allows_more : Dimension → ℕ → Bool
allows_more Open count = nat_lt count 4
allows_more (Fixed numbers) count = nat_lt count numbers

-- whether a byte is an opening bracket or begins EMPTY
abbrev pub opens : ℕ → Bool
opens b = (b == 0x28) || (to_ascii_uppercase b == 0x45)

-- positions may have d numbers, of 2, 3 and 4
abbrev pub Allows : Dimension → ℕ → Type 0
Allows Open d = (2 ≤ d) × (d ≤ 4)
Allows (Fixed numbers) d = (d ≡ numbers) × (2 ≤ d) × (d ≤ 4)

-- A part P of a text says of a count of numbers d, a value, an offset and the bytes that begin there that they spell
-- the value.

-- the text w, whose first byte has the offset `base`, spells the value x from the place i to the place j, where
-- positions may have the counts of c before and those of c' after it; and no other value's spelling agrees with the
-- text up to j
pub record Spelt {X : Type 0} (P : ℕ → X → ℕ → List ℕ → Type 0) (base : ℕ) (w : List ℕ) (i : ℕ) (c : Dimension) (j
    : ℕ) (c' : Dimension) (x : X) : Type 0 where
  pub order : i ≤ j
  pub within : j ≤ length w
  pub some : (d : ℕ) × Allows c' d
  pub narrows : (d : ℕ) → Allows c' d → Allows c d
  pub sound : (d : ℕ) → Allows c' d → P d x (base + i) (between w i j)
  pub only : (d : ℕ) (y : X) (v r s : List ℕ) → Allows c d → P d y (base + i) v → v ++ r ≡ between w i j ++ s
      → (y ≡ x) × (v ≡ between w i j) × Allows c' d

-- no value's spelling agrees with the text from the place i through the byte at n, or is the rest of the text, and some
-- agrees up to n
pub record Stuck {X : Type 0} (P : ℕ → X → ℕ → List ℕ → Type 0) (base : ℕ) (w : List ℕ) (i : ℕ) (c : Dimension) (n : ℕ)
    : Type 0 where
  pub order : i ≤ n
  pub within : n ≤ length w
  pub viable : (d : ℕ) × (x : X) × (more : List ℕ) × Allows c d × P d x (base + i) (between w i n ++ more)
  pub dead : (d : ℕ) (x : X) (v r s : List ℕ) → Allows c d → P d x (base + i) v
      → v ++ r ≡ between w i n ++ (next w n ∷ s) → ⊥

-- where the text spells Q from the place j, it spells P from the place i, and where it is stuck there, it is stuck
pub record Leads {X Y : Type 0} (P : ℕ → X → ℕ → List ℕ → Type 0) (Q : ℕ → Y → ℕ → List ℕ → Type 0) (base : ℕ) (w
    : List ℕ)
    (i : ℕ) (c : Dimension) (j : ℕ) (c' : Dimension) (f : Y → X) : Type 0 where
  pub spelt : (k : ℕ) (c'' : Dimension) (y : Y) → Spelt Q base w j c' k c'' y → Spelt P base w i c k c'' (f y)
  pub stuck : (n : ℕ) → Stuck Q base w j c' n → Stuck P base w i c n

-- blanks stand from a place up to another, and no further one
pub record SkipsBlanks (w : List ℕ) (i j : ℕ) : Type 0 where
  pub order : i ≤ j
  pub within : j ≤ length w
  pub blanks : AllByRecursion (λ b. IsTrue (is_blank b)) (between w i j)
  pub stops : not (is_blank (next w j)) ≡ true

-- the number n stands from a place up to another, and no longer prefix of the rest is the beginning of a number
pub record NumberStands (w : List ℕ) (i j : ℕ) (n : Numeral) : Type 0 where
  pub order : i ≤ j
  pub within : j ≤ length w
  pub numeral : IsWktNumeral n
  pub text : between w i j ≡ numeral_text n
  pub longest : LongestViable WktNumber (drop i w) (j - i)
  pub only : (m : Numeral) → IsWktNumeral m → between w i j ≡ numeral_text m → m ≡ n

-- the longest prefix of the rest that is the beginning of a number ends at the place, and is none
pub record NumberBreaks (w : List ℕ) (i j : ℕ) : Type 0 where
  pub order : i ≤ j
  pub within : j ≤ length w
  pub no_number : ¬ WktNumber (between w i j)
  pub longest : LongestViable WktNumber (drop i w) (j - i)

-- a comma, or the closing bracket behind the last item
abbrev pub delimiter : Bool → ℕ
delimiter true = 0x29
delimiter false = 0x2C

-- blanks, and then the comma behind an item or the closing bracket behind the last one
abbrev pub Delimiter : ℕ → Bool → ℕ → List ℕ → Type 0
Delimiter d is_last = Many is_blank ▸ Exactly (delimiter is_last ∷ [])

-- blanks, an item, blanks, and a comma or the closing bracket
abbrev pub Item : {X : Type 0} → (ℕ → X → ℕ → List ℕ → Type 0) → ℕ → X × Bool → ℕ → List ℕ → Type 0
Item P d p = Many is_blank ▸ (P d p.0 ▸ Delimiter d p.1)

-- items, up to the closing bracket behind the last one
abbrev pub Items : {X : Type 0} → (ℕ → X → ℕ → List ℕ → Type 0) → ℕ → List X → ℕ → List ℕ → Type 0
Items P d [] at w = ⊥
Items P d (x ∷ []) at w = Item P d (x, true) at w
Items P d (x ∷ y ∷ rest) at w = (Item P d (x, false) ▸ Items P d (y ∷ rest)) at w

-- what follows an item: nothing behind the last, and else further items
abbrev pub RestOf : {X : Type 0} → (ℕ → X → ℕ → List ℕ → Type 0) → Bool → ℕ → List X → ℕ → List ℕ → Type 0
RestOf P true d xs at w = (xs ≡ []) × (w ≡ [])
RestOf P false d xs at w = Items P d xs at w

-- the items so far lead from the first place to the rest
abbrev pub ItemsRead : {X : Type 0} → (ℕ → X → ℕ → List ℕ → Type 0) → ℕ → List ℕ → ℕ → Dimension → ℕ → Dimension → Bool
    → List X → Type 0
ItemsRead P base w i c j c' last xs = Leads (Items P) (RestOf P last) base w i c j c' (λ ys. xs ++ ys)

-- further numbers behind the first k of a position, up to its delimiter
abbrev pub FurtherNumbers : ℕ → ℕ → Bool → ℕ → List ℕ → Type 0
FurtherNumbers k d is_last at w = (ns : List Numeral) × (k + length ns ≡ d)
    × (SpellsFurther ns ▸ Delimiter d is_last) at w

-- some count of numbers is left for positions that have k at least
abbrev pub Reaches : Dimension → ℕ → Type 0
Reaches c k = (d : ℕ) × Allows c d × (k ≤ d)

-- a number stands from a place up to another, and no longer prefix of the rest is the beginning of a number
pub record NumberSkips (w : List ℕ) (i j : ℕ) : Type 0 where
  pub order : i ≤ j
  pub within : j ≤ length w
  pub number : WktNumber (between w i j)
  pub longest : LongestViable WktNumber (drop i w) (j - i)

-- the word, in capitals, stands from a place up to another in either case
pub record KeywordStands (w : List ℕ) (i j : ℕ) (word : List ℕ) : Type 0 where
  pub order : i ≤ j
  pub within : j ≤ length w
  pub text : str_to_ascii_uppercase (between w i j) ≡ word

-- so many letters of the word stand from a place on, and the next one doesn't
pub record KeywordBreaks (w : List ℕ) (i j : ℕ) (word : List ℕ) : Type 0 where
  pub order : i ≤ j
  pub within : j ≤ length w
  pub text : str_to_ascii_uppercase (between w i j) ≡ take (j - i) word
  pub short : j - i < length word
  pub differs : to_ascii_uppercase (next w j) ≢ slice_index word (j - i)

-- the words of the kinds, in capitals (OGC 06-103r4 section 7.2.2)
abbrev pub word_of : Kind → List ℕ
word_of Point = codes "POINT"
word_of LineString = codes "LINESTRING"
word_of Polygon = codes "POLYGON"
word_of MultiPoint = codes "MULTIPOINT"
word_of MultiLineString = codes "MULTILINESTRING"
word_of MultiPolygon = codes "MULTIPOLYGON"
word_of GeometryCollection = codes "GEOMETRYCOLLECTION"

-- letters of the word of some kind stand up to a place, and of each kind's word no more than these
pub record KindBreaks (w : List ℕ) (i j : ℕ) : Type 0 where
  pub kind : Kind
  pub text : str_to_ascii_uppercase (between w i j) ≡ take (j - i) (word_of kind)
  pub breaks : (k : Kind) → (n : ℕ) × (n ≤ j) × KeywordBreaks w i n (word_of k)
  pub order : i ≤ j
  pub within : j ≤ length w

abbrev pub LetterAt : List ℕ → ℕ → ℕ → Type 0
LetterAt w i letter = to_ascii_uppercase (next w i) ≡ letter

-- Z, M, ZM or none stands from a place up to another, and how many numbers it gives positions
abbrev pub LetterStands : List ℕ → ℕ → ℕ → Dimension → Type 0
LetterStands w i j c = ((j ≡ i) × (c ≡ Open) × ¬ LetterAt w i 0x5A × ¬ LetterAt w i 0x4D)
    ⊎ (((j ≡ i + 1) × (c ≡ Fixed 3) × LetterAt w i 0x4D)
    ⊎ (((j ≡ i + 2) × (c ≡ Fixed 4) × LetterAt w i 0x5A × LetterAt w (i + 1) 0x4D)
    ⊎ ((j ≡ i + 1) × (c ≡ Fixed 3) × LetterAt w i 0x5A × ¬ LetterAt w (i + 1) 0x4D)))

-- the word of a kind stands, then blanks, a letter or none, and blanks
pub record HeadStands (w : List ℕ) (i : ℕ) (head : Head) : Type 0 where
  pub word_end : ℕ
  pub word : KeywordStands w i word_end (word_of head.kind)
  pub letter_at : ℕ
  pub blanks : SkipsBlanks w word_end letter_at
  pub letter_end : ℕ
  pub letter : LetterStands w letter_at letter_end head.behind.dimension
  pub letter_within : letter_end ≤ length w
  pub further : SkipsBlanks w letter_end head.behind.at

-- so many letters of a word stand from a place on, in either case, and no more
pub record Matches (w : List ℕ) (i : ℕ) (word : List ℕ) (count : ℕ) : Type 0 where
  pub fits : count ≤ length word
  pub within : i + count ≤ length w
  pub text : str_to_ascii_uppercase (between w i (i + count)) ≡ take count word
  pub stops : count < length word → to_ascii_uppercase (next w (i + count)) ≢ slice_index word count

-- some count of numbers is left for positions
abbrev pub HasCount : Dimension → Type 0
HasCount c = (d : ℕ) × Allows c d

-- whether a byte is a comma or a closing bracket
abbrev pub is_delimiter : ℕ → Bool
is_delimiter b = (b == 0x2C) || (b == 0x29)

-- blanks and a delimiter stand from a place on
pub record DelimiterStands (w : List ℕ) (i : ℕ) (read : DelimiterRead) : Type 0 where
  pub at : ℕ
  pub blanks : SkipsBlanks w i at
  pub inside : at < length w
  pub end_is : read.end ≡ at + 1
  pub byte : next w at ≡ delimiter read.is_last

pub record DelimiterBreaks (w : List ℕ) (i n : ℕ) : Type 0 where
  pub blanks : SkipsBlanks w i n
  pub byte : is_delimiter (next w n) ≡ false

-- the value of a number that begins at the offset, and its fault
pub record IsCoordinate (digits : ℕ) (how : Coords) (n : Numeral) (offset : ℕ) (read : Coordinate) : Type 0 where
  pub value : read.value ≡ value_of digits how n
  pub fault : read.fault ≡ first_of (number_fault digits how n offset)

-- a position stands, with its delimiter
pub record PositionStands (rules : Rules) (w : List ℕ) (i : ℕ) (c : Dimension) (read : PositionRead) : Type 0 where
  pub position : Position
  pub spelt : Spelt (Item SpellsPosition) rules.base w i c read.behind.at read.behind.dimension (position, read.is_last)
  pub pos : read.pos ≡ pos_of rules.digits rules.how position
  pub fault : read.fault ≡ first_of (position_faults rules.digits rules.how position)
  pub longer : i < read.behind.at

-- a position without a fault stands, with its delimiter
abbrev pub IsPassed : Rules → List ℕ → ℕ → Dimension → NumbersRead → Type 0
IsPassed rules w i c passed = (read : PositionRead) × PositionStands rules w i c read × (read.fault ≡ None)
    × (passed ≡ record { is_last = read.is_last; behind = read.behind })

-- what is wrong with a line or a ring as a whole
abbrev pub fault_of_path : Role → ℕ → Bool → ℕ → Option Fault
fault_of_path Line count closes at = line_fault count at
fault_of_path Ring count closes at = ring_fault count closes at

-- all faults of a line or a ring
abbrev pub faults_of_path : ℕ → Coords → Role → Positions → List Fault
faults_of_path digits how Line ps = faults_of_line digits how ps
faults_of_path digits how Ring ps = faults_of_ring digits how ps

-- positions stand up to the closing bracket
pub record PositionsStand (rules : Rules) (w : List ℕ) (i : ℕ) (c : Dimension) (list : List Pos) (read : ListRead)
    : Type 0 where
  pub positions : List Position
  pub spelt : Spelt (Items SpellsPosition) rules.base w i c read.behind.at read.behind.dimension positions
  pub list_is : list ≡ map (pos_of rules.digits rules.how) positions
  pub fault : read.fault ≡ first_of (items_faults rules.digits rules.how positions)
  pub closes : read.closes ≡ is_closed rules.digits rules.how positions
  pub few : i + length positions ≤ read.behind.at

-- two positions are the same, or one of them has a fault
abbrev pub ends_same : PositionRead → PositionRead → Bool
ends_same first last = not (is_none first.fault && is_none last.fault)
    || (int_eq first.pos.x last.pos.x && int_eq first.pos.y last.pos.y)

-- the last of so many positions stands, which closes with the first or not
abbrev pub IsEndedList : Rules → List ℕ → ℕ → Dimension → PositionRead → ℕ → ListPassed → Type 0
IsEndedList rules w i c first count passed = (last : PositionRead) × PositionStands rules w i c last
    × (last.fault ≡ None) × (last.is_last ≡ true)
    × (passed ≡ record { count = count; closes = ends_same first last; behind = last.behind })

-- so many positions without a fault stand up to the closing bracket
abbrev pub IsPassedList : Rules → List ℕ → ℕ → Dimension → ListPassed → Type 0
IsPassedList rules w i c passed = (list : List Pos) × (length list ≡ passed.count)
    × PositionsStand rules w i c list (record { fault = None; closes = passed.closes; behind = passed.behind })

-- so many positions without a fault stand up to the closing bracket, whether they close or not
abbrev pub IsPassedRow : Rules → List ℕ → ℕ → Dimension → RowPassed → Type 0
IsPassedRow rules w i c row = (closes : Bool)
    × IsPassedList rules w i c (record { count = row.count; closes = closes; behind = row.last.behind })

-- a part stands, of these faults, and what it adds was added
pub record PartStands {X : Type 0} (P : ℕ → X → ℕ → List ℕ → Type 0) (faults : X → List Fault) (IsAdded : X
    → Type 0) (base : ℕ) (w : List ℕ) (i : ℕ) (c : Dimension) (read : Read) : Type 0 where
  pub value : X
  pub spelt : Spelt P base w i c read.behind.at read.behind.dimension value
  pub fault : read.fault ≡ first_of (faults value)
  pub added : IsAdded value

-- an item stands with its delimiter
pub record ItemStands {X : Type 0} (P : ℕ → X → ℕ → List ℕ → Type 0) (faults : X → List Fault) (IsAdded : X
    → Type 0) (base : ℕ) (w : List ℕ) (i : ℕ) (c : Dimension) (read : ItemRead) : Type 0 where
  pub value : X
  pub spelt : Spelt (Item P) base w i c read.behind.at read.behind.dimension (value, read.is_last)
  pub fault : read.fault ≡ first_of (faults value)
  pub added : IsAdded value
  pub longer : i < read.behind.at

module _ (digits : ℕ) (how : Coords) where
  -- what a point, or none for EMPTY, adds, and its faults
  abbrev pub added_point : Option Position → List Pos
  added_point p = map (pos_of digits how) (option_to_list p)

  abbrev pub point_faults : Option Position → List Fault
  point_faults p = flat_map (position_faults digits how) (option_to_list p)

  -- what a position adds
  abbrev pub added_position : Position → List Pos
  added_position p = pos_of digits how p ∷ []

  -- what a line adds, and its faults
  abbrev pub added_line : Option Positions → List (List Pos)
  added_line ps = map (path_of digits how) (option_to_list ps)

  abbrev pub line_faults : Option Positions → List Fault
  line_faults ps = flat_map (faults_of_line digits how) (option_to_list ps)

  -- what a path adds
  abbrev pub added_path : Positions → List (List Pos)
  added_path ps = path_of digits how ps ∷ []

-- the list grew by these
abbrev pub Grows : {X Y : Type 0} → (X → List Y) → List Y → List Y → X → Type 0
Grows added old new x = new ≡ old ++ added x

-- a part stands and was added to a list, or else no part goes on where reading it stopped
abbrev pub ReadsPart : {X Y : Type 0} → (ℕ → X → ℕ → List ℕ → Type 0) → (ℕ → Coords → X → List Fault)
    → (ℕ → Coords → X → List Y) → Rules → List ℕ → Place → List Y → List Y → Result Read Halt → Type 0
ReadsPart P faults added rules w from old new r = MatchResult r
    (PartStands P (faults rules.digits rules.how) (Grows (added rules.digits rules.how) old new) rules.base w from.at
    from.dimension)
    (λ halt. IfStopped halt (Stuck P rules.base w from.at from.dimension))

-- an item stands and was added to a list, or else no items go on where reading it stopped
abbrev pub ReadsItem : {X Y : Type 0} → (ℕ → X → ℕ → List ℕ → Type 0) → (ℕ → Coords → X → List Fault)
    → (ℕ → Coords → X → List Y) → Rules → List ℕ → Place → List Y → List Y → Result ItemRead Halt → Type 0
ReadsItem P faults added rules w from old new r = MatchResult r
    (ItemStands P (faults rules.digits rules.how) (Grows (added rules.digits rules.how) old new) rules.base w from.at
    from.dimension)
    (λ halt. IfStopped halt (Stuck (Items P) rules.base w from.at from.dimension))

-- a part or an item without a fault stands, of which nothing is kept
abbrev pub none_kept : {X : Type 0} → X → List Pos
none_kept x = []

abbrev pub PassesPart : {X : Type 0} → (ℕ → X → ℕ → List ℕ → Type 0) → (ℕ → Coords → X → List Fault) → Rules → List ℕ
    → Place → Option Read → Type 0
PassesPart P faults rules w from r = IfSome r (λ read. (read.fault ≡ None)
    × PartStands P (faults rules.digits rules.how) (Grows none_kept [] []) rules.base w from.at from.dimension read)

abbrev pub PassesItem : {X : Type 0} → (ℕ → X → ℕ → List ℕ → Type 0) → (ℕ → Coords → X → List Fault) → Rules → List ℕ
    → Place → Option ItemRead → Type 0
PassesItem P faults rules w from r = IfSome r (λ item. (item.fault ≡ None)
    × ItemStands P (faults rules.digits rules.how) (Grows none_kept [] []) rules.base w from.at from.dimension item)

-- the first positions read from a place on: the items so far, the last of which was read as `last`
pub record PositionsSoFar (rules : Rules) (w : List ℕ) (i : ℕ) (c : Dimension) (first last : PositionRead) (path
    : List Pos) (fault : Option Fault) : Type 0 where
  pub head : Position
  pub rest : List Position
  pub reads : ItemsRead SpellsPosition rules.base w i c last.behind.at last.behind.dimension last.is_last (head ∷ rest)
  pub some : HasCount last.behind.dimension
  pub within : last.behind.at ≤ length w
  pub path_is : path ≡ map (pos_of rules.digits rules.how) (head ∷ rest)
  pub fault_is : fault ≡ first_of (items_faults rules.digits rules.how (head ∷ rest))
  pub first_pos : first.pos ≡ pos_of rules.digits rules.how head
  pub first_faulty : first.fault ≡ first_of (position_faults rules.digits rules.how head)
  pub last_pos : last.pos ≡ pos_of rules.digits rules.how (last_of head rest)
  pub last_faulty : last.fault ≡ first_of (position_faults rules.digits rules.how (last_of head rest))
  pub few : i + length (head ∷ rest) ≤ last.behind.at

-- the items read from a place on, with their faults, and what they added to a list
pub record ItemsSoFar {X Y : Type 0} (P : ℕ → X → ℕ → List ℕ → Type 0) (faults : X → List Fault) (added : X
    → List Y) (old new : List Y) (base : ℕ) (w : List ℕ) (i : ℕ) (c : Dimension) (last : ItemRead) : Type 0 where
  pub values : List X
  pub reads : ItemsRead P base w i c last.behind.at last.behind.dimension last.is_last values
  pub some : HasCount last.behind.dimension
  pub within : last.behind.at ≤ length w
  pub fault : last.fault ≡ first_of (flat_map faults values)
  pub grown : Grows (flat_map added) old new values

-- a position in brackets
abbrev pub EnclosedPosition : ℕ → Position → ℕ → List ℕ → Type 0
EnclosedPosition d p = InBrackets (SpellsPosition d p)

-- what a geometry means: its shape, and all of its faults
pub record Meaning : Type 0 where
  pub shape : Shape
  pub faults : List Fault

-- what two mean one after another
abbrev pub joined : Meaning → Meaning → Meaning
joined m n = record { shape = both m.shape n.shape; faults = m.faults ++ n.faults }

abbrev pub no_meaning : Meaning
no_meaning = record { shape = empty_shape; faults = [] }

-- what stands behind the head of a geometry
abbrev pub Body : Kind → ℕ → Geometry → ℕ → List ℕ → Type 0
Body Point d g at w = (p : Option Position) × (g ≡ point p) × SpellsPoint d p at w
Body LineString d g at w = (ps : Option Positions) × (g ≡ line_string ps) × SpellsList d ps at w
Body Polygon d g at w = (rings : List Positions) × (g ≡ polygon rings) × SpellsArea d rings at w
Body MultiPoint d g at w = (ps : List (Option Position)) × (g ≡ multi_point ps)
    × EmptyOrParted (SpellsPointMember d) ps at w
Body MultiLineString d g at w = (ls : List (Option Positions)) × (g ≡ multi_line_string ls)
    × EmptyOrParted (SpellsList d) ls at w
Body MultiPolygon d g at w = (areas : List (List Positions)) × (g ≡ multi_polygon areas)
    × EmptyOrParted (SpellsArea d) areas at w
Body GeometryCollection d g at w = (gs : Geometries) × (g ≡ collection gs) × SpellsGeometries at w gs

-- further geometries of a collection up to its closing bracket, and a part behind it
abbrev pub FurtherThen : Geometries → (ℕ → List ℕ → Type 0) → ℕ → List ℕ → Type 0
FurtherThen no_geometries K = Delimiter 0 true ▸ K
FurtherThen (geometry_and g gs) K =
    Delimiter 0 false ▸ (Many is_blank ▸ ((λ i v. SpellsGeometry i v g) ▸ FurtherThen gs K))

module _ (digits : ℕ) (how : Coords) where
  abbrev pub meaning_of : Geometry → Meaning
  meaning_of g = record { shape = shape_of digits how g; faults = faults_of digits how g }

  abbrev pub meaning_of_all : Geometries → Meaning
  meaning_of_all gs = record { shape = shape_of_all digits how gs; faults = faults_of_all digits how gs }

  -- what stands behind a geometry within so many open collections, up to the end of the outermost geometry
  abbrev pub After : ℕ → Meaning → ℕ → List ℕ → Type 0
  After zero m at w = (m ≡ no_meaning) × (w ≡ [])
  After (suc k) m at w = (gs : Geometries) × (n : Meaning) × (m ≡ joined (meaning_of_all gs) n)
      × FurtherThen gs (After k n) at w

  -- a geometry within so many open collections, and what stands behind it
  abbrev pub Expected : ℕ → Meaning → ℕ → List ℕ → Type 0
  Expected k m at w = (g : Geometry) × (n : Meaning) × (m ≡ joined (meaning_of g) n)
      × ((λ i v. SpellsGeometry i v g) ▸ After k n) at w

-- the kinds tried so far, none of whose words stands, and the most letters of any of them
pub record KindsTried (w : List ℕ) (i : ℕ) (longest : ℕ) (tried : List Kind) : Type 0 where
  pub within : i + longest ≤ length w
  pub kind : Kind
  pub text : str_to_ascii_uppercase (between w i (i + longest)) ≡ take longest (word_of kind)
  pub breaks : AllByRecursion (λ k. (n : ℕ) × (n ≤ i + longest) × KeywordBreaks w i n (word_of k)) tried

-- the lists grew by the shape, and the fault is the first of that before and these
pub record Gathers (old new : Gathered) (m : Meaning) : Type 0 where
  pub points : new.points.items ≡ old.points.items ++ m.shape.points
  pub lines : new.lines.items ≡ old.lines.items ++ m.shape.lines
  pub polygons : new.polygons.items ≡ old.polygons.items ++ m.shape.polygons
  pub fault : new.fault ≡ first_fault old.fault (first_of m.faults)

module _ (digits : ℕ) (how : Coords) where
  -- what follows where reading has come: nothing, or a geometry within so many open collections
  abbrev pub Onward : Bool → ℕ → ℕ → Meaning → ℕ → List ℕ → Type 0
  Onward true k d m at w = After digits how zero m at w
  Onward false k d m at w = Expected digits how k m at w

  -- reading a part has come so far, and what was read means m
  pub record Advances (P : ℕ → Meaning → ℕ → List ℕ → Type 0) (base : ℕ) (w : List ℕ) (i : ℕ) (progress : Progress) (m
      : Meaning) : Type 0 where
    pub within : progress.at ≤ length w
    pub order : i ≤ progress.at
    pub spelt : (j : ℕ) (n : Meaning) → Spelt (Onward progress.is_over progress.depth) base w progress.at Open j Open n
        → Spelt P base w i Open j Open (joined m n)
    pub stuck : (n : ℕ) → Stuck (Onward progress.is_over progress.depth) base w progress.at Open n
        → Stuck P base w i Open n

  -- a body stands, and was added
  pub record BodyStands (base : ℕ) (w : List ℕ) (head : Head) (old new : Gathered) (read : Read) : Type 0 where
    pub geometry : Geometry
    pub spelt : Spelt (Body head.kind) base w head.behind.at head.behind.dimension read.behind.at read.behind.dimension
        geometry
    pub points : new.points.items ≡ old.points.items ++ (shape_of digits how geometry).points
    pub lines : new.lines.items ≡ old.lines.items ++ (shape_of digits how geometry).lines
    pub polygons : new.polygons.items ≡ old.polygons.items ++ (shape_of digits how geometry).polygons
    pub same : new.fault ≡ old.fault
    pub fault : read.fault ≡ first_of (faults_of digits how geometry)

  -- a body without a fault stands
  abbrev pub IsPassedBody : ℕ → List ℕ → Head → Read → Type 0
  IsPassedBody base w head read = (read.fault ≡ None)
      × ((g : Geometry) × Spelt (Body head.kind) base w head.behind.at head.behind.dimension read.behind.at
      read.behind.dimension g × (read.fault ≡ first_of (faults_of digits how g)))

  -- what reading one step gave
  pub record StepStands (P : ℕ → Meaning → ℕ → List ℕ → Type 0) (base : ℕ) (w : List ℕ) (i : ℕ) (old new : Gathered)
      (progress : Progress) : Type 0 where
    pub meaning : Meaning
    pub advances : Advances P base w i progress meaning
    pub gathers : Gathers old new meaning
    pub longer : i < progress.at
    pub deep : progress.depth ≤ progress.at

  -- a whole geometry stands
  pub record WholeStands (base : ℕ) (w : List ℕ) (i : ℕ) (old new : Gathered) (end : ℕ) : Type 0 where
    pub meaning : Meaning
    pub spelt : Spelt (λ d. Expected digits how zero) base w i Open end Open meaning
    pub gathers : Gathers old new meaning

-- a geometry without a fault stands
abbrev pub IsPassedGeometry : Rules → List ℕ → ℕ → ℕ → Type 0
IsPassedGeometry rules w i end = (m : Meaning) × (first_of m.faults ≡ None)
    × Spelt (λ d. Expected rules.digits rules.how zero) rules.base w i Open end Open m

-- whether the head is that of a collection, and its bracket opens behind it
abbrev pub opens_at : List ℕ → Head → Bool
opens_at w head = elim head.kind [ GeometryCollection ↦ next w head.behind.at == 0x28 | _ ↦ false ]

-- the refusal of a text where reading it stopped
abbrev pub refusal : ℕ → List ℕ → Halt → Refusal
refusal base w (At n) = Found (stop_fault base w n)
refusal base w Memory = NoMemory

abbrev pub gathered_shape : Gathered → Shape
gathered_shape g = record { points = g.points.items; lines = g.lines.items; polygons = g.polygons.items }

-- a line stands, and its geometry was added
pub record LineStands (digits : ℕ) (how : Coords) (base : ℕ) (w : List ℕ) (old new : Gathered) : Type 0 where
  pub meaning : Meaning
  pub spells : SpellsLine digits how base w (first_of meaning.faults) meaning.shape
  pub gathers : Gathers old new meaning

-- what was gathered is the shape of the line and its first fault, and no other is
abbrev pub IsGatheredLine : Rules → List ℕ → Gathered → Type 0
IsGatheredLine rules line gathered =
    SpellsLine rules.digits rules.how rules.base line gathered.fault (gathered_shape gathered)

-- no line goes on at the place
pub record LineStops (base : ℕ) (w : List ℕ) (n : ℕ) : Type 0 where
  pub within : n ≤ length w
  pub fault : IsSyntaxFault (WktLine base) base w (stop_fault base w n)

-- a line's first fault, or its shape
abbrev pub line_answer : Gathered → Result Shape Refusal
line_answer g = elim g.fault [ None ↦ Ok (gathered_shape g) | Some fault ↦ Err (Found fault) ]

-- the shape, and where there is a fault the empty one
abbrev pub kept_shape : Gathered → Shape
kept_shape g = if is_none g.fault then gathered_shape g else empty_shape

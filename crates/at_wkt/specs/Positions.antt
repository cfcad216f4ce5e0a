-- Positions as numbers of a text, their values in units, and what is wrong with positions, lines and rings of them.
use Rattle.std.specs.Prelude.{ℕ, ℤ, pos, Bool, true, false, not, ◌&&◌, ◌||◌, List, [], ◌∷◌, ◌++◌, length, map, flat_map}
use Rattle.std.specs.Prelude.{Result, Ok, Err, option_to_list}
use Rattle.std.specs.Ordering.{int_eq}
use Rattle.at_text.specs.declared.faults.Fault.{Fault}
use Rattle.at_text.specs.declared.faults.FaultKind.TheVariants as kinds
use Rattle.at_text.specs.Faults.{fault_at}
use Rattle.at_fixed.specs.declared.rounding.Coords.{Coords}
use Rattle.at_fixed.specs.declared.rounding.FixedFault.{FixedFault}
use Rattle.at_fixed.specs.declared.rounding.FixedFault.TheVariants.{Scale, Range}
use Rattle.at_fixed.specs.Numerals.{Numeral}
use Rattle.at_fixed.specs.Fixed.{fixed_of}
use Rattle.at_geom.specs.declared.positions.Pos.{Pos}
use Rattle.at_geom.specs.Closed.{last_of}
use Rattle.at_geom.specs.Shapes.{line_fault, ring_fault}

-- the two numbers that are used of a position, with their offsets
pub record Position : Type 0 where
  pub x : Numeral
  pub x_at : ℕ
  pub y : Numeral
  pub y_at : ℕ

-- a list of positions with the offset of its opening bracket
pub record Positions : Type 0 where
  pub at : ℕ
  pub items : List Position

-- why a number at the offset has no value
abbrev pub fault_of : FixedFault → ℕ → Fault
fault_of Scale at = fault_at kinds.Scale at
fault_of Range at = fault_at kinds.Range at

-- the fault at the offset of a number of this value, where it has none
abbrev pub faults_in : Result ℤ FixedFault → ℕ → List Fault
faults_in (Ok z) at = []
faults_in (Err e) at = fault_of e at ∷ []

-- the value, and 0 where there is none
abbrev pub value_in : Result ℤ FixedFault → ℤ
value_in (Ok z) = z
value_in (Err e) = pos 0

module _ (digits : ℕ) (how : Coords) where
  -- Scale or Range at the number, where it has no value
  abbrev pub number_fault : Numeral → ℕ → List Fault
  number_fault n at = faults_in (fixed_of n digits how) at

  -- Scale or Range at the x or the y
  abbrev pub position_faults : Position → List Fault
  position_faults p = number_fault p.x p.x_at ++ number_fault p.y p.y_at

  -- 0 where the number has a fault
  abbrev pub value_of : Numeral → ℤ
  value_of n = value_in (fixed_of n digits how)

  abbrev pub pos_of : Position → Pos
  pos_of p = record { x = value_of p.x; y = value_of p.y }

  abbrev pub path_of : Positions → List Pos
  path_of ps = map pos_of ps.items

  abbrev pub items_faults : List Position → List Fault
  items_faults items = flat_map position_faults items

  -- Short at the line's bracket, and the faults of its numbers
  abbrev pub faults_of_line : Positions → List Fault
  faults_of_line ps = option_to_list (line_fault (length ps.items) ps.at) ++ items_faults ps.items

  abbrev pub is_faultless : Position → Bool
  is_faultless p = elim (position_faults p) [ [] ↦ true | f ∷ fs ↦ false ]

  -- the same x and y; further numbers aren't compared
  abbrev pub are_same : Position → Position → Bool
  are_same p q = int_eq (value_of p.x) (value_of q.x) && int_eq (value_of p.y) (value_of q.y)

  -- the last is the first, or one of the two has a fault, and then this isn't tested
  abbrev pub closes_with : Position → Position → Bool
  closes_with first last = not (is_faultless first && is_faultless last) || are_same first last

  abbrev pub is_closed : List Position → Bool
  is_closed [] = true
  is_closed (p ∷ rest) = closes_with p (last_of p rest)

  -- Ring at the ring's bracket, and the faults of its numbers
  abbrev pub faults_of_ring : Positions → List Fault
  faults_of_ring ps = option_to_list (ring_fault (length ps.items) (is_closed ps.items) ps.at) ++ items_faults ps.items

-- Worked values: the lines of a file, a spelled point, faults and shapes.
-- No contract needs them: they show that the definitions say what is meant.
use Rattle.std.proofs.Common.{◌≡◌, ℕ, pos, List, [], ◌∷◌, ◌++◌, Some, None, refl, inl, lit≤, codes, IsTrue}
use Rattle.at_text.specs.Faults.{fault_at, first_of}
use Rattle.at_text.specs.Texts.{is_digit}
use Rattle.at_text.specs.declared.faults.FaultKind.TheVariants.{Short, Ring, Scale}
use Rattle.at_fixed.specs.declared.rounding.Coords.TheVariants.{Exact, Round}
use Rattle.at_fixed.specs.Numerals.{Numeral, IsWktNumeral}
use Rattle.at_geom.specs.Shapes.{extent_of, positions}
use Rattle.at_wkt.specs.Positions.{Position}
use Rattle.at_wkt.specs.Geometry.{point, line_string, polygon, multi_point, collection, no_geometries, geometry_and, IsLineOf, SpellsPosition, SpellsPoint, SpellsGeometry}
use Rattle.at_wkt.specs.Meaning.{shape_of, faults_of}
use Rattle.at_wkt.specs.Lines.{lines_of}

-- POINT (1 2) CR LF, space TAB LF, POINT (3 4) CR
two_lines : lines_of (codes "POINT (1 2)" ++ (0x0D ∷ 0x0A ∷ 0x20 ∷ 0x09 ∷ 0x0A ∷ []) ++ codes "POINT (3 4)" ++ (0x0D ∷ []))
    ≡ record { at = 0; text = codes "POINT (1 2)" } ∷ record { at = 16; text = codes "POINT (3 4)" } ∷ []
two_lines = refl

no_line : lines_of [] ≡ []
no_line = refl

abbrev whole : List ℕ → Numeral
whole ds = record { sign = []; whole = ds; fraction = None; exponent = None }

abbrev decimals : List ℕ → List ℕ → Numeral
decimals ds fs = record { sign = []; whole = ds; fraction = Some fs; exponent = None }

abbrev one_two : Position
one_two = record { x = whole (codes "1"); x_at = 7; y = whole (codes "2"); y_at = 9 }

-- POINT (1.00000001 2): Scale at 7 where coordinates are exact
finer : first_of (faults_of 7 Exact (point (Some (record one_two { x = decimals (codes "1") (codes "00000001") })))) ≡ Some (fault_at Scale 7)
finer = refl

rounded : faults_of 7 Round (point (Some (record one_two { x = decimals (codes "1") (codes "00000001") }))) ≡ []
rounded = refl

-- LINESTRING (1 2): Short at 11
one_position : first_of (faults_of 7 Round (line_string (Some (record { at = 11; items = one_two ∷ [] })))) ≡ Some (fault_at Short 11)
one_position = refl

-- a ring of three positions: Ring at 9
open_ring : first_of (faults_of 7 Round (polygon (record { at = 9; items = one_two ∷ one_two ∷ one_two ∷ [] } ∷ []))) ≡ Some (fault_at Ring 9)
open_ring = refl

extent : extent_of (positions (shape_of 7 Round (collection (geometry_and (multi_point (Some one_two ∷ None ∷ [])) no_geometries))))
    ≡ Some (record { low = record { x = pos 10000000; y = pos 20000000 }; high = record { x = pos 10000000; y = pos 20000000 } })
extent = refl

a_numeral : (b : ℕ) → IsTrue (is_digit b) → IsWktNumeral (whole (b ∷ []))
a_numeral b h = record { sign = tt; digits = ((h, tt), tt); exponent = tt }

-- ( at the offset 6: the position behind it, and the point
position_spelled : SpellsPosition 2 one_two 7 (codes "1 2")
position_spelled = ([], refl, (codes "1", codes " 2", refl, (refl, (a_numeral 0x31 refl, refl)), (codes " ", codes "2", refl, ((λ e. cc), (refl, tt)), (codes "2", [], refl, (refl, (a_numeral 0x32 refl, refl)), refl))))

point_spelled : SpellsPoint 2 (Some one_two) 6 (codes "(1 2)")
point_spelled = (codes "(", codes "1 2)", refl, refl, ([], codes "1 2)", refl, tt, (codes "1 2", codes ")", refl, position_spelled, ([], codes ")", refl, tt, refl))))

geometry_spelled : SpellsGeometry 0 (codes "POINT (1 2)") (point (Some one_two))
geometry_spelled = (2, (codes "POINT", codes " (1 2)", refl, refl, (codes " ", codes "(1 2)", refl, (refl, tt), ([], codes "(1 2)", refl, inl (refl, lit≤ tt, lit≤ tt), ([], codes "(1 2)", refl, tt, point_spelled)))))

spelled : IsLineOf 0 (codes "POINT (1 2)") (point (Some one_two))
spelled = ([], codes "POINT (1 2)", refl, tt, (codes "POINT (1 2)", [], refl, geometry_spelled, tt))

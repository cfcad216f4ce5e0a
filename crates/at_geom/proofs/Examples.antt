-- Worked values, computed.
use Rattle.std.proofs.Common.{◌≡◌, ℕ, pos, List, [], ◌∷◌, Some, None, true, false, refl, arith, inl, inr, ap, nat_abs, ◌+◌, ◌-◌, ◌*◌}
use Rattle.at_text.specs.declared.faults.FaultKind.TheVariants.{Short, Ring}
use Rattle.at_text.specs.Faults.{fault_at}
use Rattle.at_geom.specs.declared.positions.Pos.{Pos}
use Rattle.at_geom.specs.declared.shapes.Polygon.{Polygon}
use Rattle.at_geom.specs.Segments.{HaveCommonPoint, turn, sign_of, IsOn}
use Rattle.at_geom.specs.Regions.{is_odd_for, IsInPolygon, doubled_area}
use Rattle.at_geom.specs.Shapes.{extent_of, line_fault, ring_fault}

abbrev at : ℕ → ℕ → Pos
at x y = record { x = pos x; y = pos y }

turns : sign_of (turn (at 0 0) (at 1 0) (at 0 1)) ≡ pos 1
turns = refl

crossing : HaveCommonPoint (at 0 0) (at 2 2) (at 1 1) (at 1 1)
crossing = record { n = 2; j = 1; k = 0; some_parts = omega arith; on_first = omega arith; on_second = omega arith; same_x = refl; same_y = refl }

abbrev outer : List Pos
outer = at 0 0 ∷ at 10 0 ∷ at 10 10 ∷ at 0 10 ∷ at 0 0 ∷ []

abbrev hole : List Pos
hole = at 4 4 ∷ at 6 4 ∷ at 6 6 ∷ at 4 6 ∷ at 4 4 ∷ []

abbrev with_hole : Polygon
with_hole = record { rings = outer ∷ hole ∷ [] }

inside : IsInPolygon (at 1 1) with_hole
inside = (inr refl, (inr refl, tt))

on_edge : IsInPolygon (at 0 5) with_hole
on_edge = (inr refl, (inr refl, tt))

abbrev on_left_of_hole : IsOn (at 4 5) (at 4 6) (at 4 4)
on_left_of_hole = record { n = 2; j = 0; k = 1; some_parts = omega arith; on_first = omega arith; on_second = omega arith; same_x = refl; same_y = refl }

on_hole : IsInPolygon (at 4 5) with_hole
on_hole = (inr refl, (inl (inr (inr (inr (inl on_left_of_hole)))), tt))

in_hole_is_odd : is_odd_for (at 5 5) hole ≡ true
in_hole_is_odd = refl

area : doubled_area (record { rings = (at 0 0 ∷ at 2 0 ∷ at 2 2 ∷ at 0 2 ∷ at 0 0 ∷ []) ∷ [] }) ≡ pos 8
area = refl

area_less_hole : doubled_area with_hole ≡ pos 192
area_less_hole = refl

no_extent : extent_of [] ≡ None
no_extent = refl

some_extent : extent_of (at 3 1 ∷ at 1 7 ∷ []) ≡ Some (record { low = at 1 1; high = at 3 7 })
some_extent = refl

short : line_fault 1 9 ≡ Some (fault_at Short 9)
short = refl

open_ring : ring_fault 4 false 9 ≡ Some (fault_at Ring 9)
open_ring = refl

apart : HaveCommonPoint (at 0 0) (at 1 1) (at 2 2) (at 3 3) → ⊥
apart h =
    let e : (h.n - h.j) * 0 + h.j * 1 ≡ (h.n - h.k) * 2 + h.k * 3 = ap nat_abs h.same_x in
    omega (arith, e, h.some_parts, h.on_first, h.on_second)

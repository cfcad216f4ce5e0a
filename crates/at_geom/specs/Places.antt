-- Where a position is against an edge and against a ring: what `place_in_ring` and the parts of `in_polygon` answer.
use Rattle.std.specs.Prelude.{◌≡◌, true, false, not, IsTrue, List}
use Rattle.at_geom.specs.declared.positions.Pos.{Pos}
use Rattle.at_geom.specs.declared.regions.EdgePlace.{EdgePlace}
use Rattle.at_geom.specs.declared.regions.EdgePlace.TheVariants.{Touched, Crossed, Passed}
use Rattle.at_geom.specs.declared.regions.RingPlace.{RingPlace}
use Rattle.at_geom.specs.declared.regions.RingPlace.TheVariants.{Boundary, Inside, Outside}
use Rattle.at_geom.specs.Segments.{IsOn}
use Rattle.at_geom.specs.Regions.{IsOnRing, is_crossed, is_odd_for}

abbrev pub IsPlaceAt : Pos → Pos → Pos → EdgePlace → Type 0
IsPlaceAt p a b Touched = IsOn p a b
IsPlaceAt p a b Crossed = (¬ IsOn p a b) × (is_crossed p (a, b) ≡ true)
IsPlaceAt p a b Passed = (¬ IsOn p a b) × (is_crossed p (a, b) ≡ false)

abbrev pub IsPlaceIn : Pos → List Pos → RingPlace → Type 0
IsPlaceIn p ring Boundary = IsOnRing p ring
IsPlaceIn p ring Inside = (¬ IsOnRing p ring) × IsTrue (is_odd_for p ring)
IsPlaceIn p ring Outside = (¬ IsOnRing p ring) × IsTrue (not (is_odd_for p ring))

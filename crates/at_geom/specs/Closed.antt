-- Rings that end where they begin: no position outside the extent of such a ring is in it.
use Rattle.std.specs.Prelude.{◌≡◌, List, [], ◌∷◌}
use Rattle.at_geom.specs.declared.positions.Pos.{Pos}
use Rattle.at_geom.specs.declared.shapes.Polygon.{Polygon}

-- the last of a and what follows
abbrev pub last_of : {X : Type 0} → X → List X → X
last_of a [] = a
last_of a (b ∷ rest) = last_of b rest

-- the last position is the first (RFC 7946 section 3.1.6; OGC 06-103r4 section 6.1.11)
abbrev pub IsClosed : List Pos → Type 0
IsClosed [] = Unit {0}
IsClosed (a ∷ rest) = last_of a rest ≡ a

abbrev pub HasClosedFirst : List (List Pos) → Type 0
HasClosedFirst [] = Unit {0}
HasClosedFirst (exterior ∷ holes) = IsClosed exterior

abbrev pub HasClosedExterior : Polygon → Type 0
HasClosedExterior polygon = HasClosedFirst polygon.rings

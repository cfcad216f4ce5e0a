use Rattle.std.proofs.Common.{sym, subst}
use Rattle.at_geom.specs.Shapes.{ArePolygonsInRange}
use Rattle.at_band.proofs.bands.is_in_bands.Goals as goal

pub is_in_any-requires-clause-polygons_in_range : goal.is_in_any-requires-clause-polygons_in_range
is_in_any-requires-clause-polygons_in_range c = subst ArePolygonsInRange (sym c.as_slice.ensures) (c.in-Some.ensures.1.ranged c.requires.shape_in_range).polygons

pub returns-in-Some : goal.returns-in-Some
returns-in-Some c =
    let said = rw c.as_slice.ensures at c.is_in_any.ensures in (
      λ t. c.in-Some.ensures.1.in_whole c.args.p c.in-Some.ensures.0 (said.0 t),
      λ m. said.1 (c.in-Some.ensures.1.in_part c.args.p c.in-Some.ensures.0 m),
    )

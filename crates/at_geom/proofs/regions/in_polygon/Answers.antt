use Rattle.std.proofs.Common.{◌∙◌, sym, subst}
use Rattle.std.specs.Prelude.{All}
use Rattle.at_geom.specs.Segments.{IsInRange}
use Rattle.at_geom.proofs.Elements.{head_of_all, tail_of_all}
use Rattle.at_geom.proofs.regions.in_polygon.Goals as goal

pub place_in_ring-requires-clause-ring_in_range : goal.place_in_ring-requires-clause-ring_in_range
place_in_ring-requires-clause-ring_in_range c = subst (All IsInRange) (sym c.as_slice-2.ensures) (head_of_all (All IsInRange) (sym c.as_slice.ensures ∙ c.in-Some.ensures.cases.0) c.requires.polygon_in_range)

pub is_in_no_hole-requires-clause-holes_in_range : goal.is_in_no_hole-requires-clause-holes_in_range
is_in_no_hole-requires-clause-holes_in_range c = tail_of_all (All IsInRange) (sym c.as_slice.ensures ∙ c.in-Some.ensures.cases.0) c.requires.polygon_in_range

use Rattle.std.proofs.Common.{sym}
use Rattle.at_geom.specs.Shapes.{segments}
use Rattle.at_band.proofs.BandsOf.{met_same}
use Rattle.at_band.proofs.bands.segment_meets_band.Goals as goal

pub part_is_met-requires-clause-part_in_range : goal.part_is_met-requires-clause-part_in_range
part_is_met-requires-clause-part_in_range c = c.requires.kept.ranged c.requires.shape_in_range

pub returns : goal.returns
returns c = (
  λ t. met_same c.args.band.now.heights.low c.args.band.now.heights.high c.args.a c.args.b (segments c.args.band.now.part) (segments c.args.shape.now) c.requires.kept.same_edges (c.part_is_met.ensures.0 t),
  λ m. c.part_is_met.ensures.1 (met_same c.args.band.now.heights.low c.args.band.now.heights.high c.args.a c.args.b (segments c.args.shape.now) (segments c.args.band.now.part) (sym c.requires.kept.same_edges) m),
)

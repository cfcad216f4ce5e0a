use Rattle.std.proofs.Common.{sym, ◌∙◌}
use Rattle.at_geom.specs.Shapes.{positions}
use Rattle.at_geom.proofs.Covering.{encloses_extent}
use Rattle.at_geom.proofs.extents.all_in.Goals as goal

pub returns-in-Some : goal.returns-in-Some
returns-in-Some c = c.encloses.ensures ∙ encloses_extent c.args.extent c.in-Some.covered (positions c.args.shape.now) (sym c.extent.ensures ∙ c.in-Some.is)

use Rattle.std.specs.Prelude.{FitsSigned}
use Rattle.std.specs.Int.{w128}
use Rattle.std.proofs.Common.{refl, rules}
use Rattle.std.proofs.lemmas.Int.{wrapping_add_is}
use Rattle.at_query.proofs.TallyFolds.{polygon_told}
use Rattle.at_query.proofs.answer.tallies.Tally.with_polygon.Goals as goal

pub returns : goal.returns
returns c measure before polygons more =
    let f : FitsSigned w128 c.args.self.area = search rules in
    let g : FitsSigned w128 c.args.polygon.area = search rules in
    polygon_told measure before polygons more c.args.self c.args.polygon _ refl (wrapping_add_is w128 c.args.self.area c.args.polygon.area f g)

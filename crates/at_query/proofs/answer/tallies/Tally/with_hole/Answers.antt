use Rattle.std.specs.Prelude.{FitsSigned}
use Rattle.std.specs.Int.{w128}
use Rattle.std.proofs.Common.{refl, rules}
use Rattle.std.proofs.lemmas.Int.{wrapping_sub_is}
use Rattle.at_query.proofs.TallyFolds.{hole_told}
use Rattle.at_query.proofs.answer.tallies.Tally.with_hole.Goals as goal

pub returns : goal.returns
returns c measure before paths path =
    let f : FitsSigned w128 c.args.self.area = search rules in
    let g : FitsSigned w128 c.args.hole.area = search rules in
    hole_told measure before paths path c.args.self c.args.hole _ refl (wrapping_sub_is w128 c.args.self.area c.args.hole.area f g)

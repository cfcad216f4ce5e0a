use Rattle.std.specs.Prelude.{FitsSigned}
use Rattle.std.specs.Int.{w128}
use Rattle.std.proofs.Common.{refl, rules}
use Rattle.std.proofs.lemmas.Int.{to_z-of_z}
use Rattle.at_query.proofs.Joining.{count_is_exact, area_is_exact}
use Rattle.at_query.proofs.answer.results.answer_of.Goals as goal

pub returns-in-Count-clause-exact : goal.returns-in-Count-clause-exact
returns-in-Count-clause-exact c =
    let fits : FitsSigned w128 c.from.result = search rules in
    rw (to_z-of_z w128 c.from.result fits, c.from.ensures) (count_is_exact c.args.part c.in-Count.count c.in-Count.count c.in-Count.is refl)

pub returns-in-Area-clause-exact : goal.returns-in-Area-clause-exact
returns-in-Area-clause-exact c =
    let fits : FitsSigned w128 c.in-Area.area = search rules in
    rw (to_z-of_z w128 c.in-Area.area fits) (area_is_exact c.args.part c.in-Area.area c.in-Area.is)

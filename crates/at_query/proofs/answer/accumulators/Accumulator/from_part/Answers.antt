use Rattle.std.proofs.Common.{subst, ◌∙◌, ap}
use Rattle.std.proofs.lemmas.List.{append-nil}
use Rattle.at_hull.specs.Growth.{held}
use Rattle.at_query.specs.Parts.{IsProper}
use Rattle.at_query.proofs.Accumulating.{from_hull}
use Rattle.at_query.proofs.answer.accumulators.Accumulator.from_part.Goals as goal

pub returns-in-Hull : goal.returns-in-Hull
returns-in-Hull c =
    from_hull c.args.part c.in-Hull.hull c.from_hull.result c.in-Hull.is (subst IsProper c.in-Hull.is c.requires).0
    (ap held c.from_hull.ensures ∙ append-nil c.in-Hull.hull)

use Rattle.at_query.proofs.Accumulating.{are_of_one_verb}
use Rattle.at_query_tests.proofs.tests.part_of_added.Goals as goal

pub join-requires : goal.join-requires
join-requires c =
    let (fs, own) = c.in_ok-kept.ensures in
    let (gs, more) = c.in_ok-behind.ensures in
    are_of_one_verb c.args.query.now fs gs c.in_ok-kept.kept c.in_ok-behind.behind own more

use Rattle.std.proofs.Common.{[], sym, ◌∙◌}
use Rattle.at_query.proofs.TextCounts.{all_met_is, none_met}
use Rattle.at_geojson.proofs.at_once.features.FeatureMembers.none.Goals as goal

pub returns-clause-hold : goal.returns-clause-hold
returns-clause-hold c = c.all_met.ensures ∙ all_met_is c.args.algebra.now.query.tests [] 0 (sym (none_met c.args.algebra.now.query.tests))

use Rattle.at_wkt.proofs.ProgressAnswers.{head_count}
use Rattle.at_wkt.proofs.CheckAnswers.{geometry_passed}
use Rattle.at_wkt.proofs.line.checks.pass_geometry.Goals as goal

pub pass_body-requires-clause-count : goal.pass_body-requires-clause-count
pass_body-requires-clause-count c = head_count c.args.source.now.text.now c.args.at c.in-Ok.head c.in-Ok.ensures

pub returns-in_ok-body-in-Ok : goal.returns-in_ok-body-in-Ok
returns-in_ok-body-in-Ok c = geometry_passed c.args.source.now.rules c.args.source.now.text.now c.args.at c.in-Ok.head c.in_ok-body-in-Ok.body c.in-Ok.ensures c.in_ok-body-in-Ok.ensures

use Rattle.std.proofs.lemmas.Result.{IfOk-weaker}
use Rattle.at_run.proofs.LineParts.{joins_own, joins_lines}
use Rattle.at_run.proofs.line_queries.LineQueryFold.join.Goals as goal

pub returns-clause-own : goal.returns-clause-own
returns-clause-own c = IfOk-weaker c.joined.result _ _ (λ both joins. joins_own c.args.left c.args.right both joins c.args.self.now c.requires.left c.requires.right) c.joined.ensures

pub returns-clause-fold : goal.returns-clause-fold
returns-clause-fold c = IfOk-weaker c.joined.result _ _ (λ both joins. joins_lines c.args.left c.args.right both joins c.args.self.now) c.joined.ensures

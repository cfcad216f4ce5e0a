use Rattle.std.proofs.Common.{take, subst}
use Rattle.std.specs.Result.{IfOk}
use Rattle.std.proofs.lemmas.Result.{IfOk-weaker}
use Rattle.at_wkt.specs.Answers.{HasFaultOrShape}
use Rattle.at_run.specs.Gathering.{Asked}
use Rattle.at_run.proofs.LineParts.{checked_line, counted_some, gathered_syntax}
use Rattle.at_run.proofs.line_queries.LineQuery.check.Goals as goal

pub returns-in-Ok : goal.returns-in-Ok
returns-in-Ok c =
    let line = c.in-Ok.line in
    let P : Asked → Type 0 = λ asked. IfOk c.check_line.result (HasFaultOrShape asked.digits asked.how line.at (take line.len line.ahead.now)) in
    IfOk-weaker c.check_line.result _ _ (λ found h. checked_line c.args.self.now c.args.ahead.now c.args.len c.args.at line c.in-Ok.ensures found h) (subst P c.self.view_is c.check_line.ensures)

pub returns-in-Err : goal.returns-in-Err
returns-in-Err c =
    let text = take c.args.len c.args.ahead.now in
    counted_some c.args.self.now (record { at = c.args.at; text = text }) c.in-Err.fault (gathered_syntax c.args.self.now c.args.at text c.in-Err.fault c.in-Err.ensures)

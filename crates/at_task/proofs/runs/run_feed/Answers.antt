use Rattle.std.proofs.Common.{Result, None, subst}
use Rattle.at_query.specs.declared.answer.parts.Part.{Part}
use Rattle.at_run.proofs.OneAnswer.{the_file_fault_in}
use Rattle.at_run.proofs.Results.{file_result}
use Rattle.at_task.specs.declared.ends.FeedEnd.{FeedEnd}
use Rattle.at_task.specs.FeedEnds.{IsFed}
use Rattle.at_task.proofs.FeedBytes.{any_bytes}
use Rattle.at_task.proofs.Said.{only_end}
use Rattle.at_task.proofs.runs.run_feed.Goals as goal

pub returns-in-Ok-Ok-clause-answer : goal.returns-in-Ok-Ok-clause-answer
returns-in-Ok-Ok-clause-answer g c =
    let asks = c.args.feed.intake.asks in
    let (bytes, are, said) = c.in-Ok-Ok.ensures in
    let P : Result Part FeedEnd → Type 0 = λ out. IsFed asks bytes out in
    let part = subst P c.in-Ok-Ok.field-0-is said in
    (bytes, are, (part.0, file_result asks.form asks.digits asks.how asks.query bytes c.in-Ok-Ok.part part.1 c.answer_of.result part.0 c.answer_of.ensures.exact))

pub returns-in-Ok-Ok-clause-only : goal.returns-in-Ok-Ok-clause-only
returns-in-Ok-Ok-clause-only g c =
    let asks = c.args.feed.intake.asks in
    let (bytes, are, said) = c.in-Ok-Ok.ensures in
    let P : Result Part FeedEnd → Type 0 = λ out. IsFed asks bytes out in
    let part = subst P c.in-Ok-Ok.field-0-is said in
    (bytes, are, the_file_fault_in asks.form asks.digits asks.how bytes None part.1.faultless)

pub returns-in-Ok-Err-clause-only : goal.returns-in-Ok-Err-clause-only
returns-in-Ok-Err-clause-only g c =
    let asks = c.args.feed.intake.asks in
    let (bytes, are, said) = c.in-Ok-Err.ensures in
    let P : Result Part FeedEnd → Type 0 = λ out. IsFed asks bytes out in
    (bytes, are, only_end asks bytes c.in-Ok-Err.end (subst P c.in-Ok-Err.field-0-is said))

pub returns-in-Err-clause-answer : goal.returns-in-Err-clause-answer
returns-in-Err-clause-answer g c =
    let (bytes, are) = any_bytes c.args.feed.intake.taken (g.T.Chunks.rest c.args.feed.source) in
    (bytes, are, tt)

pub returns-in-Err-clause-only : goal.returns-in-Err-clause-only
returns-in-Err-clause-only g c =
    let (bytes, are) = any_bytes c.args.feed.intake.taken (g.T.Chunks.rest c.args.feed.source) in
    (bytes, are, tt)

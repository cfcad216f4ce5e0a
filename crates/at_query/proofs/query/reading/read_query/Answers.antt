use Rattle.std.proofs.Common.{inl}
use Rattle.at_query.proofs.QueryParts.{query_breaks}
use Rattle.at_query.proofs.QueryParts.{query_answers, answers_in_range}
use Rattle.at_query.proofs.query.reading.read_query.Goals as goal

pub returns-in-Ok-clause-answer : goal.returns-in-Ok-clause-answer
returns-in-Ok-clause-answer c = query_answers c.args.digits c.args.how c.args.text.now c.in-Ok.read c.without_fault.result c.in-Ok.ensures c.without_fault.ensures

pub returns-in-Ok-clause-in_range : goal.returns-in-Ok-clause-in_range
returns-in-Ok-clause-in_range c =
    answers_in_range c.args.digits c.args.how c.args.text.now c.without_fault.result (query_answers c.args.digits c.args.how c.args.text.now c.in-Ok.read c.without_fault.result c.in-Ok.ensures c.without_fault.ensures)

pub returns-in-Err-At-clause-answer : goal.returns-in-Err-At-clause-answer
returns-in-Err-At-clause-answer c =
    let h = rw c.in-Err-At.field-0-is at c.in-Err-At.ensures in
    inl (query_breaks c.args.digits c.args.how c.args.text.now c.in-Err-At.at h)

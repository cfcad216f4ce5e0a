use Rattle.std.proofs.Common.{None}
use Rattle.std.proofs.lemmas.Result.{err_from_is_err_and}
use Rattle.at_run.proofs.Results.{file_result}
use Rattle.at_run.proofs.OneAnswer.{the_file_fault_in, found_only}
use Rattle.at_run.proofs.answers.answer.Goals as goal

pub returns-clause-answer : goal.returns-clause-answer
returns-clause-answer g c =
    file_result c.args.form c.args.digits c.args.how c.args.query.now c.args.bytes.now c.in_ok-part.part c.in_ok-part.ensures.answer c.answer_of.result c.requires.short c.answer_of.ensures.exact

pub returns-clause-only : goal.returns-clause-only
returns-clause-only g c = the_file_fault_in c.args.form c.args.digits c.args.how c.args.bytes.now None c.in_ok-part.ensures.answer.faultless

pub returns-in_err-part-clause-only : goal.returns-in_err-part-clause-only
returns-in_err-part-clause-only g c =
    let (end, is_end, same) = err_from_is_err_and c.from_residual.result c.from_residual.ensures.1 in
    rw (is_end, same) (found_only c.args.form c.args.digits c.args.how c.args.bytes.now c.in_err-part.field-0.0 c.in_err-part.ensures.answer)

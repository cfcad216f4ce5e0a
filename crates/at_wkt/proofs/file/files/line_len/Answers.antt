use Rattle.std.proofs.Common.{length, arith, sym, ◌∙◌, take_all}
use Rattle.at_wkt.proofs.FileAnswers.{return_taken, return_kept}
use Rattle.at_wkt.proofs.file.files.line_len.Goals as goal

pub returns-then-ends_in_return-clause-text : goal.returns-then-ends_in_return-clause-text
returns-then-ends_in_return-clause-text c = return_taken c.args.piece.now (sym c.ends_in_return.ensures ∙ c.if-ends_in_return.true)

pub returns-else-ends_in_return-clause-text : goal.returns-else-ends_in_return-clause-text
returns-else-ends_in_return-clause-text c = take_all (length c.args.piece.now) c.args.piece.now (omega arith) ∙ return_kept c.args.piece.now (sym c.ends_in_return.ensures ∙ c.if-ends_in_return.false)

use Rattle.std.proofs.Common.{subst}
use Rattle.at_run.specs.Answers.{IsFilePart}
use Rattle.at_run.specs.Readers.{Asks}
use Rattle.at_run.proofs.Results.{file_result}
use Rattle.bench_blocks.proofs.answers.answer.Goals as goal

pub returns : goal.returns
returns g c =
    let IsPartOf : Asks → Type 0 = λ asks. IsFilePart asks.form asks.digits asks.how asks.query c.args.bytes.now c.in_ok-part.part in
    let is = subst IsPartOf c.new-reader.ensures c.in_ok-part.ensures in
    file_result c.args.form _ _ c.args.query c.args.bytes.now c.in_ok-part.part is c.answer_of.result c.requires.short c.answer_of.ensures.exact

use Rattle.at_cli.proofs.Loads.{ends_bytes}
use Rattle.at_cli.proofs.outcome.answering.one_in_chunks.Goals as goal

pub returns : goal.returns
returns g c =
    (ends_bytes c.args.file.line c.args.file.query c.args.file.bytes.items c.answer_in_chunks-answer.result c.end_of_one.result c.answer_in_chunks-answer.ensures.answer c.end_of_one.ensures.end, c.end_of_one.ensures.late)

use Rattle.at_run.proofs.JoinedFiles.{file_entries_proper}
use Rattle.at_run.proofs.joins.entries.Goals as goal

pub returns-clause-proper : goal.returns-clause-proper
returns-clause-proper g c =
    file_entries_proper c.args.digits c.args.how c.args.form c.args.query.now c.args.bytes.now c.entries_of.result c.requires.join (rw c.entries_of.ensures at c.in_ok-part.ensures.answer)

use Rattle.at_filter.proofs.Filtering.{lines_of, lines_seen}
use Rattle.at_filter.proofs.filter.pass.Goals as goal

pub returns-in-Lines-clause-bytes : goal.returns-in-Lines-clause-bytes
returns-in-Lines-clause-bytes c = lines_of c.args.filter c.args.seen c.args.bytes.now c.pass_lines.new.bytes c.in-Lines.is c.pass_lines.ensures

pub returns-in-Lines-clause-seen : goal.returns-in-Lines-clause-seen
returns-in-Lines-clause-seen c = lines_seen c.args.filter c.args.seen c.args.bytes.now c.in-Lines.is

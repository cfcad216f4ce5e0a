use Rattle.at_filter.proofs.Filtering.{plain_of, plain_seen_of}
use Rattle.at_filter.proofs.filter.skipped.Goals as goal

pub returns-in-Nothing-clause-bytes : goal.returns-in-Nothing-clause-bytes
returns-in-Nothing-clause-bytes c = plain_of c.args.seen c.args.bytes.now c.plain_length.result c.in-Nothing.is c.plain_length.ensures.first

pub returns-in-Nothing-clause-seen : goal.returns-in-Nothing-clause-seen
returns-in-Nothing-clause-seen c = plain_seen_of c.args.seen c.args.bytes.now c.plain_length.result c.in-Nothing.is c.plain_length.ensures.first

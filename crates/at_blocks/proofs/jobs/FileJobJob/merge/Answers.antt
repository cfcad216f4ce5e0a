use Rattle.at_blocks.proofs.BlockParts.{read_merged}
use Rattle.at_blocks.proofs.jobs.FileJobJob.merge.Goals as goal

pub returns-in-Read-Read : goal.returns-in-Read-Read
returns-in-Read-Read g c a b to =
    let job = c.args.self.now in
    read_merged (g.P.Pieces.stands job.reader.now) job.bytes.now job.places.now (g.G.Gate.given_up job.gate.now) job.order job.within job.some
    c.args.left c.args.right c.in-Read-Read.left c.in-Read-Read.right c.merge_pieces.result c.in-Read-Read.is-0 c.in-Read-Read.is-1 c.merge_pieces.ensures a b to

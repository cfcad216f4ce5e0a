use Rattle.std.proofs.Common.{◌++◌, ◌∙◌, ap, take}
use Rattle.at_task.proofs.FeedBytes.{chunk_taken}
use Rattle.at_task.proofs.drawing.take_chunk.Goals as goal

pub returns-in-Ready-clause-bytes : goal.returns-in-Ready-clause-bytes
returns-in-Ready-clause-bytes g c =
    chunk_taken c.args.intake.now.taken c.take.new.self.taken (take c.in-Ready.given c.poll_fill.new.room) c.in-Ready.given (g.T.Chunks.rest c.args.source.now) (g.T.Chunks.rest c.poll_fill.new.self)
    (c.take.ensures.taken ∙ ap (λ w. w ++ take c.in-Ready.given c.poll_fill.new.room) c.make_room.ensures.taken)
    c.in-Ready.ensures.bytes

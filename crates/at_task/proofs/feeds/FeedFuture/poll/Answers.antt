use Rattle.std.proofs.Common.{◌≡◌, ℕ, ◌+◌, ◌++◌, ◌^◌, List, length, subst, sym, refl, arith}
use Rattle.std.proofs.Math.ListN.{length-append}
use Rattle.at_run.specs.Readers.{Asks}
use Rattle.at_task.specs.FeedEnds.{IsFed}
use Rattle.at_task.proofs.FeedBytes.{some_bytes, end_bytes, any_bytes, said_before}
use Rattle.at_task.proofs.Said.{part_beside}
use Rattle.at_task.proofs.feeds.FeedFuture.poll.Goals as goal

pub returns-in-Ended-clause-value : goal.returns-in-Ended-clause-value
returns-in-Ended-clause-value g c =
    let before = c.args.self.now.intake.taken in
    let taken = c.draw.new.intake.taken in
    let rest = g.T.Chunks.rest c.args.self.now.source in
    let left = g.T.Chunks.rest c.draw.new.source in
    let (more, grown) = c.in-Ended.ensures.taken in
    let P : Asks → Type 0 = λ asks. IsFed asks taken c.finish.result in
    (taken, end_bytes before taken more grown rest left c.in-Ended.ensures.bytes (c.in-Ended.ensures.ended refl).1, subst P c.in-Ended.ensures.asks c.finish.ensures.fed)

pub returns-in-TooMany-clause-value : goal.returns-in-TooMany-clause-value
returns-in-TooMany-clause-value g c =
    let before = c.args.self.now.intake.taken in
    let taken = c.draw.new.intake.taken in
    let rest = g.T.Chunks.rest c.args.self.now.source in
    let left = g.T.Chunks.rest c.draw.new.source in
    let (more, grown) = c.in-TooMany.ensures.taken in
    let (behind, are) = some_bytes before taken more grown rest left c.in-TooMany.ensures.bytes in
    let many : length taken ≡ 2 ^ 28 + 1 = c.in-TooMany.ensures.many refl in
    let size = length-append taken behind in
    (taken ++ behind, are, omega (arith, many, size))

pub returns-in-Lacks-clause-value : goal.returns-in-Lacks-clause-value
returns-in-Lacks-clause-value g c =
    let (bytes, are) = any_bytes c.args.self.now.intake.taken (g.T.Chunks.rest c.args.self.now.source) in
    (bytes, are, tt)

pub returns-in-Waits-clause-same : goal.returns-in-Waits-clause-same
returns-in-Waits-clause-same g c out = said_before (λ asks bytes. IsFed asks bytes out) c.args.self.now.intake.taken c.draw.new.intake.taken (g.T.Chunks.rest c.args.self.now.source) (g.T.Chunks.rest c.draw.new.source) c.in-Waits.ensures.asks c.in-Waits.ensures.taken c.in-Waits.ensures.bytes

pub returns-in-Turned-clause-same : goal.returns-in-Turned-clause-same
returns-in-Turned-clause-same g c = rw c.yield_now.ensures.pending (λ out. said_before (λ asks bytes. IsFed asks bytes out) c.args.self.now.intake.taken c.draw.new.intake.taken (g.T.Chunks.rest c.args.self.now.source) (g.T.Chunks.rest c.draw.new.source) c.in-Turned.ensures.asks c.in-Turned.ensures.taken c.in-Turned.ensures.bytes)

pub returns-in-Ended-clause-part : goal.returns-in-Ended-clause-part
returns-in-Ended-clause-part g c =
    let P : Asks → Type 0 = λ asks. IsFed asks c.draw.new.intake.taken c.finish.result in
    let Q : List ℕ → Type 0 = λ taken. IsFed c.finish.new.self.asks taken c.finish.result in
    part_beside c.finish.new.self.asks c.finish.new.self.taken _ c.finish.result (c.in-Ended.ensures.ended refl) (subst Q (sym c.finish.ensures.taken) (subst P (sym c.finish.ensures.asks) c.finish.ensures.fed))

use Rattle.std.proofs.Common.{◌≡◌, ◌∙◌, ◌+◌, ◌^◌, ◌++◌, length, subst, arith}
use Rattle.std.proofs.Math.ListN.{length-append}
use Rattle.at_run.specs.Readers.{Asks}
use Rattle.at_task.specs.Keeping.{IsKept}
use Rattle.at_task.specs.PairEnds.{IsPaired}
use Rattle.at_task.proofs.FeedBytes.{both_begun, emptied_bytes}
use Rattle.at_task.proofs.Pairings.{paired_said}
use Rattle.at_task.proofs.join_feeds.JoinFeedFuture.poll.Goals as goal

pub returns-in-FirstTooLarge-clause-value : goal.returns-in-FirstTooLarge-clause-value
returns-in-FirstTooLarge-clause-value g c =
    let a = c.poll_one-first.new.feed.intake.taken in
    let b = c.poll_one-second.new.feed.intake.taken in
    let (behind, other, are, also) = both_begun a b (g.T.Chunks.rest c.poll_one-first.new.feed.source) (g.U.Chunks.rest c.poll_one-second.new.feed.source) _ _ c.poll_one-first.ensures.same_bytes c.poll_one-second.ensures.same_bytes in
    let many : length a ≡ 2 ^ 28 + 1 = c.poll_one-first.ensures.many.0 c.in-FirstTooLarge.ensures in
    let size = length-append a behind in
    (a ++ behind, b ++ other, are, also, omega (arith, many, size))

pub returns-in-SecondTooLarge-clause-value : goal.returns-in-SecondTooLarge-clause-value
returns-in-SecondTooLarge-clause-value g c =
    let a = c.poll_one-first.new.feed.intake.taken in
    let b = c.poll_one-second.new.feed.intake.taken in
    let (behind, other, are, also) = both_begun a b (g.T.Chunks.rest c.poll_one-first.new.feed.source) (g.U.Chunks.rest c.poll_one-second.new.feed.source) _ _ c.poll_one-first.ensures.same_bytes c.poll_one-second.ensures.same_bytes in
    let many : length b ≡ 2 ^ 28 + 1 = c.poll_one-second.ensures.many.0 c.in-SecondTooLarge.ensures.1 in
    let size = length-append b other in
    (a ++ behind, b ++ other, are, also, omega (arith, many, size))

pub returns-in-Lacks-clause-value : goal.returns-in-Lacks-clause-value
returns-in-Lacks-clause-value g c =
    let a = c.poll_one-first.new.feed.intake.taken in
    let b = c.poll_one-second.new.feed.intake.taken in
    let (behind, other, are, also) = both_begun a b (g.T.Chunks.rest c.poll_one-first.new.feed.source) (g.U.Chunks.rest c.poll_one-second.new.feed.source) _ _ c.poll_one-first.ensures.same_bytes c.poll_one-second.ensures.same_bytes in
    (a ++ behind, b ++ other, are, also, tt)

pub returns-in-Done-clause-value : goal.returns-in-Done-clause-value
returns-in-Done-clause-value g c =
    let a = c.poll_one-first.new.feed.intake.taken in
    let b = c.poll_one-second.new.feed.intake.taken in
    let one = c.poll_one-first.ensures.done c.in-Done.ensures.0 in
    let two = c.poll_one-second.ensures.done c.in-Done.ensures.1 in
    let P : Asks → Type 0 = λ asks. IsKept asks a c.take_kept-first.result in
    let Q : Asks → Type 0 = λ asks. IsKept asks b c.take_kept-second.result in (
      a,
      b,
      c.poll_one-first.ensures.same_bytes a (emptied_bytes a (g.T.Chunks.rest c.poll_one-first.new.feed.source) one.2),
      c.poll_one-second.ensures.same_bytes b (emptied_bytes b (g.U.Chunks.rest c.poll_one-second.new.feed.source) two.2),
      paired_said _ _ a b c.take_kept-first.result c.take_kept-second.result c.paired.result c.paired.ensures (subst P c.poll_one-first.ensures.same_asks c.take_kept-first.ensures.said)
          (subst Q c.poll_one-second.ensures.same_asks c.take_kept-second.ensures.said) (c.take_kept-second.ensures.there ∙ two.1),
    )

pub returns-in-FirstWaits-clause-same : goal.returns-in-FirstWaits-clause-same
returns-in-FirstWaits-clause-same g c out (a, b, are, also, said) =
    let P : Asks → Type 0 = λ asks. IsPaired asks c.poll_one-second.new.feed.intake.asks a b out in
    let Q : Asks → Type 0 = λ asks. IsPaired c.args.self.now.first.intake.asks asks a b out in
    (a, b, c.poll_one-first.ensures.same_bytes a are, c.poll_one-second.ensures.same_bytes b also, subst Q c.poll_one-second.ensures.same_asks (subst P c.poll_one-first.ensures.same_asks said))

pub returns-in-SecondWaits-clause-same : goal.returns-in-SecondWaits-clause-same
returns-in-SecondWaits-clause-same g c out (a, b, are, also, said) =
    let P : Asks → Type 0 = λ asks. IsPaired asks c.poll_one-second.new.feed.intake.asks a b out in
    let Q : Asks → Type 0 = λ asks. IsPaired c.args.self.now.first.intake.asks asks a b out in
    (a, b, c.poll_one-first.ensures.same_bytes a are, c.poll_one-second.ensures.same_bytes b also, subst Q c.poll_one-second.ensures.same_asks (subst P c.poll_one-first.ensures.same_asks said))

use Rattle.std.proofs.Common.{Result, subst}
use Rattle.at_run.proofs.JoinedFiles.{file_entries_proper}
use Rattle.at_task.specs.declared.ends.PairEnd.{PairEnd}
use Rattle.at_task.specs.declared.join_feeds.Both.{Both}
use Rattle.at_task.specs.PairEnds.{IsPaired}
use Rattle.at_task.proofs.FeedBytes.{any_bytes}
use Rattle.at_task.proofs.Pairings.{joins_said}
use Rattle.at_task.proofs.join_runs.run_join_feed.Goals as goal

pub joined-requires-clause-first : goal.joined-requires-clause-first
joined-requires-clause-first g c lifetimes lives =
    let asks = c.args.feed.first.intake.asks in
    let (a, b, are, also, said) = c.in-Ok-Ok.ensures in
    let P : Result Both PairEnd → Type 0 = λ out. IsPaired asks c.args.feed.second.intake.asks a b out in
    let entries = subst P c.in-Ok-Ok.field-0-is said in
    file_entries_proper asks.digits asks.how asks.form asks.query a c.in-Ok-Ok.both.first c.args.feed.joins entries.0.1

pub joined-requires-clause-second : goal.joined-requires-clause-second
joined-requires-clause-second g c lifetimes lives =
    let asks = c.args.feed.second.intake.asks in
    let (a, b, are, also, said) = c.in-Ok-Ok.ensures in
    let P : Result Both PairEnd → Type 0 = λ out. IsPaired c.args.feed.first.intake.asks asks a b out in
    let entries = subst P c.in-Ok-Ok.field-0-is said in
    file_entries_proper asks.digits asks.how asks.form asks.query b c.in-Ok-Ok.both.second c.args.feed.also_joins entries.1.1

pub returns-in-Ok-Ok-clause-answer : goal.returns-in-Ok-Ok-clause-answer
returns-in-Ok-Ok-clause-answer g c =
    let one = c.args.feed.first.intake.asks in
    let two = c.args.feed.second.intake.asks in
    let (a, b, are, also, said) = c.in-Ok-Ok.ensures in
    let P : Result Both PairEnd → Type 0 = λ out. IsPaired one two a b out in (
      a,
      b,
      are,
      also,
      joins_said one two a b c.in-Ok-Ok.both c.args.feed.joins c.args.feed.also_joins c.args.feed.all (subst P c.in-Ok-Ok.field-0-is said) c.joined.result c.joined.ensures.answer,
    )

pub returns-in-Err-clause-answer : goal.returns-in-Err-clause-answer
returns-in-Err-clause-answer g c =
    let (a, are) = any_bytes c.args.feed.first.intake.taken (g.T.Chunks.rest c.args.feed.first.source) in
    let (b, also) = any_bytes c.args.feed.second.intake.taken (g.U.Chunks.rest c.args.feed.second.source) in
    (a, b, are, also, tt)

use Rattle.std.proofs.Common.{List, ℕ, Option}
use Rattle.at_cli.specs.Outcomes.{HasFilesOutcome}
use Rattle.at_cli.specs.Endings.{Ends}
use Rattle.at_cli.specs.Loading.{OnEnd}
use Rattle.at_cli.proofs.ShelfUses.{join_has_second, other_has_none, with_second, with_none}
use Rattle.at_cli.proofs.outcome.loading.load_files.Goals as goal

pub load_two-requires-clause-second : goal.load_two-requires-clause-second
load_two-requires-clause-second g c = join_has_second c.args.query.verb c.args.line.second c.requires.right c.if-is_join.ensures

pub load_one-requires-clause-second : goal.load_one-requires-clause-second
load_one-requires-clause-second g c = other_has_none c.args.query.verb c.args.line.second c.requires.right c.if-is_join.ensures

pub returns-then-is_join-clause-outcome : goal.returns-then-is_join-clause-outcome
returns-then-is_join-clause-outcome g c =
    let P : Option (List ℕ) → Type 0 = λ second. OnEnd c.load_two.result (Ends (HasFilesOutcome second c.args.line c.args.query) (g.S.Shelf.files c.args.shelf.now)) in
    with_second c.args.line.second P (join_has_second c.args.query.verb c.args.line.second c.requires.right c.if-is_join.ensures) c.load_two.ensures.outcome

pub returns-clause-outcome : goal.returns-clause-outcome
returns-clause-outcome g c =
    let P : Option (List ℕ) → Type 0 = λ second. OnEnd c.load_one.result (Ends (HasFilesOutcome second c.args.line c.args.query) (g.S.Shelf.files c.args.shelf.now)) in
    with_none c.args.line.second P (other_has_none c.args.query.verb c.args.line.second c.requires.right c.if-is_join.ensures) c.load_one.ensures.outcome

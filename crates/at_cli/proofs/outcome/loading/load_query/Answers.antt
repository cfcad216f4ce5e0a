use Rattle.std.proofs.Common.{◌≡◌, ◌≢◌, ◌∙◌, Bool, sym, subst}
use Rattle.at_cli.specs.declared.outcome.ending.Ending.{Ending}
use Rattle.at_cli.specs.Outcomes.{has_right_count, HasCountedOutcome, IsQueryRefused, IsQueryAccepted}
use Rattle.at_cli.specs.Endings.{status_of, line_of, Ends}
use Rattle.at_cli.specs.Loading.{OnEnd}
use Rattle.at_cli.proofs.Loads.{on_ends, on_all}
use Rattle.at_cli.proofs.outcome.loading.load_query.Goals as goal

pub returns-clause-outcome : goal.returns-clause-outcome
returns-clause-outcome g c =
    let P : Bool → Type 0 = λ right. OnEnd c.load_files.result (Ends (λ told. HasCountedOutcome right c.args.line c.args.query told) (g.S.Shelf.files c.args.shelf.now)) in
    subst P (sym c.if-not-has_right_count.false ∙ c.has_right_count.ensures) c.load_files.ensures.outcome

pub returns-clause-refused : goal.returns-clause-refused
returns-clause-refused g c =
    let same = c.load_files.new.shelf ≡ c.args.shelf.now in
    on_ends c.load_files.result (λ end. status_of end ≢ 2) (λ end. status_of end ≡ 2 → IsQueryRefused c.args.line c.args.query (line_of end) × same) (λ end never two. absurd (never two)) c.load_files.ensures.status

pub returns-clause-accepted : goal.returns-clause-accepted
returns-clause-accepted g c = on_all c.load_files.result (λ end. status_of end ≢ 2 → IsQueryAccepted c.args.line c.args.query) (λ end never. sym c.has_right_count.ensures ∙ c.if-not-has_right_count.false)

use Rattle.std.proofs.Common.{sym, subst, ◌∙◌}
use Rattle.at_query.specs.declared.query.queries.Test.TheVariants.{MeetsShape}
use Rattle.at_query.specs.Readers.{Ends, Stops, Box, BoxTarget}
use Rattle.at_query.proofs.Parted.{told_ends, told_stops}
use Rattle.at_query.proofs.GeometryParts.{met_tells}
use Rattle.at_text.proofs.Exits.{exits}
use Rattle.at_query.proofs.query.targets.read_met_box.Goals as goal

pub returns-in_err-found : goal.returns-in_err-found
returns-in_err-found c =
    exits c.from_residual.result c.in_err-found.field-0.0 _ (Stops (Box c.args.rules.digits c.args.rules.how) c.args.text.now c.args.at) _ c.from_residual.ensures.1
    (λ n h. told_stops (met_tells c.args.rules.digits c.args.rules.how) h) c.in_err-found.ensures

pub returns : goal.returns
returns c =
    subst (λ z. Ends (BoxTarget c.args.rules.digits c.args.rules.how) c.args.text.now c.args.at c.in_ok-found.found.end (record { test = MeetsShape z; fault = c.in_ok-found.found.fault })) (sym (c.in_ok-bands.ensures ∙ c.in_ok-shape.ensures))
    (told_ends (met_tells c.args.rules.digits c.args.rules.how) c.in_ok-found.ensures)

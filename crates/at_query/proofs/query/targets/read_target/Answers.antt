use Rattle.std.proofs.Common.{sym, ◌∙◌, ap, not}
use Rattle.at_text.proofs.Exits.{answers_by}
use Rattle.at_query.proofs.Parted.{when_ends, when_stops}
use Rattle.at_query.proofs.GeometryParts.{when_box, when_geometry}
use Rattle.at_query.proofs.query.targets.read_target.Goals as goal

pub returns-then-stands : goal.returns-then-stands
returns-then-stands c =
    let here = sym c.stands.ensures ∙ c.if-stands.true in
    let when = when_box c.args.rules.digits c.args.rules.how in
    answers_by c.read_met_box.result _ _ _ _ c.read_met_box.ensures (λ read h. when_ends when here h) (λ n h. when_stops when here h)

pub returns-else-stands : goal.returns-else-stands
returns-else-stands c =
    let here = ap not (sym c.stands.ensures ∙ c.if-stands.false) in
    let when = when_geometry c.args.rules.digits c.args.rules.how in
    answers_by c.read_met_geometry.result _ _ _ _ c.read_met_geometry.ensures (λ read h. when_ends when here h) (λ n h. when_stops when here h)

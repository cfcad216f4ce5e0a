use Rattle.std.proofs.Common.{[], Ok, ◌∙◌}
use Rattle.at_wkt.proofs.Names.{faults_of_ring, SpellsRing, none_kept}
use Rattle.at_wkt.proofs.BodySteps.{ring_inhabited, ring_no_blank}
use Rattle.at_wkt.proofs.PartAnswers.{ended_item}
use Rattle.at_wkt.proofs.line.checks.pass_ring.Goals as goal

pub returns-in-Ok : goal.returns-in-Ok
returns-in-Ok c =
    let (none, part) = c.in_ok-ring.ensures in
    let faults = faults_of_ring c.args.source.now.rules.digits c.args.source.now.rules.how in
    (c.in-Ok.ensures.0 ∙ none, ended_item SpellsRing c.args.source.now.rules.base c.args.source.now.text.now c.args.from.at c.args.from.dimension ring_inhabited c.skip_blanks-start.result c.skip_blanks-start.ensures ring_no_blank faults none_kept [] [] c.in_ok-ring.ring part (Ok c.in-Ok.item) c.in-Ok.ensures)

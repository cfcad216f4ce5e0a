use Rattle.std.proofs.Common.{sym, ◌∙◌}
use Rattle.at_wkt.proofs.Names.{SpellsRing, Stuck, faults_of_ring, added_path}
use Rattle.at_wkt.proofs.BodySteps.{ring_inhabited, ring_no_blank}
use Rattle.at_wkt.proofs.PartAnswers.{ended_item, item_broken, ring_missing}
use Rattle.at_text.proofs.Exits.{exits}
use Rattle.at_wkt.proofs.line.parts.RingListListed.read.Goals as goal

pub returns-then-not-stands : goal.returns-then-not-stands
returns-then-not-stands c = ring_missing _ _ _ _ _ c.skip_blanks-at.ensures c.requires.count (sym c.stands.ensures ∙ c.if-not-stands.true)

pub returns-in_err-ring : goal.returns-in_err-ring
returns-in_err-ring c = exits c.from_residual.result c.in_err-ring.field-0.0 _ (Stuck SpellsRing c.args.source.now.rules.base c.args.source.now.text.now c.skip_blanks-at.result c.args.from.dimension) _ c.from_residual.ensures.1
    (item_broken SpellsRing _ _ _ _ ring_inhabited _ c.skip_blanks-at.ensures ring_no_blank) c.in_err-ring.ensures

pub returns : goal.returns
returns c = ended_item SpellsRing _ _ _ _ ring_inhabited _ c.skip_blanks-at.ensures ring_no_blank (faults_of_ring c.args.source.now.rules.digits c.args.source.now.rules.how) (added_path c.args.source.now.rules.digits c.args.source.now.rules.how) _ _ c.in_ok-ring.ring c.in_ok-ring.ensures c.end_item.result c.end_item.ensures

use Rattle.std.proofs.Common.{[]}
use Rattle.at_wkt.proofs.Names.{SpellsRing, SpellsArea, Stuck, faults_of_area, polygons_of}
use Rattle.at_wkt.proofs.BodySteps.{parted_choice, blankless, choice_begins, choice_inhabited}
use Rattle.at_wkt.proofs.PartAnswers.{ended_item, item_broken}
use Rattle.at_text.proofs.Exits.{exits}
use Rattle.at_wkt.proofs.line.parts.AreaListListed.read.Goals as goal

pub returns-in_err-polygon : goal.returns-in_err-polygon
returns-in_err-polygon c = exits c.from_residual.result c.in_err-polygon.field-0.0 _ (Stuck SpellsArea c.args.source.now.rules.base c.args.source.now.text.now c.skip_blanks-at.result c.args.from.dimension) _ c.from_residual.ensures.1
    (item_broken SpellsArea _ _ _ _ (choice_inhabited _ _ (λ xs. xs) [] (parted_choice SpellsRing)) _ c.skip_blanks-at.ensures (blankless SpellsArea (choice_begins _ _ (λ xs. xs) [] (parted_choice SpellsRing)))) c.in_err-polygon.ensures

pub returns : goal.returns
returns c = ended_item SpellsArea _ _ _ _ (choice_inhabited _ _ (λ xs. xs) [] (parted_choice SpellsRing)) _ c.skip_blanks-at.ensures (blankless SpellsArea (choice_begins _ _ (λ xs. xs) [] (parted_choice SpellsRing))) (faults_of_area c.args.source.now.rules.digits c.args.source.now.rules.how) (polygons_of c.args.source.now.rules.digits c.args.source.now.rules.how) _ _ c.in_ok-polygon.polygon c.in_ok-polygon.ensures c.end_item.result c.end_item.ensures

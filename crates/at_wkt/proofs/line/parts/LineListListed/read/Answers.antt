use Rattle.std.proofs.Common.{Some, None}
use Rattle.at_wkt.proofs.Names.{SpellsRing, SpellsList, Stuck, line_faults, added_line}
use Rattle.at_wkt.proofs.BodySteps.{list_choice, blankless, choice_begins, choice_inhabited}
use Rattle.at_wkt.proofs.PartAnswers.{ended_item, item_broken}
use Rattle.at_text.proofs.Exits.{exits}
use Rattle.at_wkt.proofs.line.parts.LineListListed.read.Goals as goal

pub returns-in_err-line : goal.returns-in_err-line
returns-in_err-line c = exits c.from_residual.result c.in_err-line.field-0.0 _ (Stuck SpellsList c.args.source.now.rules.base c.args.source.now.text.now c.skip_blanks-at.result c.args.from.dimension) _ c.from_residual.ensures.1
    (item_broken SpellsList _ _ _ _ (choice_inhabited SpellsList SpellsRing (λ ps. Some ps) None list_choice) _ c.skip_blanks-at.ensures (blankless SpellsList (choice_begins SpellsList SpellsRing (λ ps. Some ps) None list_choice))) c.in_err-line.ensures

pub returns : goal.returns
returns c = ended_item SpellsList _ _ _ _ (choice_inhabited SpellsList SpellsRing (λ ps. Some ps) None list_choice) _ c.skip_blanks-at.ensures (blankless SpellsList (choice_begins SpellsList SpellsRing (λ ps. Some ps) None list_choice)) (line_faults c.args.source.now.rules.digits c.args.source.now.rules.how) (added_line c.args.source.now.rules.digits c.args.source.now.rules.how) _ _ c.in_ok-line.line c.in_ok-line.ensures c.end_item.result c.end_item.ensures

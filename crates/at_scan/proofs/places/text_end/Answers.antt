-- A whole string.
use Rattle.at_text.proofs.Exits.{taken_ok}
use Rattle.at_scan.specs.Places.{IsTextAt}
use Rattle.at_scan.proofs.Taken.{text_taken}
use Rattle.at_scan.proofs.places.text_end.Goals as goal

pub returns : goal.returns
returns c =
    let taken = c.take_text.result in
    taken_ok taken.whole c.end_from.result _ (IsTextAt c.args.text.now c.args.at) c.end_from.ensures.word c.end_from.ensures.stop (text_taken c.args.text.now c.args.at taken c.requires.inside c.take_text.ensures)

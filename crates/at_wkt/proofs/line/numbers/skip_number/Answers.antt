-- The end of the number, or the place where it breaks.
use Rattle.at_text.proofs.Exits.{taken_ends}
use Rattle.at_wkt.specs.Readers.{NumberSkips, NumberBreaks}
use Rattle.at_wkt.proofs.NumberSteps.{number_skips, number_breaks}
use Rattle.at_wkt.proofs.line.numbers.skip_number.Goals as goal

pub returns : goal.returns
returns c =
    let taken = c.wkt_number.result in
    taken_ends taken.whole c.end_from.result _ (NumberSkips c.args.source.now.text.now c.args.at) (NumberBreaks c.args.source.now.text.now c.args.at) c.end_from.ensures.word c.end_from.ensures.stop
    (number_skips c.args.source.now.text.now c.args.at taken.len c.requires.inside taken.whole c.wkt_number.ensures)
    (number_breaks c.args.source.now.text.now c.args.at taken.len c.requires.inside taken.whole c.wkt_number.ensures)

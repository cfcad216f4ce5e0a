use Rattle.std.proofs.Common.{sym, ◌∙◌, lit≤}
use Rattle.at_wkt.proofs.PositionAnswers.{further_ended, delimiter_inside}
use Rattle.at_wkt.proofs.PlainAnswers.{delimiter_free}
use Rattle.at_wkt.proofs.line.positions.read_behind.Goals as goal

pub returns-then-delimiter_stands : goal.returns-then-delimiter_stands
returns-then-delimiter_stands c =
    let here = sym c.delimiter_stands.ensures ∙ c.if-delimiter_stands.true in
    let inside = delimiter_inside c.args.source.now.text.now c.args.from.at here in
    further_ended c.args.source.now.text.now c.args.from.at c.args.from.at c.args.from.dimension 2 (delimiter_free c.args.source.now.text.now c.args.from.at inside here) c.requires.reaches (lit≤ tt)
    inside here c.end_position.result c.end_position.ensures

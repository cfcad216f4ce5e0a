use Rattle.at_cli.specs.Made.{wkt_line}
use Rattle.at_cli.proofs.MadeSizes.{texts_more}
use Rattle.at_cli.proofs.made.push_squares.Goals as goal

pub loop-index-preserved : goal.loop-index-preserved
loop-index-preserved c = (texts_more wkt_line c.loop-index.index c.args.text.now.items c.loop-index.text.items c.push_square.new.text.items c.loop-index.invariant.0 c.in_ok-push_square.ensures, c.in_ok-renew_line_row.ensures.texts)

use Rattle.std.proofs.lemmas.Result.{on_ok_weaker}
use Rattle.at_cli.proofs.SquareTexts.{line_together}
use Rattle.at_cli.proofs.made.push_line.Goals as goal

pub returns : goal.returns
returns c = on_ok_weaker c.push_corners.result (line_together c.args.text.now.items c.extend_from_slice.new.self.items c.push_corners.new.text.items c.args.left.now c.args.right.now c.args.row.now c.requires c.in_ok-extend_from_slice.ensures.items) c.push_corners.ensures

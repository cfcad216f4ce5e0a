use Rattle.std.proofs.Common.{◌∙◌, arith}
use Rattle.std.proofs.lemmas.Result.{on_ok_weaker}
use Rattle.at_cli.proofs.SquareTexts.{number_at, line_at}
use Rattle.at_cli.proofs.made.push_square.Goals as goal

pub returns : goal.returns
returns c =
    on_ok_weaker c.push_line.result (line_at c.args.index c.args.row.now.row c.args.text.now.items c.push_line.new.text.items c.as_slice.result.now c.as_slice-2.result.now (c.as_slice.ensures ∙ (c.index-columns-column.is ∙ number_at c.args.columns.now _ _ c.requires.columns (omega arith))) (c.as_slice-2.ensures ∙ (c.index-columns-column-2.is ∙ number_at c.args.columns.now _ _ c.requires.columns (omega arith))) c.requires.row) c.push_line.ensures

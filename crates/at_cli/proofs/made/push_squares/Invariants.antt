use Rattle.std.proofs.Common.{◌≡◌, ◌++◌}
use Rattle.std.specs.List.{flat_map, range_with_len}
use Rattle.at_cli.specs.Made.{wkt_line}
use Rattle.at_cli.specs.Squares.{AreLineTexts}
use Rattle.at_cli.proofs.made.push_squares.Given as goal

-- those so far are put behind the text, and the row's texts are those of lines
abbrev pub invariant-loop-index : goal.invariant-loop-index
invariant-loop-index l = (l.text.items ≡ l.fn.text.items ++ flat_map wkt_line (range_with_len 0 l.index)) × AreLineTexts l.row

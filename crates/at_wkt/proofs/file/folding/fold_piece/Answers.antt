use Rattle.std.proofs.Common.{false, sym, ◌≡◌, List, ℕ, subst, take}
use Rattle.std.specs.List.{list_any}
use Rattle.at_wkt.specs.Lines.{is_line_feed}
use Rattle.at_wkt.proofs.LineFronts.{line_taken}
use Rattle.at_wkt.proofs.LinePieces.{line_has_one}
use Rattle.at_wkt.proofs.file.folding.fold_piece.Goals as goal

pub add-requires-clause-one : goal.add-requires-clause-one
add-requires-clause-one g c =
    let P : List ℕ → Type 0 = λ z. list_any is_line_feed z ≡ false in
    subst P (sym (line_taken c.args.ahead.now c.args.len c.line_len-line.result c.line_len-line.ensures.shorter c.line_len-line.ensures.text)) (line_has_one (take c.args.len c.args.ahead.now) c.requires.one)

use Rattle.std.proofs.Common.{ap}
use Rattle.at_text.specs.declared.texts.Span.{Span}
use Rattle.at_wkt.proofs.LineMerges.{neighbours_are, pieces_merged, piece_lines_merged, lines_piece_merged}
use Rattle.at_wkt.proofs.file.fragments.merge_lines.Goals as goal

pub returns-in-Piece-Piece-clause-merged : goal.returns-in-Piece-Piece-clause-merged
returns-in-Piece-Piece-clause-merged g c i j k n = pieces_merged (g.F.Fold.is_own c.args.fold.now) (g.F.Fold.is_fold c.args.fold.now) c.args.bytes.now i j k
    c.in-Piece-Piece.left c.in-Piece-Piece.right c.joined.result
    (neighbours_are (g.F.Fold.is_own c.args.fold.now) (g.F.Fold.is_fold c.args.fold.now) c.args.bytes.now i j k c.args.left c.args.right _ _ c.in-Piece-Piece.is-0 c.in-Piece-Piece.is-1 n)
    (ap (λ (z : Span). z.from) c.joined.ensures) (ap (λ (z : Span). z.to) c.joined.ensures)

pub returns-in-Piece-Lines-clause-merged : goal.returns-in-Piece-Lines-clause-merged
returns-in-Piece-Lines-clause-merged g c i j k n = piece_lines_merged (g.F.Fold.is_own c.args.fold.now) (g.F.Fold.is_fold c.args.fold.now) c.args.bytes.now i j k
    c.in-Piece-Lines.left c.in-Piece-Lines.right c.joined-in-Piece-Lines.result
    (neighbours_are (g.F.Fold.is_own c.args.fold.now) (g.F.Fold.is_fold c.args.fold.now) c.args.bytes.now i j k c.args.left c.args.right _ _ c.in-Piece-Lines.is-0 c.in-Piece-Lines.is-1 n)
    (ap (λ (z : Span). z.from) c.joined-in-Piece-Lines.ensures) (ap (λ (z : Span). z.to) c.joined-in-Piece-Lines.ensures)

pub returns-in-Lines-Piece-clause-merged : goal.returns-in-Lines-Piece-clause-merged
returns-in-Lines-Piece-clause-merged g c i j k n = lines_piece_merged (g.F.Fold.is_own c.args.fold.now) (g.F.Fold.is_fold c.args.fold.now) c.args.bytes.now i j k
    c.in-Lines-Piece.left c.in-Lines-Piece.right c.joined-in-Lines-Piece.result
    (neighbours_are (g.F.Fold.is_own c.args.fold.now) (g.F.Fold.is_fold c.args.fold.now) c.args.bytes.now i j k c.args.left c.args.right _ _ c.in-Lines-Piece.is-0 c.in-Lines-Piece.is-1 n)
    (ap (λ (z : Span). z.from) c.joined-in-Lines-Piece.ensures) (ap (λ (z : Span). z.to) c.joined-in-Lines-Piece.ensures)

use Rattle.std.proofs.Common.{◌≤◌, length, drop, arith, length-drop}
use Rattle.at_wkt.proofs.Pieces.{left_is}
use Rattle.at_wkt.proofs.LineMerges.{next_has_one, folded_more, folded_all}
use Rattle.at_wkt.proofs.file.fragments.read_inner.Goals as goal

pub returns-then-end-bytes : goal.returns-then-end-bytes
returns-then-end-bytes g c = folded_all (g.F.Fold.is_own c.args.fold.now) (g.F.Fold.is_fold c.args.fold.now) c.args.at c.args.bytes.now c.lines.start c.lines.part c.lines.invariant
    c.first_place.result c.first_place.ensures.first c.if-end-bytes.true

pub fold_piece-requires-clause-one : goal.fold_piece-requires-clause-one
fold_piece-requires-clause-one g c κs within =
    let short : c.first_place.result ≤ length (drop c.lines.start c.args.bytes.now) = rw (left_is c.args.bytes.now c.lines.start) at c.first_place.ensures.within in
    next_has_one (g.F.Fold.is_own c.args.fold.now) (g.F.Fold.is_fold c.args.fold.now) c.args.at c.args.bytes.now c.lines.start c.lines.part c.lines.invariant
    c.first_place.result c.first_place.ensures.first (omega (arith, length-drop c.lines.start c.args.bytes.now, c.lines.invariant.within))

pub lines-preserved : goal.lines-preserved
lines-preserved g c =
    let short : c.first_place.result ≤ length (drop c.lines.start c.args.bytes.now) = rw (left_is c.args.bytes.now c.lines.start) at c.first_place.ensures.within in
    folded_more (g.F.Fold.is_own c.args.fold.now) (g.F.Fold.is_fold c.args.fold.now) c.args.at c.args.bytes.now c.lines.start c.lines.part c.lines.invariant
    c.first_place.result c.first_place.ensures.first (omega (arith, length-drop c.lines.start c.args.bytes.now, c.lines.invariant.within))
    c.fold_piece.new.part c.in_ok-fold_piece.ensures.own c.in_ok-fold_piece.ensures.fold

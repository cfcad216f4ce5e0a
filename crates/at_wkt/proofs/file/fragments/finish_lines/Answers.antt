use Rattle.std.proofs.lemmas.Result.{IfOk-weaker}
use Rattle.at_text.specs.Texts.{base_of as base_in}
use Rattle.at_wkt.proofs.LineMerges.{held, piece_has, before_has, behind_has, lines_finished, base_within}
use Rattle.at_wkt.proofs.file.fragments.finish_lines.Goals as goal

pub fold_span-requires-clause-one : goal.fold_span-requires-clause-one
fold_span-requires-clause-one g c κs within = (piece_has (g.F.Fold.is_own c.args.fold.now) (g.F.Fold.is_fold c.args.fold.now) c.args.bytes.now (base_in c.args.bytes.now) (base_within c.args.bytes.now) c.in-Piece.span
    (held (g.F.Fold.is_own c.args.fold.now) (g.F.Fold.is_fold c.args.fold.now) c.args.bytes.now (base_in c.args.bytes.now) (base_within c.args.bytes.now) c.args.whole _ c.in-Piece.is c.requires.whole)).one

pub fold_span-requires-in-Lines-clause-within : goal.fold_span-requires-in-Lines-clause-within
fold_span-requires-in-Lines-clause-within g c κs within = (before_has (g.F.Fold.is_own c.args.fold.now) (g.F.Fold.is_fold c.args.fold.now) c.args.bytes.now (base_in c.args.bytes.now) (base_within c.args.bytes.now) c.in-Lines.whole
    (held (g.F.Fold.is_own c.args.fold.now) (g.F.Fold.is_fold c.args.fold.now) c.args.bytes.now (base_in c.args.bytes.now) (base_within c.args.bytes.now) c.args.whole _ c.in-Lines.is c.requires.whole)).within

pub fold_span-requires-in-Lines-clause-one : goal.fold_span-requires-in-Lines-clause-one
fold_span-requires-in-Lines-clause-one g c κs within = (before_has (g.F.Fold.is_own c.args.fold.now) (g.F.Fold.is_fold c.args.fold.now) c.args.bytes.now (base_in c.args.bytes.now) (base_within c.args.bytes.now) c.in-Lines.whole
    (held (g.F.Fold.is_own c.args.fold.now) (g.F.Fold.is_fold c.args.fold.now) c.args.bytes.now (base_in c.args.bytes.now) (base_within c.args.bytes.now) c.args.whole _ c.in-Lines.is c.requires.whole)).one

pub fold_span-requires-in-Lines-2-clause-within : goal.fold_span-requires-in-Lines-2-clause-within
fold_span-requires-in-Lines-2-clause-within g c κs within = (behind_has (g.F.Fold.is_own c.args.fold.now) (g.F.Fold.is_fold c.args.fold.now) c.args.bytes.now (base_in c.args.bytes.now) (base_within c.args.bytes.now) c.in-Lines.whole
    (held (g.F.Fold.is_own c.args.fold.now) (g.F.Fold.is_fold c.args.fold.now) c.args.bytes.now (base_in c.args.bytes.now) (base_within c.args.bytes.now) c.args.whole _ c.in-Lines.is c.requires.whole)).within

pub fold_span-requires-in-Lines-2-clause-one : goal.fold_span-requires-in-Lines-2-clause-one
fold_span-requires-in-Lines-2-clause-one g c κs within = (behind_has (g.F.Fold.is_own c.args.fold.now) (g.F.Fold.is_fold c.args.fold.now) c.args.bytes.now (base_in c.args.bytes.now) (base_within c.args.bytes.now) c.in-Lines.whole
    (held (g.F.Fold.is_own c.args.fold.now) (g.F.Fold.is_fold c.args.fold.now) c.args.bytes.now (base_in c.args.bytes.now) (base_within c.args.bytes.now) c.args.whole _ c.in-Lines.is c.requires.whole)).one

pub returns-in_ok-part-in-Lines-clause-fold : goal.returns-in_ok-part-in-Lines-clause-fold
returns-in_ok-part-in-Lines-clause-fold g c = IfOk-weaker c.fold_span-in-Lines-2.result _ _ (λ part more. lines_finished (g.F.Fold.is_own c.args.fold.now) (g.F.Fold.is_fold c.args.fold.now) c.args.bytes.now (base_in c.args.bytes.now) (base_within c.args.bytes.now)
    c.in-Lines.whole c.none-none-in-Lines.result c.in_ok-first-in-Lines.first c.in_ok-part-in-Lines.part part (held (g.F.Fold.is_own c.args.fold.now) (g.F.Fold.is_fold c.args.fold.now) c.args.bytes.now (base_in c.args.bytes.now) (base_within c.args.bytes.now) c.args.whole _ c.in-Lines.is c.requires.whole) c.none-none-in-Lines.ensures.fold c.in_ok-first-in-Lines.ensures.fold c.in_ok-part-in-Lines.ensures.fold more) c.fold_span-in-Lines-2.ensures.fold

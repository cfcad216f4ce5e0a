-- Each kind of item goes its own way.
use Rattle.std.proofs.Common.{subst}
use Rattle.std.proofs.lemmas.Result.{IfOk-weaker}
use Rattle.at_nest.specs.declared.pieces.Piece.{Piece}
use Rattle.at_nest.specs.declared.pieces.Piece.TheVariants.{Row as RowPiece}
use Rattle.at_nest.specs.Shown.{shown}
use Rattle.at_nest.specs.KeptItems.{OwnAtom, CanAdd}
use Rattle.at_nest.proofs.Adding.{adds_comma, adds_colon}
use Rattle.at_nest.proofs.OwnItems.{can_add_own}
use Rattle.at_nest.proofs.bodies.add.Goals as goal

pub returns-in-Comma : goal.returns-in-Comma
returns-in-Comma g c = IfOk-weaker c.comma.result _ _ (λ r d. adds_comma _ c.args.source.now.bytes.now (shown c.args.body.now) c.args.piece (shown c.comma.new.self) r c.in-Comma.at c.in-Comma.is d) c.comma.ensures

pub returns-in-Colon : goal.returns-in-Colon
returns-in-Colon g c = IfOk-weaker c.colon.result _ _ (λ r d. adds_colon _ c.args.source.now.bytes.now (shown c.args.body.now) c.args.piece (shown c.colon.new.self) r c.in-Colon.at c.in-Colon.is d) c.colon.ensures

pub add_row-requires-clause-row : goal.add_row-requires-clause-row
add_row-requires-clause-row g c κs within = let own = g.A.Algebra.is_own c.args.source.now.algebra.now in let fold = g.A.Algebra.is_fold c.args.source.now.algebra.now in let run = g.A.Algebra.is_run c.args.source.now.algebra.now in
    can_add_own own fold run c.args.source.now.bytes.now (shown c.args.body.now) (RowPiece c.in-Row.row) (subst (λ (z : Piece g.row.A-Atom.Denot). CanAdd (OwnAtom own fold run) c.args.source.now.bytes.now (shown c.args.body.now) z) c.in-Row.is c.requires.held)

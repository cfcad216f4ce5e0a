-- The row before the comma has a value more, or one begins.
use Rattle.std.proofs.Common.{[], ◌∷◌, ◌++◌, ◌∙◌, ap}
use Rattle.std.proofs.lemmas.Result.{IfOk-weaker}
use Rattle.at_nest.specs.declared.pieces.Piece.{Piece}
use Rattle.at_nest.specs.Shown.{shown}
use Rattle.at_nest.specs.KeptItems.{OwnAtom}
use Rattle.at_nest.proofs.OwnItems.{row_own}
use Rattle.at_nest.proofs.Rows.{row_longer}
use Rattle.at_nest.proofs.bodies.keep_behind.Goals as goal

pub lengthen_row-requires-clause-items : goal.lengthen_row-requires-clause-items
lengthen_row-requires-clause-items g c κs within =
    row_own _ _ _ (shown c.args.body.now) c.pop.new.self.items c.in-Some-Row.row c.requires.held (c.in-Some-Row.ensures.items ∙ ap (λ (z : Piece g.row.A-Atom.Denot). c.pop.new.self.items ++ z ∷ []) c.in-Some-Row.field-0-is)

pub returns-in-Some-Row : goal.returns-in-Some-Row
returns-in-Some-Row g c = let own = g.A.Algebra.is_own c.args.algebra.now in let fold = g.A.Algebra.is_fold c.args.algebra.now in let run = g.A.Algebra.is_run c.args.algebra.now in
    IfOk-weaker c.lengthen_row.result _ _
    (λ r l. row_longer (OwnAtom own fold run) (shown c.args.body.now) (shown c.lengthen_row.new.body) r c.pop.new.self.items c.in-Some-Row.row l.0 c.args.value.comma c.args.value.from c.args.value.atom c.requires.outside (c.in-Some-Row.ensures.items ∙ ap (λ (z : Piece g.row.A-Atom.Denot). c.pop.new.self.items ++ z ∷ []) c.in-Some-Row.field-0-is) l.1 l.2)
    c.lengthen_row.ensures

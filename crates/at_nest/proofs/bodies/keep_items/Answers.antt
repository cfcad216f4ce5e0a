-- The comma that was the last goes into a row with the values.
use Rattle.std.proofs.Common.{[], ◌∷◌, ◌++◌, ap, ◌∙◌}
use Rattle.std.proofs.lemmas.Result.{IfOk-weaker}
use Rattle.at_nest.specs.declared.pieces.Piece.{Piece}
use Rattle.at_nest.specs.declared.pieces.Piece.TheVariants.{Comma}
use Rattle.at_nest.specs.Shown.{shown}
use Rattle.at_nest.specs.KeptItems.{OwnAtom}
use Rattle.at_nest.proofs.Rows.{without_last, items_behind, no_comma_last}
use Rattle.at_nest.proofs.bodies.keep_items.Goals as goal

pub keep_behind-requires-clause-held : goal.keep_behind-requires-clause-held
keep_behind-requires-clause-held g c κs within = let own = g.A.Algebra.is_own c.args.algebra.now in let fold = g.A.Algebra.is_fold c.args.algebra.now in let run = g.A.Algebra.is_run c.args.algebra.now in
    without_last (OwnAtom own fold run) (shown c.args.body.now) c.pop.new.self.items (Comma c.in-Comma.comma) c.requires.held (c.in-Some.ensures.items ∙ ap (λ (z : Piece g.row.A-Atom.Denot). c.pop.new.self.items ++ z ∷ []) c.in-Comma.is)

pub returns-in-Comma : goal.returns-in-Comma
returns-in-Comma g c = let own = g.A.Algebra.is_own c.args.algebra.now in let fold = g.A.Algebra.is_fold c.args.algebra.now in let run = g.A.Algebra.is_run c.args.algebra.now in
    IfOk-weaker c.keep_behind.result _ _
    (λ r d. items_behind (OwnAtom own fold run) (shown c.args.body.now) (shown c.keep_behind.new.body) r c.pop.new.self.items c.in-Comma.comma c.args.from c.args.atom c.requires.outside (c.in-Some.ensures.items ∙ ap (λ (z : Piece g.row.A-Atom.Denot). c.pop.new.self.items ++ z ∷ []) c.in-Comma.is) d)
    c.keep_behind.ensures

pub returns-in_default : goal.returns-in_default
returns-in_default g c = absurd (no_comma_last c.args.body.now.outer.items c.pop.new.self.items c.in-Some.piece c.in-Some.ensures.items c.requires.takes c.in_default.not-Comma)

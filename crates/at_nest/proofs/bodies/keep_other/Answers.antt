-- A comma that was the last goes into a row with the value; else the value stands alone.
use Rattle.std.proofs.Common.{[], ◌∷◌, ◌++◌, sym, ap, ◌∙◌, append-nil}
use Rattle.std.proofs.lemmas.Result.{IfOk-weaker}
use Rattle.at_nest.specs.declared.pieces.Piece.{Piece}
use Rattle.at_nest.specs.declared.pieces.Piece.TheVariants.{Comma}
use Rattle.at_nest.specs.Shown.{shown}
use Rattle.at_nest.specs.KeptItems.{OwnAtom}
use Rattle.at_nest.proofs.Rows.{without_last, value_behind}
use Rattle.at_nest.proofs.Showing.{value_outside}
use Rattle.at_nest.proofs.bodies.keep_other.Goals as goal

pub keep_behind-requires-clause-held : goal.keep_behind-requires-clause-held
keep_behind-requires-clause-held g c κs within = let own = g.A.Algebra.is_own c.args.algebra.now in let fold = g.A.Algebra.is_fold c.args.algebra.now in let run = g.A.Algebra.is_run c.args.algebra.now in
    without_last (OwnAtom own fold run) (shown c.args.body.now) c.pop.new.self.items (Comma c.in-Some-Comma.comma) c.requires.held (c.in-Some-Comma.ensures.items ∙ ap (λ (z : Piece g.row.A-Atom.Denot). c.pop.new.self.items ++ z ∷ []) c.in-Some-Comma.field-0-is)

pub returns-in-Some-Comma : goal.returns-in-Some-Comma
returns-in-Some-Comma g c = let own = g.A.Algebra.is_own c.args.algebra.now in let fold = g.A.Algebra.is_fold c.args.algebra.now in let run = g.A.Algebra.is_run c.args.algebra.now in
    IfOk-weaker c.keep_behind.result _ _
    (λ r d. value_behind (OwnAtom own fold run) (shown c.args.body.now) (shown c.keep_behind.new.body) r c.pop.new.self.items c.in-Some-Comma.comma c.args.from c.args.atom c.requires.outside (c.in-Some-Comma.ensures.items ∙ ap (λ (z : Piece g.row.A-Atom.Denot). c.pop.new.self.items ++ z ∷ []) c.in-Some-Comma.field-0-is) d)
    c.keep_behind.ensures

pub returns-in_ok-push-in-Some : goal.returns-in_ok-push-in-Some
returns-in_ok-push-in-Some g c = let own = g.A.Algebra.is_own c.args.algebra.now in let fold = g.A.Algebra.is_fold c.args.algebra.now in let run = g.A.Algebra.is_run c.args.algebra.now in
    IfOk-weaker c.keep.result _ _
    (λ r d base w f t h k. value_outside (OwnAtom own fold run) base w (shown c.args.body.now) c.push.new.self.items (shown c.keep.new.self) r c.args.from c.args.atom t f c.requires.outside (c.in-Some.ensures.items ∙ sym c.in_ok-push-in-Some.ensures.items) d h k)
    c.keep.ensures

pub returns-in-None : goal.returns-in-None
returns-in-None g c = let own = g.A.Algebra.is_own c.args.algebra.now in let fold = g.A.Algebra.is_fold c.args.algebra.now in let run = g.A.Algebra.is_run c.args.algebra.now in
    IfOk-weaker c.keep-in-None.result _ _
    (λ r d base w f t h k. value_outside (OwnAtom own fold run) base w (shown c.args.body.now) c.pop.new.self.items (shown c.keep-in-None.new.self) r c.args.from c.args.atom t f c.requires.outside (c.in-None.ensures.items ∙ append-nil c.pop.new.self.items) d h k)
    c.keep-in-None.ensures

-- The value of a member that waits for one, or a string that may be a name.
use Rattle.std.proofs.Common.{refl}
use Rattle.std.proofs.lemmas.Result.{IfOk-weaker}
use Rattle.at_nest.specs.Shown.{shown}
use Rattle.at_nest.specs.KeptItems.{OwnAtom}
use Rattle.at_nest.specs.MemberMarks.{string_value}
use Rattle.at_nest.proofs.Showing.{text_outside}
use Rattle.at_nest.proofs.bodies.keep_text.Goals as goal

pub returns-in-Some : goal.returns-in-Some
returns-in-Some g c = IfOk-weaker c.keep_awaited.result _ _ (λ r d base w f cs h t k. d base w f (string_value c.args.span.from cs) h k) c.keep_awaited.ensures

pub returns-in-None : goal.returns-in-None
returns-in-None g c = let own = g.A.Algebra.is_own c.args.algebra.now in let fold = g.A.Algebra.is_fold c.args.algebra.now in let run = g.A.Algebra.is_run c.args.algebra.now in
    IfOk-weaker c.keep.result _ _
    (λ r d base w f cs h t k. text_outside (OwnAtom own fold run) base w (shown c.args.body.now) (shown c.args.body.now).outer (shown c.keep.new.self) r c.args.span cs c.args.atom f c.requires refl d h t k)
    c.keep.ensures

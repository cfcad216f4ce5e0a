-- The row is of the one value.
use Rattle.std.proofs.lemmas.Result.{IfOk-weaker}
use Rattle.std.proofs.Common.{subst, List}
use Rattle.at_nest.specs.Shown.{shown}
use Rattle.at_nest.specs.KeptItems.{OwnAtom, Gains}
use Rattle.at_nest.proofs.Held.{gains}
use Rattle.at_nest.proofs.Rows.{row_begun}
use Rattle.at_nest.proofs.bodies.begin_row.Goals as goal

pub returns : goal.returns
returns g c = let own = g.A.Algebra.is_own c.args.algebra.now in let fold = g.A.Algebra.is_fold c.args.algebra.now in let run = g.A.Algebra.is_run c.args.algebra.now in
    IfOk-weaker c.keep.result _ _
    (λ r d. row_begun (OwnAtom own fold run) (shown c.args.body.now) (shown c.keep.new.self) r (record { comma = c.args.value.comma; first = c.args.value.from; items = c.add.new.items }) c.args.value.atom c.requires.outside
    (subst (λ (z : List g.row.A-Atom.Denot). Gains (OwnAtom own fold run) z c.args.value.atom c.add.new.items.items) c.new-items.ensures.items (gains own fold run c.new-items.result.items c.args.value.atom c.add.new.items.items c.in_ok-add.ensures.own c.in_ok-add.ensures.fold)) d)
    c.keep.ensures

-- The row has the value behind its own.
use Rattle.std.proofs.Common.{refl}
use Rattle.std.proofs.lemmas.Result.{IfOk-weaker}
use Rattle.at_nest.proofs.Held.{gains}
use Rattle.at_nest.proofs.bodies.lengthen_row.Goals as goal

pub returns : goal.returns
returns g c = IfOk-weaker c.keep.result _ _
    (λ r d. (record { comma = c.args.row.comma; first = c.args.row.first; items = c.add.new.items }, (refl, refl, gains _ _ _ c.args.row.items.items c.args.atom c.add.new.items.items c.in_ok-add.ensures.own c.in_ok-add.ensures.fold), d))
    c.keep.ensures

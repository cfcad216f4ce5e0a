-- The member stands behind the others.
use Rattle.std.proofs.Common.{refl}
use Rattle.std.proofs.lemmas.Result.{IfOk-weaker}
use Rattle.at_nest.proofs.member_rows.lengthen_members.Goals as goal

pub returns : goal.returns
returns g c = IfOk-weaker c.keep.result _ _
    (λ r d. (record { comma = c.args.row.comma; colon = c.args.row.colon; items = c.push.new.self }, refl, refl, c.in_ok-push.ensures.items, d))
    c.keep.ensures

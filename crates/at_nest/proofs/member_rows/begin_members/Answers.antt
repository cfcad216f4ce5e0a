-- The members are the one.
use Rattle.std.proofs.Common.{List, [], ◌∷◌, ◌++◌, refl, ap, ◌∙◌}
use Rattle.std.proofs.lemmas.Result.{IfOk-weaker}
use Rattle.at_nest.specs.declared.pieces.NamedValue.{NamedValue}
use Rattle.at_nest.proofs.member_rows.begin_members.Goals as goal

pub returns : goal.returns
returns g c = IfOk-weaker c.keep.result _ _
    (λ r d. (record { comma = c.args.member.comma; colon = c.args.member.colon; items = c.push.new.self }, refl, refl, c.in_ok-push.ensures.items ∙ ap (λ (z : List (NamedValue g.row.T.Denot)). z ++ record { name = c.args.member.name; value = c.args.value } ∷ []) c.new-items.ensures.items, d))
    c.keep.ensures

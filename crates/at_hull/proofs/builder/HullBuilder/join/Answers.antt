use Rattle.std.proofs.Common.{◌≡◌, List, ◌++◌, subst, rules}
use Rattle.std.proofs.lemmas.Result.{on_ok_weaker, on_err_weaker}
use Rattle.at_geom.specs.declared.positions.Pos.{Pos}
use Rattle.at_hull.specs.Growth.{HaveOneHull, HoldsFront, held}
use Rattle.at_hull.proofs.OneHull.{first_front, later_front, both_added, always_on_err}
use Rattle.at_hull.proofs.builder.HullBuilder.join.Goals as goal

pub returns-in_err-add-clause-err : goal.returns-in_err-add-clause-err
returns-in_err-add-clause-err c =
    let f : HoldsFront c.args.self.now c.args.other.hull c.add.new.self = search rules in
    always_on_err c.from_residual.result (first_front c.args.self.now c.add.new.self c.args.other.hull c.args.other.waiting f)

pub returns-clause-held : goal.returns-clause-held
returns-clause-held c =
    let o : HaveOneHull (held c.args.self.now ++ c.args.other.hull) (held c.add.new.self) = search rules in
    let e : c.as_slice-2.result.now ≡ c.args.other.waiting = search rules in
    on_ok_weaker c.add-2.result (λ u. both_added c.args.self.now c.add.new.self c.add-2.new.self c.args.other.hull c.args.other.waiting o (subst (λ (ps : List Pos). HaveOneHull (held c.add.new.self ++ ps) (held c.add-2.new.self)) e u)) c.add-2.ensures.held

pub returns-clause-err : goal.returns-clause-err
returns-clause-err c =
    let o : HaveOneHull (held c.args.self.now ++ c.args.other.hull) (held c.add.new.self) = search rules in
    let e : c.as_slice-2.result.now ≡ c.args.other.waiting = search rules in
    on_err_weaker c.add-2.result (λ f. later_front c.args.self.now c.add.new.self c.add-2.new.self c.args.other.hull c.args.other.waiting o (subst (λ (ps : List Pos). HoldsFront c.add.new.self ps c.add-2.new.self) e f)) c.add-2.ensures.err

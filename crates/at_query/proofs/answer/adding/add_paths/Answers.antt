use Rattle.std.proofs.Common.{List, ◌++◌, subst, ◌∙◌, arith}
use Rattle.at_geom.specs.declared.positions.Pos.{Pos}
use Rattle.at_hull.specs.Growth.{HaveOneHull, held}
use Rattle.at_query.proofs.Hulls.{more_grown}
use Rattle.at_query.proofs.answer.adding.add_paths.Goals as goal

pub loop-path-preserved : goal.loop-path-preserved
loop-path-preserved c =
    let P : List Pos → Type 0 = λ z. HaveOneHull (held c.loop-path.hull ++ z) (held c.add.new.self) in
    more_grown (λ (path : List Pos). path) (held c.args.hull.now) (held c.loop-path.hull) (held c.add.new.self) c.args.paths.now c.loop-path.path-index c.path-item.result (omega arith)
    c.loop-path.invariant (subst P (c.as_slice.ensures ∙ c.path-item.is) c.in_ok-add.ensures.held)

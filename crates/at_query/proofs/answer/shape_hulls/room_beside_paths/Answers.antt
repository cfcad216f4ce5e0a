use Rattle.std.proofs.Common.{◌<◌, List, length, subst, ◌∙◌, arith}
use Rattle.at_geom.specs.declared.positions.Pos.{Pos}
use Rattle.at_query.proofs.Hulls.{no_room}
use Rattle.at_query.proofs.answer.shape_hulls.room_beside_paths.Goals as goal

pub returns-in_err-left-clause-none : goal.returns-in_err-left-clause-none
returns-in_err-left-clause-none c =
    let P : List Pos → Type 0 = λ z. c.loop-path.left < length z in
    let less : c.loop-path.left < length c.as_slice.result.now = omega (arith, c.in_err-left.ensures) in
    no_room (λ (path : List Pos). path) c.args.paths.now c.loop-path.path-index c.args.room c.loop-path.left c.path-item.result c.from_residual.result (omega arith) c.loop-path.invariant
    (subst P (c.as_slice.ensures ∙ c.path-item.is) less)

use Rattle.std.proofs.Common.{List}
use Rattle.at_geom.specs.declared.positions.Pos.{Pos}
use Rattle.at_hull.specs.Growth.{held}
use Rattle.at_query.proofs.Hulls.{more_taken}
use Rattle.at_query.proofs.answer.shape_hulls.take_paths.Goals as goal

pub loop-path-preserved : goal.loop-path-preserved
loop-path-preserved c =
    more_taken (λ (path : List Pos). path) (held c.args.hull.now) (held c.loop-path.hull) (held c.take_path.new.hull) c.loop-path.yielded c.in-Some.path c.loop-path.invariant c.in_ok-take_path.ensures

use Rattle.std.specs.Prelude.{FitsSigned}
use Rattle.std.specs.Int.{w8}
use Rattle.std.proofs.Common.{rules}
use Rattle.std.proofs.lemmas.Int.{to_z-of_z}
use Rattle.at_geom.specs.Segments.{turn}
use Rattle.at_hull.proofs.Insides.{not_right_by_sign}
use Rattle.at_hull.proofs.inside.is_not_right.Goals as goal

pub returns : goal.returns
returns c =
    let f : FitsSigned w8 c.orient.result = search rules in
    rw (to_z-of_z w8 c.orient.result f) (not_right_by_sign (turn c.args.a c.args.b c.args.c) c.orient.result c.orient.ensures)

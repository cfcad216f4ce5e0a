use Rattle.std.specs.Prelude.{FitsSigned, int_le}
use Rattle.std.specs.Int.{w8}
use Rattle.std.proofs.Common.{pos, ap, ◌∙◌, rules}
use Rattle.std.proofs.lemmas.Int.{to_z-of_z}
use Rattle.at_geom.specs.Segments.{turn}
use Rattle.at_hull.proofs.Stacks.{sign_le}
use Rattle.at_hull.proofs.chains.is_no_left_turn.Goals as goal

pub returns : goal.returns
returns c =
    let f : FitsSigned w8 c.orient.result = search rules in
    rw (to_z-of_z w8 c.orient.result f) (ap (λ z. int_le z (pos 0)) c.orient.ensures ∙ sign_le (turn c.args.a c.args.b c.args.c))

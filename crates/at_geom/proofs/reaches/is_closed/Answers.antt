use Rattle.std.proofs.Common.{pos, ◌∙◌, sym}
use Rattle.at_geom.specs.declared.positions.Pos.{Pos}
use Rattle.at_geom.proofs.ClosedRings.{closed_by, same_position}
use Rattle.at_geom.proofs.reaches.is_closed.Goals as goal

abbrev none : Pos
none = record { x = pos 0; y = pos 0 }

pub returns : goal.returns
returns c = λ h. closed_by c.args.ring.now none (same_position _ _ (sym c.eq.ensures ∙ h))

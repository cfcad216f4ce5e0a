use Rattle.std.proofs.Common.{drop}
use Rattle.at_text.specs.Lists.{SomeOf}
use Rattle.at_band.specs.Banded.{IsMetInZone}
use Rattle.at_geom.specs.Shapes.{MeetsSome, segments}
use Rattle.at_band.proofs.bands.segment_meets_zones.Given as goal

-- the zones that are left decide
abbrev pub invariant-loop-zone : goal.invariant-loop-zone
invariant-loop-zone l = MeetsSome l.a l.b (segments l.shape) → SomeOf (IsMetInZone l.a l.b l.shape) (drop l.zone-index l.zones)

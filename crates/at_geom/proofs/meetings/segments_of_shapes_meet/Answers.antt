use Rattle.std.proofs.Common.{rules}
use Rattle.at_geom.specs.Shapes.{MeetsSome, segments}
use Rattle.at_geom.proofs.Finding.{found_means}
use Rattle.at_geom.proofs.meetings.segments_of_shapes_meet.Goals as goal

pub returns : goal.returns
returns c = found_means (λ e. MeetsSome e.0 e.1 (segments c.args.b.now)) c.some_segment.ensures (λ e b said. search rules)

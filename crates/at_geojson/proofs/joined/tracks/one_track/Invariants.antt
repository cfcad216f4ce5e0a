use Rattle.at_geojson.specs.Tracks.{IfOwnTrack, JoinsPositions}
use Rattle.at_geojson.proofs.joined.tracks.one_track.Given as goal

abbrev pub invariant-loop-atom : goal.invariant-loop-atom
invariant-loop-atom l = IfOwnTrack l.algebra l.joined × JoinsPositions l.algebra l.yielded l.joined

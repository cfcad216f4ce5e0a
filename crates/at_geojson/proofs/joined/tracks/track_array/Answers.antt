use Rattle.std.proofs.Common.{subst}
use Rattle.at_geojson.specs.Tracks.{IfOwnTrack, HasTrack}
use Rattle.at_geojson.proofs.TrackFolds.{track_folds, array_own}
use Rattle.at_geojson.proofs.joined.tracks.track_array.Goals as goal

pub returns-in_ok-points_array-in-Some-clause-own : goal.returns-in_ok-points_array-in-Some-clause-own
returns-in_ok-points_array-in-Some-clause-own c =
    let asked = c.args.algebra.now in
    let m = c.in_ok-points_array-in-Some in
    array_own asked c.args.at c.in-Some.track m.field-0 m.ensures (subst (IfOwnTrack asked) c.in-Some.is c.in_ok-track.ensures.own)

pub returns-in_ok-points_array-in-Some-clause-fold : goal.returns-in_ok-points_array-in-Some-clause-fold
returns-in_ok-points_array-in-Some-clause-fold c ts h =
    let asked = c.args.algebra.now in
    let m = c.in_ok-points_array-in-Some in
    track_folds asked c.args.at m.field-0 c.in-Some.track ts m.ensures (subst (λ o. HasTrack asked o ts) c.in-Some.is (c.in_ok-track.ensures.joins c.requires.positions ts h))

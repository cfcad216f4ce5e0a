use Rattle.std.proofs.Common.{◌++◌, List, sym, ◌∙◌, ap}
use Rattle.std.specs.Vec.Iter.{into_iter_items}
use Rattle.at_nest.proofs.Joining.{taken_front}
use Rattle.at_geojson.specs.declared.atoms.atom.GeoAtom.{GeoAtom}
use Rattle.at_geojson.proofs.OwnFolds.{own_middle}
use Rattle.at_geojson.proofs.TrackFolds.{one_more, joins_if_own}
use Rattle.at_geojson.proofs.joined.tracks.one_track.Goals as goal

pub loop-atom-preserved : goal.loop-atom-preserved
loop-atom-preserved c =
    let asked = c.args.algebra.now in
    let b = c.needs_shapes-needs.result in
    let more = c.in_ok-track_behind in
    let split = sym c.into_iter-atom-iterator.ensures.into_iter_gives.0 ∙ (taken_front _ _ _ c.loop-atom.yielded_by ∙ ap (λ (z : List GeoAtom). c.loop-atom.yielded ++ z) c.in-Some.ensures.steps.0) in
    let own = own_middle asked c.args.atoms.items c.loop-atom.yielded c.in-Some.atom (into_iter_items c.next.new.self) split c.requires in (
      joins_if_own asked b c.loop-atom.joined c.in-Some.atom more.field-0 more.ensures c.loop-atom.invariant.0 own,
      one_more asked b c.loop-atom.yielded c.in-Some.atom c.loop-atom.joined more.field-0 c.needs_shapes-needs.ensures more.ensures c.loop-atom.invariant.1,
    )

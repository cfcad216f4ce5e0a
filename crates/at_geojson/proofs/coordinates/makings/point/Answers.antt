use Rattle.std.proofs.Common.{[], ◌∷◌}
use Rattle.at_geojson.proofs.SeenCoordinates.{point_seen}
use Rattle.at_geojson.proofs.coordinates.makings.point.Goals as goal

pub returns : goal.returns
returns g c =
    let a = c.args.text.now.algebra.now in
    point_seen a c.args.text.now.alloc c.args.text.now.base c.args.text.now.bytes.now c.args.at _ g.S.Reader.Reads.marks (g.S.Reader.Reads.stands a c.args.text.now.bytes.now c.args.at) c.in-Some.spot c.see_points-seen.result c.in-Some.ensures
    (λ p h. c.see_points-seen.ensures a.query (p ∷ []) c.requires.served (c.in_ok-alone.ensures p h)) c.seen_read.ensures.end c.seen_read.ensures.seen

use Rattle.std.proofs.Common.{arith}
use Rattle.at_geojson.proofs.SeenCoordinates.{multi_polygon_seen}
use Rattle.at_geojson.proofs.coordinates.makings.multi_polygon.Goals as goal

pub returns : goal.returns
returns g c =
    let a = c.args.text.now.algebra.now in
    multi_polygon_seen a c.args.text.now.alloc c.args.text.now.base c.args.text.now.bytes.now c.args.at _ g.S.Maker.tells_areas c.nothing.result g.S.Maker.empty c.nothing.ensures c.in_ok-read.read c.see_areas-seen.result c.in_ok-first.first c.skip_spaces.result (omega (arith, c.args.text.now.fits))
    c.in_ok-first.ensures.order c.in_ok-first.ensures.spaces c.in_ok-read.ensures c.skip_spaces.ensures.order c.skip_spaces.ensures.within c.skip_spaces.ensures.spaces
    (λ polygons h. c.see_areas-seen.ensures a.query polygons c.requires.served h) c.seen_read.ensures.end c.seen_read.ensures.seen

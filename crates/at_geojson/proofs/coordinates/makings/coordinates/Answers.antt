-- What is seen of the shape that the list, or the array of lists, is read as.
use Rattle.std.proofs.Common.{[], ◌∷◌}
use Rattle.at_geojson.specs.Makings.{polygon}
use Rattle.at_geojson.proofs.SeenCoordinates.{multi_point_seen, line_seen, multi_line_seen, polygon_seen}
use Rattle.at_geojson.proofs.coordinates.makings.coordinates.Goals as goal

pub returns-in_ok-read-in-MultiPoint : goal.returns-in_ok-read-in-MultiPoint
returns-in_ok-read-in-MultiPoint g c =
    let a = c.args.text.now.algebra.now in let q = c.in_ok-read-in-MultiPoint in
    rw c.in-MultiPoint.is (multi_point_seen a c.args.text.now.alloc c.args.text.now.base c.args.text.now.bytes.now c.args.at _ g.S.Maker.tells c.nothing.result g.S.Maker.empty c.nothing.ensures q.read c.see_points.result q.ensures c.seen_read.ensures.end
    (λ path h. c.see_points.ensures a.query path c.requires.served h) c.seen_read.ensures.seen)

pub returns-in_ok-lines-in-LineString : goal.returns-in_ok-lines-in-LineString
returns-in_ok-lines-in-LineString g c =
    let a = c.args.text.now.algebra.now in let q = c.in_ok-read-in-LineString in let s = c.seen_read-in-LineString in
    rw c.in-LineString.is (line_seen a c.args.text.now.alloc c.args.text.now.base c.args.text.now.bytes.now c.args.at _ g.S.Maker.tells c.nothing-in-LineString.result g.S.Maker.empty c.nothing-in-LineString.ensures q.read c.see_lines.result q.ensures s.ensures.end
    (λ path h. c.see_lines.ensures a.query (path ∷ []) c.requires.served (c.in_ok-lines-in-LineString.ensures g.S.Maker.empty path h)) s.ensures.seen)

pub returns-in_ok-read-in-MultiLineString : goal.returns-in_ok-read-in-MultiLineString
returns-in_ok-read-in-MultiLineString g c =
    let a = c.args.text.now.algebra.now in let q = c.in_ok-read-in-MultiLineString in let s = c.seen_read-in-MultiLineString in
    rw c.in-MultiLineString.is (multi_line_seen a c.args.text.now.alloc c.args.text.now.base c.args.text.now.bytes.now c.args.at _ g.S.Maker.tells_lines c.nothing-in-MultiLineString.result g.S.Maker.empty c.nothing-in-MultiLineString.ensures q.read c.see_lines-in-MultiLineString.result q.ensures s.ensures.end
    (λ paths h. c.see_lines-in-MultiLineString.ensures a.query paths c.requires.served h) s.ensures.seen)

pub returns-in_ok-areas-in-Polygon : goal.returns-in_ok-areas-in-Polygon
returns-in_ok-areas-in-Polygon g c =
    let a = c.args.text.now.algebra.now in let q = c.in_ok-read-in-Polygon in let s = c.seen_read-in-Polygon in
    rw c.in-Polygon.is (polygon_seen a c.args.text.now.alloc c.args.text.now.base c.args.text.now.bytes.now c.args.at _ g.S.Maker.tells_lines c.nothing-in-Polygon.result g.S.Maker.empty c.nothing-in-Polygon.ensures q.read c.see_areas.result q.ensures s.ensures.end
    (λ rings h. c.see_areas.ensures a.query (polygon rings ∷ []) c.requires.served (c.in_ok-areas-in-Polygon.ensures g.S.Maker.empty rings h)) s.ensures.seen)

use Rattle.std.proofs.Common.{None, refl, subst}
use Rattle.at_geojson.proofs.coordinates.rings.points_value.Goals as goal

pub returns : goal.returns
returns g c =
    let r = c.in_ok-read.read in
    let m = c.in_ok-read.ensures in
    let kept = c.path.ensures c.args.text.now.algebra.now.query m.path c.requires.served (subst (λ z. g.S.Maker.tells z m.path r.made) c.nothing.ensures m.tells) in
    (m.whole (record { at = r.at; least = r.least; end = r.end; points = record { path = c.path.result; as_points = None; as_line = r.as_line; as_ring = r.as_ring } }) refl refl refl kept refl refl refl).whole _ (record { at_is = refl; least_is = refl; points_is = c.in_ok-points.ensures.ok })

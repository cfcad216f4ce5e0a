use Rattle.std.proofs.Common.{refl, subst}
use Rattle.at_geojson.proofs.coordinates.rings.areas_value.Goals as goal

pub returns : goal.returns
returns g c =
    let r = c.in_ok-read.read in
    let m = c.in_ok-read.ensures in
    let kept = c.polygons.ensures c.args.text.now.algebra.now.query m.polygons c.requires.served (subst (λ z. g.S.Maker.tells_areas z m.polygons r.made) c.nothing.ensures m.tells) in
    (m.whole (record { polygons = c.polygons.result; fault = r.fault }) kept refl).whole _ (record { at_is = refl; least_is = refl; areas_is = c.in_ok-areas.ensures.ok })

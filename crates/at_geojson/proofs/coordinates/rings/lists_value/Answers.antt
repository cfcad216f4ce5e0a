use Rattle.std.proofs.Common.{refl, subst}
use Rattle.at_geojson.proofs.coordinates.rings.lists_value.Goals as goal

pub returns : goal.returns
returns g c =
    let r = c.in_ok-read.read in
    let m = c.in_ok-read.ensures in
    let kept = c.paths.ensures c.args.text.now.algebra.now.query m.paths c.requires.served (subst (λ z. g.S.Maker.tells_lines z m.paths r.made) c.nothing.ensures m.tells) in
    (m.whole (record { paths = c.paths.result; as_lines = r.as_lines; as_rings = r.as_rings }) kept refl refl).whole _ (record { at_is = refl; least_is = refl; lists_is = c.in_ok-lists.ensures.ok })

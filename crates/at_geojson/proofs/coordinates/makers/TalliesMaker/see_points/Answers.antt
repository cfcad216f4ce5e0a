use Rattle.std.proofs.Common.{Some, None, sym, ◌∙◌, ap, subst}
use Rattle.at_query.specs.declared.query.looks.Measure.{Measure}
use Rattle.at_query.specs.Tallies.{SumsUp}
use Rattle.at_query.proofs.TallyFolds.{points_shape_told}
use Rattle.at_geojson.proofs.coordinates.makers.TalliesMaker.see_points.Goals as goal

pub returns : goal.returns
returns g c query path served told =
    let m = c.measure.result in
    let e = served ∙ ap (λ (z : Measure). Some z) (sym c.measure.ensures) in
    c.seen_part.ensures query _ e (points_shape_told query m e path c.args.line c.flat.result c.flat.ensures
    (subst (λ (z : Measure). SumsUp z None path c.args.line) (sym c.measure.ensures) told))

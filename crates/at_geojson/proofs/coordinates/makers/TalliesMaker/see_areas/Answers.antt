use Rattle.std.proofs.Common.{Some, None, sym, ◌∙◌, ap, subst}
use Rattle.at_query.specs.declared.query.looks.Measure.{Measure}
use Rattle.at_query.specs.Tallies.{TalliesAreas}
use Rattle.at_query.proofs.TallyFolds.{areas_shape_told}
use Rattle.at_geojson.proofs.coordinates.makers.TalliesMaker.see_areas.Goals as goal

pub returns : goal.returns
returns g c query polygons served told =
    let m = c.measure.result in
    let e = served ∙ ap (λ (z : Measure). Some z) (sym c.measure.ensures) in
    c.seen_part.ensures query _ e (areas_shape_told query m e polygons c.args.areas
    (subst (λ (z : Measure). TalliesAreas z None polygons c.args.areas) (sym c.measure.ensures) told))

use Rattle.std.proofs.Common.{Some, None, sym, ◌∙◌, ap, subst}
use Rattle.at_query.specs.declared.query.looks.Measure.{Measure}
use Rattle.at_query.specs.Tallies.{TalliesLists}
use Rattle.at_query.proofs.TallyFolds.{lines_shape_told}
use Rattle.at_geojson.proofs.coordinates.makers.TalliesMaker.see_lines.Goals as goal

pub returns : goal.returns
returns g c query paths served told =
    let m = c.measure.result in
    let e = served ∙ ap (λ (z : Measure). Some z) (sym c.measure.ensures) in
    c.seen_part.ensures query _ e (lines_shape_told query m e paths c.args.lines c.flat.result c.flat.ensures
    (subst (λ (z : Measure). TalliesLists z None paths c.args.lines) (sym c.measure.ensures) told))

use Rattle.std.proofs.Common.{refl, subst}
use Rattle.at_geojson.specs.Series.{HasSeries}
use Rattle.at_geojson.proofs.SeriesFolds.{series_folds}
use Rattle.at_geojson.proofs.joined.series.series_array.Goals as goal

pub returns-in-Some-clause-fold : goal.returns-in-Some-clause-fold
returns-in-Some-clause-fold c ts h =
    let asked = c.args.algebra.now in
    let s = c.in-Some.field-0 in
    series_folds asked c.args.at (record { at = c.args.at; least = s.at; lists = s.lists }) s ts refl refl refl
    (subst (λ o. HasSeries asked o ts) c.in-Some.is (c.in_ok-least.ensures.joins c.requires.lists ts h))

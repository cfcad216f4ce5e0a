use Rattle.at_geojson.specs.Series.{IfOwnSeries, JoinsLists}
use Rattle.at_geojson.proofs.joined.series.one_series.Given as goal

abbrev pub invariant-loop-atom : goal.invariant-loop-atom
invariant-loop-atom l = IfOwnSeries l.algebra l.joined × JoinsLists l.algebra l.yielded l.joined

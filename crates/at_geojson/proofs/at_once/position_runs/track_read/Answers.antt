use Rattle.std.proofs.Common.{List, Some, None, refl, ap}
use Rattle.at_geojson.specs.Atoms.{track_view}
use Rattle.at_geojson.proofs.at_once.position_runs.track_read.Goals as goal

pub returns : goal.returns
returns c = record {
  track = record { at = c.args.first.pair.at; track = c.in_ok-new.field-0 };
  atom = refl;
  behind = refl;
  at_is = refl;
  view = ap track_view c.in_ok-new.ensures.ok;
}

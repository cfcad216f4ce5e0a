-- A whole string.
use Rattle.std.proofs.Common.{inl}
use Rattle.at_geojson.proofs.at_once.passing.pass_string.Goals as goal

pub returns-in-Ok : goal.returns-in-Ok
returns-in-Ok c = let (order, within, s) = c.in-Ok.ensures in (order, within, inl s)

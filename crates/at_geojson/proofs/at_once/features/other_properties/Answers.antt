use Rattle.at_geojson.proofs.MemberReads.{no_twin_in}
use Rattle.at_geojson.proofs.at_once.features.other_properties.Goals as goal

pub returns-in-Some : goal.returns-in-Some
returns-in-Some c = (c.in_ok-end.field-0.atom, c.in_ok-end.ensures, no_twin_in c.in_ok-end.field-0.atom c.is_twin.result c.is_twin.ensures c.if-is_twin.false, c.in-Some.ensures)

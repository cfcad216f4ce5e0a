use Rattle.at_geojson.specs.Fields.{AreFields}
use Rattle.at_geojson.proofs.objects.fields.fields_of.Given as goal

abbrev pub invariant-loop-member : goal.invariant-loop-member
invariant-loop-member l = AreFields l.fields l.yielded

use Rattle.std.proofs.Common.{◌∙◌, ap}
use Rattle.at_scan.specs.Fields.{field_of}
use Rattle.at_geojson.proofs.FieldFolds.{fields_more}
use Rattle.at_geojson.proofs.objects.fields.fields_of.Goals as goal

pub loop-member-preserved : goal.loop-member-preserved
loop-member-preserved c = fields_more c.loop-member.fields c.put.new.self c.loop-member.yielded c.in-Some.member c.field_named.result (c.field_named.ensures ∙ ap field_of c.as_slice.ensures) c.loop-member.invariant
    c.put.ensures.kind c.put.ensures.coordinates c.put.ensures.geometry c.put.ensures.properties c.put.ensures.features c.put.ensures.geometries

pub loop-member-preserved-in-Some : goal.loop-member-preserved-in-Some
loop-member-preserved-in-Some c = fields_more c.loop-member.fields c.put.new.self c.loop-member.yielded c.in-Some.member c.field_named.result (c.field_named.ensures ∙ ap field_of c.as_slice.ensures) c.loop-member.invariant
    c.put.ensures.kind c.put.ensures.coordinates c.put.ensures.geometry c.put.ensures.properties c.put.ensures.features c.put.ensures.geometries

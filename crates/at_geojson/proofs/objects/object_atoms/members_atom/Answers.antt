use Rattle.std.proofs.lemmas.Result.{IfOk-weaker}
use Rattle.std.proofs.Common.{◌∙◌, ap}
use Rattle.at_query.specs.declared.query.queries.Query.{Query}
use Rattle.at_geojson.specs.Objects.{kept_texts}
use Rattle.at_geojson.proofs.FieldFolds.{own_fields, object_of_fields}
use Rattle.at_geojson.proofs.objects.object_atoms.members_atom.Goals as goal

pub fields_atom-requires : goal.fields_atom-requires
fields_atom-requires c = own_fields c.args.algebra.now c.fields_of-fields.result c.args.members.items c.fields_of-fields.ensures c.requires

pub returns-clause-made : goal.returns-clause-made
returns-clause-made c =
    let query = c.args.algebra.now.query in
    let texts = c.in_ok-texts.ensures ∙ (ap (λ tests. kept_texts tests c.as_slice-2.result.now) (c.as_slice.ensures ∙ ap (λ (q : Query). q.tests) c.query.ensures.same) ∙ ap (kept_texts query.tests) c.as_slice-2.ensures.value) in
    IfOk-weaker c.fields_atom.result _ _ (λ r m. object_of_fields query c.args.at c.fields_of-fields.result c.args.members.items c.in_ok-texts.texts r c.fields_of-fields.ensures texts m) c.fields_atom.ensures.made

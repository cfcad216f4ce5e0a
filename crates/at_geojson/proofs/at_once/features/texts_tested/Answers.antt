use Rattle.std.proofs.Common.{◌∙◌, ap}
use Rattle.at_query.specs.declared.query.queries.Query.{Query}
use Rattle.at_query.specs.TextTests.{texts_hold}
use Rattle.at_geojson.specs.declared.atoms.atom.Roles.{Roles}
use Rattle.at_geojson.specs.Objects.{texts_in}
use Rattle.at_geojson.proofs.at_once.features.texts_tested.Goals as goal

pub returns-in-Object : goal.returns-in-Object
returns-in-Object c = (
  c.in-Object.object.roles.value.texts,
  ap texts_in c.in-Object.is,
  c.all_hold.ensures ∙ (ap (λ tests. texts_hold tests c.as_slice.result.now) (c.as_slice-tests.ensures ∙ ap (λ (q : Query). q.tests) c.query.ensures.same)
      ∙ (ap (texts_hold c.args.algebra.now.query.tests) c.as_slice.ensures ∙ ap (λ (r : Roles). texts_hold c.args.algebra.now.query.tests r.texts) c.deref.ensures)),
)

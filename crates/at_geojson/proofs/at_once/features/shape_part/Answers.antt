use Rattle.std.proofs.Common.{◌∙◌, ap, flat_map}
use Rattle.std.proofs.lemmas.Result.{IfOk-weaker}
use Rattle.at_query.specs.declared.query.queries.Query.{Query}
use Rattle.at_query.specs.TextTests.{pair_of}
use Rattle.at_geojson.proofs.SeenParts.{shape_held}
use Rattle.at_geojson.proofs.at_once.features.shape_part.Goals as goal

pub returns : goal.returns
returns c = IfOk-weaker c.feature_part.result _ _ (λ part h. shape_held c.args.algebra.now.query c.args.at c.args.shape c.in_ok-texts.texts part
    (c.in_ok-texts.ensures ∙ ap (flat_map pair_of) (c.as_slice.ensures ∙ ap (λ (q : Query). q.tests) c.query.ensures.same)) h) c.feature_part.ensures

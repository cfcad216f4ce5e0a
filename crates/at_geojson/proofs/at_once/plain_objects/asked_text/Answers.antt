-- A short text as the value of a member for whose name a test asks.
use Rattle.std.proofs.Common.{◌+◌, refl, ◌∙◌, ap}
use Rattle.at_query.specs.declared.query.queries.Query.{Query}
use Rattle.at_scan.specs.Members.{name_in}
use Rattle.at_geojson.proofs.KindReads.{simple_read}
use Rattle.at_geojson.proofs.TextReads.{met_is}
use Rattle.at_geojson.proofs.at_once.plain_objects.asked_text.Goals as goal

pub returns : goal.returns
returns c =
    let asked = c.args.text.now.algebra.now in
    let (a, item, none, kind, text) = simple_read asked c.args.text.now.base c.args.text.now.bytes.now (c.args.name.colon + 1) _ c.in-Some.ensures in
    record {
      atom = a;
      item = item;
      no_twin = none;
      named = refl;
      met = ap (λ z. c.args.members.now.met + z) (met_is asked.query.tests _ (name_in c.args.text.now.bytes.now c.args.name) _ _ _ _ (c.as_slice-tests.ensures ∙ ap (λ (q : Query). q.tests) c.query.ensures.same) c.name_bytes.ensures c.met_by.ensures text);
    }

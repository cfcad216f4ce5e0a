-- A short text that names no kind.
use Rattle.std.proofs.Common.{◌+◌, refl, sym, ◌∙◌, ap}
use Rattle.at_query.specs.declared.query.queries.Query.{Query}
use Rattle.at_scan.specs.Members.{name_in}
use Rattle.at_geojson.proofs.KindReads.{simple_read}
use Rattle.at_geojson.proofs.MemberReads.{none_there}
use Rattle.at_geojson.proofs.TextReads.{met_is}
use Rattle.at_geojson.proofs.at_once.plain_objects.pass_kind.Goals as goal

pub returns : goal.returns
returns c =
    let asked = c.args.text.now.algebra.now in
    let (a, item, none, kind, text) = simple_read asked c.args.text.now.base c.args.text.now.bytes.now (c.args.name.colon + 1) _ c.in-Some.ensures in
    record {
      atom = a;
      item = item;
      no_twin = none;
      no_kind = kind ∙ (sym c.kind_of.ensures ∙ none_there c.kind_of.result c.is_some.result c.is_some.ensures c.if-is_some.false);
      before = c.if-members.false;
      named = refl;
      met = ap (λ z. c.args.members.now.met + z) (met_is asked.query.tests _ (name_in c.args.text.now.bytes.now c.args.name) _ _ _ _ (c.as_slice-tests.ensures ∙ ap (λ (q : Query). q.tests) c.query.ensures.same) c.name_bytes.ensures c.met_by.ensures text);
    }

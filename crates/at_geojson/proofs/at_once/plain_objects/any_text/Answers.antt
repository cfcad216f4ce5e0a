-- Any value of a member for whose name a test may ask.
use Rattle.std.proofs.Common.{◌+◌, refl, ◌∙◌, ap}
use Rattle.at_query.specs.declared.query.queries.Query.{Query}
use Rattle.at_scan.specs.Members.{name_in}
use Rattle.at_query.proofs.TextCounts.{met_by_is}
use Rattle.at_geojson.specs.Atoms.{as_text}
use Rattle.at_geojson.proofs.MemberReads.{no_twin_in}
use Rattle.at_geojson.proofs.at_once.plain_objects.any_text.Goals as goal

pub returns : goal.returns
returns c =
    let asked = c.args.text.now.algebra.now in
    let atom = c.in_ok-end.field-0.atom in
    record {
      atom = atom;
      item = c.in_ok-end.ensures;
      no_twin = no_twin_in atom c.is_twin.result c.is_twin.ensures c.if-is_twin.false;
      named = refl;
      met = ap (λ z. c.args.members.now.met + z) (met_by_is asked.query.tests _ (name_in c.args.text.now.bytes.now c.args.name) _ _ (as_text atom) (c.as_slice-tests.ensures ∙ ap (λ (q : Query). q.tests) c.query.ensures.same) c.name_bytes.ensures c.met_by_atom.ensures);
    }

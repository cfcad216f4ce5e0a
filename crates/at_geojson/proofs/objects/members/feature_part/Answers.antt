use Rattle.std.proofs.Common.{sym, ◌∙◌, ap}
use Rattle.at_query.specs.declared.query.queries.Query.{Query}
use Rattle.at_query.proofs.QueryFacts.{counted_one}
use Rattle.at_geojson.proofs.objects.members.feature_part.Goals as goal

pub returns-then-counts_all : goal.returns-then-counts_all
returns-then-counts_all c =
    let e = c.query.ensures.same in
    counted_one c.args.algebra.now.query (record { at = c.args.at; shape = c.args.geometry; texts = c.args.texts })
    (ap (λ (q : Query). q.verb) (sym e) ∙ c.counts_all.ensures.verb c.if-counts_all.true)
    (ap (λ (q : Query). q.tests) (sym e) ∙ c.counts_all.ensures.tests c.if-counts_all.true)

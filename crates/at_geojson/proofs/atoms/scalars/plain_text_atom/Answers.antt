use Rattle.std.proofs.Common.{sym, ◌∙◌, ap, take, drop, length, ◌-◌}
use Rattle.at_query.specs.declared.query.queries.Query.{Query}
use Rattle.at_query.specs.Keeping.{asks_value}
use Rattle.at_geojson.proofs.atoms.scalars.plain_text_atom.Goals as goal

pub simple_atom-requires-clause-unasked : goal.simple_atom-requires-clause-unasked
simple_atom-requires-clause-unasked c =
    let value = take (length c.args.text.now - 1 - 1) (drop 1 c.args.text.now) in
    ap (λ tests. asks_value tests value) (sym (c.as_slice.ensures ∙ ap (λ (q : Query). q.tests) c.query.ensures.same)) ∙ (sym c.asks_value.ensures ∙ c.if-asks_value.false)

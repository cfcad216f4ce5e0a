use Rattle.std.proofs.Common.{[], ◌∷◌, sym, ◌∙◌, ap, subst}
use Rattle.at_query.specs.declared.query.queries.Query.{Query}
use Rattle.at_query.specs.declared.answer.parts.Part.TheVariants.{Offsets}
use Rattle.at_query.specs.Parts.{IsPart}
use Rattle.at_query.specs.Keeping.{selects}
use Rattle.at_geojson.proofs.SeenParts.{measured_held, offset_held}
use Rattle.at_geojson.proofs.at_once.features.measured_part.Goals as goal

pub returns-in_ok-one_offset : goal.returns-in_ok-one_offset
returns-in_ok-one_offset c shape texts seen hold =
    subst (λ z. IsPart c.args.algebra.now.query (record { at = c.args.at; shape = shape; texts = texts } ∷ []) (Offsets z)) (sym c.in_ok-one_offset.ensures)
    (offset_held c.args.algebra.now.query (record { at = c.args.at; shape = shape; texts = texts }) c.args.part
    (ap (λ (q : Query). selects q.verb) (sym c.query.ensures.same) ∙ (sym c.asks_offsets.ensures ∙ c.if-asks_offsets.true)) seen hold)

pub returns-else-asks_offsets : goal.returns-else-asks_offsets
returns-else-asks_offsets c shape texts seen hold = measured_held c.args.algebra.now.query (record { at = c.args.at; shape = shape; texts = texts }) c.args.part
    (ap (λ (q : Query). selects q.verb) (sym c.query.ensures.same) ∙ (sym c.asks_offsets.ensures ∙ c.if-asks_offsets.false)) seen hold

use Rattle.std.proofs.Common.{[], sym, ◌∙◌, subst}
use Rattle.std.proofs.lemmas.Result.{IfOk-weaker}
use Rattle.at_query.specs.Parts.{IsPart}
use Rattle.at_query.proofs.TextsHold.{none_held}
use Rattle.at_geojson.proofs.at_once.features.held_part.Goals as goal

pub returns-then-hold : goal.returns-then-hold
returns-then-hold c = IfOk-weaker c.seen_part.result _ _ (λ part h shape texts seen same. h shape texts seen (sym same ∙ c.if-hold.true)) c.seen_part.ensures

pub returns-else-hold : goal.returns-else-hold
returns-else-hold c shape texts seen same = none_held c.args.algebra.now.query (record { at = c.args.at; shape = shape; texts = texts }) c.part_none.result (sym same ∙ c.if-hold.false)
    (subst (λ q. IsPart q [] c.part_none.result) c.query.ensures.same c.part_none.ensures.part)

-- The lead says where the items begin.
use Rattle.std.proofs.Common.{ap, sym, ◌∙◌, subst, true≢false, length, ◌==◌}
use Rattle.std.proofs.lemmas.Result.{IfOk-weaker}
use Rattle.at_lex.specs.Stream.{IsBegun}
use Rattle.at_lex.specs.declared.tokens.Lead.{Lead}
use Rattle.at_nest.proofs.Items.{begun_text, behind_nothing, behind_run, behind_text}
use Rattle.at_nest.proofs.variants.read_variant.Goals as goal

pub read_items-requires-in-TextEnds-clause-out : goal.read_items-requires-in-TextEnds-clause-out
read_items-requires-in-TextEnds-clause-out g c κs within = (begun_text c.args.start c.args.base c.args.source.now.bytes.now c.in-TextEnds.at c.new-lead.result.1 (subst (λ (z : Lead). IsBegun c.args.start c.args.base c.args.source.now.bytes.now z c.new-lead.result.1) c.in-TextEnds.is c.new-lead.ensures.begun)).1

pub returns-else-is_empty : goal.returns-else-is_empty
returns-else-is_empty g c = IfOk-weaker c.read_items.result _ _
    (λ v h. behind_nothing _ c.args.start c.args.base c.args.source.now.bytes.now c.new-lead.result.1 v (subst (λ (z : Lead). IsBegun c.args.start c.args.base c.args.source.now.bytes.now z c.new-lead.result.1) c.in-Nothing.is c.new-lead.ensures.begun)
    (λ e. true≢false (sym (ap (λ z. length z == 0) e) ∙ (sym c.is_empty.ensures ∙ c.if-is_empty.false))) h)
    c.read_items.ensures

pub returns-in-RunEnds : goal.returns-in-RunEnds
returns-in-RunEnds g c = IfOk-weaker c.read_items-in-RunEnds.result _ _
    (λ v h. behind_run _ c.args.start c.args.base c.args.source.now.bytes.now c.in-RunEnds.at c.new-lead.result.1 v (subst (λ (z : Lead). IsBegun c.args.start c.args.base c.args.source.now.bytes.now z c.new-lead.result.1) c.in-RunEnds.is c.new-lead.ensures.begun) h)
    c.read_items-in-RunEnds.ensures

pub returns-in-TextEnds : goal.returns-in-TextEnds
returns-in-TextEnds g c = IfOk-weaker c.read_items-in-TextEnds.result _ _
    (λ v h. behind_text _ c.args.start c.args.base c.args.source.now.bytes.now c.in-TextEnds.at c.new-lead.result.1 v (subst (λ (z : Lead). IsBegun c.args.start c.args.base c.args.source.now.bytes.now z c.new-lead.result.1) c.in-TextEnds.is c.new-lead.ensures.begun) h)
    c.read_items-in-TextEnds.ensures

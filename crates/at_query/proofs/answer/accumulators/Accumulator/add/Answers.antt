use Rattle.std.proofs.Common.{sym, ◌∙◌, true≢false}
use Rattle.std.proofs.lemmas.Result.{IfOk-weaker}
use Rattle.at_query.proofs.Accumulating.{accumulated_no_hull, not_added, added_part, added_hull}
use Rattle.at_query.proofs.answer.accumulators.Accumulator.add.Goals as goal

pub add_to_part-requires-clause-kind : goal.add_to_part-requires-clause-kind
add_to_part-requires-clause-kind c = let (fs, own) = c.requires.own in accumulated_no_hull c.args.query.now fs c.args.self.now c.in-Part.part c.in-Part.is own

pub returns-then-not-holds-clause-added : goal.returns-then-not-holds-clause-added
returns-then-not-holds-clause-added c = not_added c.args.query.now c.args.feature c.args.self.now (λ h. absurd (true≢false (sym (c.holds.ensures.1 h) ∙ c.if-not-holds.true)))

pub returns-in-Part-clause-added : goal.returns-in-Part-clause-added
returns-in-Part-clause-added c =
    let holds = c.holds.ensures.0 c.if-not-holds.false in
    IfOk-weaker c.add_to_part.result _ _ (λ u joins. added_part c.args.query.now c.args.feature c.args.self.now c.in-Part.part c.add_to_part.new.part holds c.in-Part.is joins) c.add_to_part.ensures.joined

pub returns-in-Hull-clause-added : goal.returns-in-Hull-clause-added
returns-in-Hull-clause-added c =
    let holds = c.holds.ensures.0 c.if-not-holds.false in
    IfOk-weaker c.add_shape.result _ _ (λ u grown. added_hull c.args.query.now c.args.feature c.args.self.now c.in-Hull.hull c.add_shape.new.hull holds c.in-Hull.is grown) c.add_shape.ensures

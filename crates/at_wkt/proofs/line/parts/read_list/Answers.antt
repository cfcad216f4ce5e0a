use Rattle.std.proofs.Common.{[], flat_map, refl, sym, ◌∙◌}
use Rattle.at_wkt.proofs.Names.{EmptyOrParted}
use Rattle.at_wkt.proofs.BodySteps.{parted_choice, Bracketed}
use Rattle.at_wkt.proofs.PartAnswers.{nothing_stands, bracketed_stands, open_byte}
use Rattle.at_wkt.proofs.line.parts.read_list.Goals as goal

pub returns-then-stands : goal.returns-then-stands
returns-then-stands g c =
    let here = open_byte c.args.source.now.text.now c.args.from.at c.stands.result c.stands.ensures c.if-stands.true in
    let rules = c.args.source.now.rules in
    bracketed_stands g.M.Listed.spells (flat_map (g.M.Listed.faults rules.digits rules.how)) (flat_map (g.M.Listed.added rules.digits rules.how)) rules.base c.args.source.now.text.now c.args.from.at c.args.from.dimension _ _ here.0 here.1 c.read_members.result c.read_members.ensures

pub returns-else-stands : goal.returns-else-stands
returns-else-stands g c =
    let rules = c.args.source.now.rules in
    nothing_stands (λ d xs. EmptyOrParted (g.M.Listed.spells d) xs) (Bracketed g.M.Listed.spells) (λ xs. xs) [] (parted_choice g.M.Listed.spells) (flat_map (g.M.Listed.faults rules.digits rules.how)) (flat_map (g.M.Listed.added rules.digits rules.how)) rules.base c.args.source.now.text.now c.args.from.at c.args.from.dimension refl refl c.args.kept.now.items (sym c.stands.ensures ∙ c.if-stands.false) c.requires.count c.read_nothing.result c.read_nothing.ensures

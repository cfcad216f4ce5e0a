use Rattle.std.proofs.Common.{Some, None, refl, sym, ◌∙◌}
use Rattle.at_wkt.proofs.Names.{SpellsRing, SpellsList, Line, faults_of_path, added_line, line_faults, added_path}
use Rattle.at_wkt.proofs.BodySteps.{list_choice}
use Rattle.at_wkt.proofs.PartAnswers.{nothing_stands, opened_stands, none_faults}
use Rattle.at_wkt.proofs.line.parts.read_line_string.Goals as goal

pub returns-then-stands : goal.returns-then-stands
returns-then-stands c = opened_stands SpellsList SpellsRing (λ ps. Some ps) None list_choice (line_faults c.args.source.now.rules.digits c.args.source.now.rules.how) (added_line c.args.source.now.rules.digits c.args.source.now.rules.how) c.args.source.now.rules.base c.args.source.now.text.now c.args.from.at c.args.from.dimension (faults_of_path c.args.source.now.rules.digits c.args.source.now.rules.how Line) (added_path c.args.source.now.rules.digits c.args.source.now.rules.how) (λ x. none_faults (faults_of_path c.args.source.now.rules.digits c.args.source.now.rules.how Line x)) (λ x. refl) _ _ c.requires.inside (sym c.stands.ensures ∙ c.if-stands.true) c.read_path.result c.read_path.ensures

pub returns-else-stands : goal.returns-else-stands
returns-else-stands c = nothing_stands SpellsList SpellsRing (λ ps. Some ps) None list_choice (line_faults c.args.source.now.rules.digits c.args.source.now.rules.how) (added_line c.args.source.now.rules.digits c.args.source.now.rules.how) c.args.source.now.rules.base c.args.source.now.text.now c.args.from.at c.args.from.dimension refl refl c.args.lines.now.items (sym c.stands.ensures ∙ c.if-stands.false) c.requires.count c.read_nothing.result c.read_nothing.ensures

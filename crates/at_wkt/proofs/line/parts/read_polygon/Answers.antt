use Rattle.std.proofs.Common.{length, flat_map, ◌==◌, ◌++◌, ◌∙◌, ap, subst}
use Rattle.at_wkt.proofs.Names.{faults_of_area, SpellsArea, PartStands, Grows, added_path}
use Rattle.at_wkt.proofs.PartAnswers.{area_some, area_stands}
use Rattle.at_wkt.proofs.line.parts.read_polygon.Goals as goal

pub returns-in_ok-push : goal.returns-in_ok-push
returns-in_ok-push c =
    let rules = c.args.source.now.rules in let old = c.args.polygons.now.items in let rings = c.read_list.new.kept.items in
    area_stands rules c.args.source.now.text.now c.args.from.at c.args.from.dimension c.in_ok-read.read rings old c.push.new.self.items
    (subst (λ z. PartStands SpellsArea (faults_of_area rules.digits rules.how) (Grows (flat_map (added_path rules.digits rules.how)) z rings) rules.base c.args.source.now.text.now c.args.from.at c.args.from.dimension c.in_ok-read.read) c.empty_rings-rings.ensures c.in_ok-read.ensures)
    (c.in_ok-push.ensures.items ∙ ap (λ z. old ++ z) (area_some rings c.from_vec.result c.is_empty.result c.from_vec.ensures (c.is_empty.ensures ∙ ap (λ z. length z == 0) c.as_slice.ensures.value) c.if-is_empty.false))

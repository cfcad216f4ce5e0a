use Rattle.std.proofs.Common.{refl}
use Rattle.at_wkt.proofs.Names.{Point, LineString, Polygon, point, line_string, polygon, faults_of_area, line_faults, point_faults, SpellsPoint, SpellsList, SpellsArea}
use Rattle.at_wkt.proofs.GeometryAnswers.{made}
use Rattle.at_wkt.proofs.CheckAnswers.{body_passed}
use Rattle.at_wkt.proofs.line.checks.pass_body.Goals as goal

pub returns-in-Point : goal.returns-in-Point
returns-in-Point c = body_passed SpellsPoint point point_faults c.args.source.now.rules c.args.source.now.text.now c.args.head Point c.pass_point.result (made SpellsPoint point) c.in-Point.is (λ x. refl) c.pass_point.ensures

pub returns-in-LineString : goal.returns-in-LineString
returns-in-LineString c = body_passed SpellsList line_string line_faults c.args.source.now.rules c.args.source.now.text.now c.args.head LineString c.pass_line_string.result (made SpellsList line_string) c.in-LineString.is (λ x. refl) c.pass_line_string.ensures

pub returns-in-Polygon : goal.returns-in-Polygon
returns-in-Polygon c = body_passed SpellsArea polygon faults_of_area c.args.source.now.rules c.args.source.now.text.now c.args.head Polygon c.pass_polygon.result (made SpellsArea polygon) c.in-Polygon.is (λ x. refl) c.pass_polygon.ensures

use Rattle.std.proofs.Common.{ℕ, List, Option, refl, sym, ◌++◌, ◌∙◌, ap, append-nil, flat_map}
use Rattle.at_wkt.proofs.Names.{Position, Positions, Point, LineString, Polygon, MultiPoint, MultiLineString, MultiPolygon, pos_of, path_of, position_faults, faults_of_line, faults_of_area, point, line_string, polygon, multi_point, multi_line_string, multi_polygon, SpellsPoint, SpellsList, SpellsArea, EmptyOrParted, SpellsPointMember, point_faults, line_faults}
use Rattle.at_wkt.proofs.GeometryAnswers.{present_map, present_flat, made, on_body, part_body, empty_body}
use Rattle.at_wkt.proofs.ProgressAnswers.{shut_by}
use Rattle.at_wkt.proofs.line.geometries.read_body.Goals as goal

pub returns-in-Point : goal.returns-in-Point
returns-in-Point c =
    let rules = c.args.source.now.rules in let old = c.args.gathered.now in
    part_body rules.digits rules.how rules.base c.args.source.now.text.now c.args.head SpellsPoint point (point_faults rules.digits rules.how) _ _ c.read_point.result (on_body rules.digits rules.how rules.base c.args.source.now.text.now c.args.head SpellsPoint point Point c.in-Point.is (made SpellsPoint point) c.requires.inside) refl (λ x. refl) (λ x q. (q, sym (append-nil old.lines.items), sym (append-nil old.polygons.items))) c.read_point.ensures

pub returns-in-LineString : goal.returns-in-LineString
returns-in-LineString c =
    let rules = c.args.source.now.rules in let old = c.args.gathered.now in
    part_body rules.digits rules.how rules.base c.args.source.now.text.now c.args.head SpellsList line_string (line_faults rules.digits rules.how) _ _ c.read_line_string.result (on_body rules.digits rules.how rules.base c.args.source.now.text.now c.args.head SpellsList line_string LineString c.in-LineString.is (made SpellsList line_string) c.requires.inside) refl (λ x. refl) (λ x q. (sym (append-nil old.points.items), q, sym (append-nil old.polygons.items))) c.read_line_string.ensures

pub returns-in-Polygon : goal.returns-in-Polygon
returns-in-Polygon c =
    let rules = c.args.source.now.rules in let old = c.args.gathered.now in
    part_body rules.digits rules.how rules.base c.args.source.now.text.now c.args.head SpellsArea polygon (faults_of_area rules.digits rules.how) _ _ c.read_polygon.result (on_body rules.digits rules.how rules.base c.args.source.now.text.now c.args.head SpellsArea polygon Polygon c.in-Polygon.is (made SpellsArea polygon) c.requires.inside) refl (λ x. refl) (λ x q. (sym (append-nil old.points.items), sym (append-nil old.lines.items), q)) c.read_polygon.ensures

pub returns-in-MultiPoint : goal.returns-in-MultiPoint
returns-in-MultiPoint c =
    let rules = c.args.source.now.rules in let old = c.args.gathered.now in let P : ℕ → List (Option Position) → ℕ → List ℕ → Type 0 = λ d ps. EmptyOrParted (SpellsPointMember d) ps in
    part_body rules.digits rules.how rules.base c.args.source.now.text.now c.args.head P multi_point (flat_map (point_faults rules.digits rules.how)) _ _ c.read_list.result (on_body rules.digits rules.how rules.base c.args.source.now.text.now c.args.head P multi_point MultiPoint c.in-MultiPoint.is (made P multi_point) c.requires.inside) refl (λ x. sym (present_flat (position_faults rules.digits rules.how) x)) (λ x q. (q ∙ ap (λ z. old.points.items ++ z) (present_map (pos_of rules.digits rules.how) x), sym (append-nil old.lines.items), sym (append-nil old.polygons.items))) c.read_list.ensures

pub returns-in-MultiLineString : goal.returns-in-MultiLineString
returns-in-MultiLineString c =
    let rules = c.args.source.now.rules in let old = c.args.gathered.now in let P : ℕ → List (Option Positions) → ℕ → List ℕ → Type 0 = λ d ls. EmptyOrParted (SpellsList d) ls in
    part_body rules.digits rules.how rules.base c.args.source.now.text.now c.args.head P multi_line_string (flat_map (line_faults rules.digits rules.how)) _ _ c.read_list-in-MultiLineString.result (on_body rules.digits rules.how rules.base c.args.source.now.text.now c.args.head P multi_line_string MultiLineString c.in-MultiLineString.is (made P multi_line_string) c.requires.inside) refl (λ x. sym (present_flat (faults_of_line rules.digits rules.how) x)) (λ x q. (sym (append-nil old.points.items), q ∙ ap (λ z. old.lines.items ++ z) (present_map (path_of rules.digits rules.how) x), sym (append-nil old.polygons.items))) c.read_list-in-MultiLineString.ensures

pub returns-in-MultiPolygon : goal.returns-in-MultiPolygon
returns-in-MultiPolygon c =
    let rules = c.args.source.now.rules in let old = c.args.gathered.now in let P : ℕ → List (List Positions) → ℕ → List ℕ → Type 0 = λ d areas. EmptyOrParted (SpellsArea d) areas in
    part_body rules.digits rules.how rules.base c.args.source.now.text.now c.args.head P multi_polygon (flat_map (faults_of_area rules.digits rules.how)) _ _ c.read_list-in-MultiPolygon.result (on_body rules.digits rules.how rules.base c.args.source.now.text.now c.args.head P multi_polygon MultiPolygon c.in-MultiPolygon.is (made P multi_polygon) c.requires.inside) refl (λ x. refl) (λ x q. (sym (append-nil old.points.items), sym (append-nil old.lines.items), q)) c.read_list-in-MultiPolygon.ensures

pub returns-in-GeometryCollection : goal.returns-in-GeometryCollection
returns-in-GeometryCollection c = empty_body c.args.source.now.rules.digits c.args.source.now.rules.how c.args.source.now.rules.base c.args.source.now.text.now c.args.head _ _ c.read_nothing.result refl c.in-GeometryCollection.is
    (shut_by c.args.source.now.text.now c.args.head c.requires.simple c.in-GeometryCollection.is) c.requires.inside c.requires.count refl refl refl c.read_nothing.ensures

-- Coordinates of which something is made as they are read: what is seen of it is seen of the shape that would be read. For `coordinates`.
use Rattle.std.proofs.Common.{◌≡◌, ℕ, ◌<◌, ◌≤◌, Bool, List, [], ◌∷◌, length, Option, Some, None, Ok, refl, sym, ◌∙◌, ap, subst, arith}
use Rattle.std.specs.Prelude.{◌^◌}
use Rattle.std.specs.declared.alloc.Global.{Global}
use Rattle.at_text.specs.declared.faults.Fault.{Fault}
use Rattle.at_fixed.specs.NumberSoFar.{between}
use Rattle.at_lex.specs.Spans.{AreSpaces}
use Rattle.at_geom.specs.declared.positions.Pos.{Pos}
use Rattle.at_geom.specs.declared.shapes.Polygon.{Polygon}
use Rattle.at_geom.specs.declared.shapes.Shape.{Shape}
use Rattle.at_geom.specs.Shapes.{of_points, of_lines, of_polygons}
use Rattle.at_scan.specs.declared.kinds.Kind.TheVariants as kinds
use Rattle.at_query.specs.Keeping.{Asked, kept, needs_shapes}
use Rattle.at_geojson.specs.declared.atoms.atom.GeoAtom.TheVariants as atoms
use Rattle.at_geojson.specs.declared.atoms.atom.Areas.{Areas}
use Rattle.at_geojson.specs.declared.atoms.atom.AreasAtom.{AreasAtom}
use Rattle.at_geojson.specs.declared.atoms.atom.ListsAtom.{ListsAtom}
use Rattle.at_geojson.specs.declared.atoms.atom.PointsAtom.{PointsAtom}
use Rattle.at_geojson.specs.declared.coordinates.spots.Spot.{Spot}
use Rattle.at_geojson.specs.declared.coordinates.makings.LineMade.{LineMade}
use Rattle.at_geojson.specs.declared.coordinates.makings.LinesMade.{LinesMade}
use Rattle.at_geojson.specs.declared.coordinates.makings.AreasMade.{AreasMade}
use Rattle.at_geojson.specs.declared.at_once.plain_geometries.Seen.{Seen}
use Rattle.at_geojson.specs.declared.at_once.plain_geometries.SeenRead.{SeenRead}
use Rattle.at_geojson.specs.Objects.{unless}
use Rattle.at_geojson.specs.Makings.{ReadsSpot, MakesLineItem, MakesLinesItem, polygon, MakesPolygons}
use Rattle.at_geojson.specs.PlainGeometries.{IsCoordinatesItem, IsSeenOf, IsSeen, seen_unless, Sees}
use Rattle.at_geojson.proofs.MadeFolds.{kept_twice, area_kept}
use Rattle.at_geojson.proofs.ProofOnly.{vec_of, boxed, kept_length}
use Rattle.at_geojson.proofs.ValueParts.{item_read}

module _ (asked : Asked) (alloc : Global) (base : ℕ) (w : List ℕ) (at : ℕ) (r : SeenRead) where
  abbrev needs : Bool
  needs = needs_shapes asked.query

  seen_of : (fault : Option Fault) (shape : Shape) (seen : Seen) → r.seen ≡ seen_unless fault seen → IsSeenOf asked.query shape seen → IsSeen asked.query (unless fault shape) r.seen
  seen_of None shape seen e h = (seen, e, h)
  seen_of (Some fault) shape seen e h = e

  pub point_seen : {M : Type 0} (Marks : Pos → M → Type 0) (Stands : ℕ → Pos → Type 0) (s : Spot M) (seen : Seen) → ReadsSpot Marks Stands asked base w at s
      → ((p : Pos) → Marks p s.mark → IsSeenOf asked.query (of_points (kept needs (p ∷ []))) seen) → r.end ≡ s.end → r.seen ≡ Ok seen → Sees asked (IsCoordinatesItem asked base w at kinds.Point) r
  point_seen Marks Stands s seen h told ee es =
      let shape = of_points (kept needs (h.pair.pos ∷ [])) in (
        record { end = s.end; shape = Ok shape },
        record {
          atom = atoms.Position h.pair;
          item = record { order = h.spaced.order; within = h.spaced.within; own = h.spaced.own; tree = h.spaced.tree; spells = h.spaced.spells; fold = h.spaced.fold };
          no_twin = refl;
          with_coordinates = refl;
          shape = refl;
        },
        sym ee,
        seen_of None shape seen es (told h.pair.pos h.marks),
      )

  module _ {B L : Type 0} (Tells : B → List Pos → L → Type 0) (before empty : B) (e : before ≡ empty) (m : LineMade L) (seen : Seen) (h : MakesLineItem Tells before asked base w at m) (ee : r.end ≡ m.end) where
    abbrev points : PointsAtom
    points = record { at = h.points.at; least = h.points.least; points = boxed alloc h.points.points }

    told_line : Tells empty h.path m.made
    told_line = subst (λ z. Tells z h.path m.made) e h.tells

    pub multi_point_seen : ((path : List Pos) → Tells empty path m.made → IsSeenOf asked.query (of_points (kept needs path)) seen) → r.seen ≡ Ok seen → Sees asked (IsCoordinatesItem asked base w at kinds.MultiPoint) r
    multi_point_seen told es =
        let shape = of_points (kept needs h.path) in (
          record { end = h.points.end; shape = Ok shape },
          record {
            atom = atoms.Points points;
            item = h.item.item points (record { at_is = refl; least_is = refl; points_is = refl });
            no_twin = refl;
            with_coordinates = refl;
            shape = sym (ap (λ f. unless f (of_points h.points.points.path.items)) h.points_is ∙ ap (λ z. Ok (of_points z)) h.kept_is);
          },
          h.end_is ∙ sym ee,
          seen_of None shape seen es (told h.path told_line),
        )

    pub line_seen : ((path : List Pos) → Tells empty path m.made → IsSeenOf asked.query (of_lines (kept needs (path ∷ []))) seen) → r.seen ≡ seen_unless m.as_line seen → Sees asked (IsCoordinatesItem asked base w at kinds.LineString) r
    line_seen told es =
        let shape = of_lines (kept needs (h.path ∷ [])) in
        let same = ap (λ z. kept needs (z ∷ [])) h.kept_is ∙ kept_twice needs h.path in (
          record { end = h.points.end; shape = unless m.as_line shape },
          record {
            atom = atoms.Points points;
            item = h.item.item points (record { at_is = refl; least_is = refl; points_is = refl });
            no_twin = refl;
            with_coordinates = refl;
            shape = sym (ap (λ f. unless f (of_lines (kept needs (h.points.points.path.items ∷ [])))) h.line_is ∙ ap (λ z. unless m.as_line (of_lines z)) same);
          },
          h.end_is ∙ sym ee,
          seen_of m.as_line shape seen es (told h.path told_line),
        )

  module _ {B L : Type 0} (Tells : B → List (List Pos) → L → Type 0) (before empty : B) (e : before ≡ empty) (m : LinesMade L) (seen : Seen) (h : MakesLinesItem Tells before asked base w at m) (ee : r.end ≡ m.end) where
    abbrev lists : ListsAtom
    lists = record { at = h.lists.at; least = h.lists.least; lists = boxed alloc h.lists.lists }

    told_lines : Tells empty h.paths m.made
    told_lines = subst (λ z. Tells z h.paths m.made) e h.tells

    pub multi_line_seen : ((paths : List (List Pos)) → Tells empty paths m.made → IsSeenOf asked.query (of_lines (kept needs paths)) seen) → r.seen ≡ seen_unless m.as_lines seen → Sees asked (IsCoordinatesItem asked base w at kinds.MultiLineString) r
    multi_line_seen told es =
        let shape = of_lines (kept needs h.paths) in (
          record { end = h.lists.end; shape = unless m.as_lines shape },
          record {
            atom = atoms.Lists lists;
            item = h.item.item lists (record { at_is = refl; least_is = refl; lists_is = refl });
            no_twin = refl;
            with_coordinates = refl;
            shape = sym (ap (λ f. unless f (of_lines h.lists.lists.paths.items)) h.lines_is ∙ ap (λ z. unless m.as_lines (of_lines z)) h.kept_is);
          },
          h.end_is ∙ sym ee,
          seen_of m.as_lines shape seen es (told h.paths told_lines),
        )

    pub polygon_seen : ((rings : List (List Pos)) → Tells empty rings m.made → IsSeenOf asked.query (of_polygons (kept needs (polygon rings ∷ []))) seen) → r.seen ≡ seen_unless m.as_rings seen → Sees asked (IsCoordinatesItem asked base w at kinds.Polygon) r
    polygon_seen told es =
        let shape = of_polygons (kept needs (polygon h.paths ∷ [])) in
        let same = area_kept needs h.lists.lists.paths.items h.paths h.kept_is in (
          record { end = h.lists.end; shape = unless m.as_rings shape },
          record {
            atom = atoms.Lists lists;
            item = h.item.item lists (record { at_is = refl; least_is = refl; lists_is = refl });
            no_twin = refl;
            with_coordinates = refl;
            shape = ap (λ z. unless m.as_rings (of_polygons z)) same ∙ ap (λ f. unless f (of_polygons (kept needs (polygon h.lists.lists.paths.items ∷ [])))) (sym h.rings_is);
          },
          h.end_is ∙ sym ee,
          seen_of m.as_rings shape seen es (told h.paths told_lines),
        )

  pub multi_polygon_seen : {B L : Type 0} (Tells : B → List Polygon → L → Type 0) (before empty : B) → before ≡ empty → (m : AreasMade L) (seen : Seen) (first end : ℕ) → length w < 2 ^ 63 → at ≤ first → AreSpaces (between w at first) → MakesPolygons Tells before asked base w first m
      → m.end ≤ end → end ≤ length w → AreSpaces (between w m.end end) → ((polygons : List Polygon) → Tells empty polygons m.made → IsSeenOf asked.query (of_polygons (kept needs polygons)) seen) → r.end ≡ end → r.seen ≡ seen_unless m.fault seen
      → Sees asked (IsCoordinatesItem asked base w at kinds.MultiPolygon) r
  multi_polygon_seen Tells before empty e m seen first end short order spaces h k fits more told ee es =
      let l = kept_length needs h.polygons in
      let kept_areas : Areas = record { polygons = vec_of alloc (kept needs h.polygons) (omega (arith, l, h.few, short)); fault = m.fault } in
      let areas : AreasAtom = record { at = m.at; least = m.least; areas = boxed alloc kept_areas } in
      let shape = of_polygons (kept needs h.polygons) in (
        record { end = end; shape = unless m.fault shape },
        record {
          atom = atoms.Areas areas;
          item = item_read asked base w at first end (record { end = m.end; atom = atoms.Areas areas }) order spaces ((h.whole kept_areas refl refl).whole areas (record { at_is = refl; least_is = refl; areas_is = refl })) k fits more;
          no_twin = refl;
          with_coordinates = refl;
          shape = refl;
        },
        sym ee,
        seen_of m.fault shape seen es (told h.polygons (subst (λ z. Tells z h.polygons m.made) e h.tells)),
      )

-- The algebra's own atoms: coordinates in range, and parts of the query.
-- For `add`, `array`, `object` and `value`.
use Rattle.std.proofs.Common.{◌≡◌, ℕ, ◌≤◌, pos, nat_abs, Bool, true, false, List, [], ◌∷◌, ◌++◌, map, Option, Some, None, Result, Ok, Err, All, sym, subst, arith}
use Rattle.std.proofs.lemmas.List.Elements.{All-nil, All-cons, All-head, All-tail, All-append}
use Rattle.std.proofs.lemmas.Option.{none-some, same_Some}
use Rattle.at_text.specs.Faults.{first_fault}
use Rattle.at_text.specs.declared.faults.Fault.{Fault}
use Rattle.at_geom.specs.declared.shapes.Polygon.{Polygon}
use Rattle.at_geom.specs.declared.shapes.Shape.{Shape}
use Rattle.at_geom.specs.Segments.{IsInRange}
use Rattle.at_geom.specs.Shapes.{ArePathsInRange, ArePolygonsInRange}
use Rattle.at_query.specs.declared.answer.parts.Part.{Part}
use Rattle.at_query.specs.Keeping.{Asked, needs_shapes, kept}
use Rattle.at_query.proofs.Joining.{parts_are_alike}
use Rattle.at_geojson.specs.declared.atoms.atom.GeoAtom.{GeoAtom}
use Rattle.at_geojson.specs.declared.atoms.atom.GeoAtom.TheVariants as atoms
use Rattle.at_geojson.specs.declared.atoms.atom.Role.{Role}
use Rattle.at_geojson.specs.declared.atoms.atom.Role.TheVariants as roles
use Rattle.at_geojson.specs.Atoms.{nowhere, at_of, role_of, role_geometry, role_item, IfOwnShape, IfOwnPart, IsOwnRole, IsOwn}
use Rattle.at_geojson.specs.Gathering.{number_value, number_fault, position_value, path_in, rings_in, polygon_in, position_atom, position_made, pair_atom, item_geometries, item_features, MakesPoints, MakesLists, MakesAreas, JoinsShapes, JoinsFound, AreJoinable}

pub all_mapped : {X Y : Type 0} (P : X → Type 0) (Q : Y → Type 0) (f : X → Y) → ((x : X) → P x → Q (f x)) → (xs : List X) → All P xs → All Q (map f xs)
all_mapped P Q f g [] h = All-nil Q
all_mapped P Q f g (x ∷ xs) h = All-cons Q (f x) (map f xs) (g x (All-head P x xs h)) (all_mapped P Q f g xs (All-tail P x xs h))

pub all_kept : {X : Type 0} (P : X → Type 0) (b : Bool) (xs : List X) → All P xs → All P (kept b xs)
all_kept P true xs h = h
all_kept P false xs h = All-nil P

pub nowhere_in : IsInRange nowhere
nowhere_in = (omega arith, omega arith)

module _ (asked : Asked) where
  role_shape : (at : ℕ) (r : Role) → IsOwnRole asked r → IfOwnShape asked (role_geometry at r)
  role_shape at (roles.Geometry g) h = h
  role_shape at _ h = tt

  role_part : (at : ℕ) (r : Role) → IsOwnRole asked r → IfOwnPart asked (role_item at r)
  role_part at (roles.Feature p) h = h
  role_part at _ h = tt

  nothing_small : nat_abs (pos 0) ≤ 300000000000000
  nothing_small = omega arith

  number_small : (a : GeoAtom) → IsOwn asked a → nat_abs (number_value a) ≤ 300000000000000
  number_small (atoms.Number x) h = h.0
  number_small _ h = nothing_small

  pub position_in : (a : GeoAtom) → IsOwn asked a → IsInRange (position_value a)
  position_in (atoms.Position x) h = h
  position_in _ h = nowhere_in

  pub path_in_range : (a : GeoAtom) → IsOwn asked a → All IsInRange (path_in a)
  path_in_range (atoms.Points x) h = h
  path_in_range _ h = All-nil IsInRange

  pub rings_in_range : (a : GeoAtom) → IsOwn asked a → ArePathsInRange (rings_in a)
  rings_in_range (atoms.Lists x) h = h
  rings_in_range _ h = All-nil (All IsInRange)

  pub own_geometry : (a : GeoAtom) → IsOwn asked a → IfOwnShape asked (role_geometry (at_of a) (role_of a))
  own_geometry (atoms.Object x) h = role_shape x.at x.roles.value.role h
  own_geometry _ h = tt

  pub own_item : (a : GeoAtom) → IsOwn asked a → IfOwnPart asked (role_item (at_of a) (role_of a))
  own_item (atoms.Object x) h = role_part x.at x.roles.value.role h
  own_item _ h = tt

  -- what stands beside other items
  pub own_joined : (a : GeoAtom) → IsOwn asked a → IfOwnShape asked (item_geometries a) × IfOwnPart asked (item_features a)
  own_joined (atoms.Run items) h = h
  own_joined (atoms.Series s) h = (tt, tt)
  own_joined (atoms.Track t) h = (tt, tt)
  own_joined a h = (own_geometry a h, own_item a h)

  pub own_middle : (items xs : List GeoAtom) (a : GeoAtom) (rest : List GeoAtom) → items ≡ xs ++ a ∷ rest → All (IsOwn asked) items → IsOwn asked a
  own_middle items xs a rest e h = go xs (subst (All (IsOwn asked)) e h) where
    go : (ys : List GeoAtom) → All (IsOwn asked) (ys ++ a ∷ rest) → IsOwn asked a
    go [] k = All-head (IsOwn asked) a rest k
    go (y ∷ ys) k = go ys (All-tail (IsOwn asked) y (ys ++ a ∷ rest) k)

  -- ---- arrays of coordinates

  pub points_own : (at least : ℕ) (items : List GeoAtom) (r : GeoAtom) → All (IsOwn asked) items → MakesPoints (needs_shapes asked.query) at least items r → IsOwn asked r
  points_own at least items r h m = subst (IsOwn asked) (sym m.result_is) (subst (All IsInRange) (sym m.path) (all_kept IsInRange (needs_shapes asked.query) (map position_value items) (all_mapped (IsOwn asked) IsInRange position_value position_in items h)))

  pub lists_own : (at least : ℕ) (items : List GeoAtom) (r : GeoAtom) → All (IsOwn asked) items → MakesLists (needs_shapes asked.query) at least items r → IsOwn asked r
  lists_own at least items r h m = subst (IsOwn asked) (sym m.result_is) (subst ArePathsInRange (sym m.paths) (all_kept (All IsInRange) (needs_shapes asked.query) (map path_in items) (all_mapped (IsOwn asked) (All IsInRange) path_in path_in_range items h)))

  pub areas_own : (at least : ℕ) (items : List GeoAtom) (r : GeoAtom) → All (IsOwn asked) items → MakesAreas (needs_shapes asked.query) at least items r → IsOwn asked r
  areas_own at least items r h m = subst (IsOwn asked) (sym m.result_is) (subst ArePolygonsInRange (sym m.polygons) (all_kept (λ (polygon : Polygon). ArePathsInRange polygon.rings) (needs_shapes asked.query) (map polygon_in items)
      (all_mapped (IsOwn asked) (λ (polygon : Polygon). ArePathsInRange polygon.rings) polygon_in rings_in_range items h)))

  pub pair_own : (at least : ℕ) (items : List GeoAtom) (r : GeoAtom) → All (IsOwn asked) items → pair_atom at least items ≡ Some r → IsOwn asked r
  pair_own at least (x ∷ y ∷ rest) r h e = subst (IsOwn asked) (same_Some (position_atom at least x y) r e) (go (first_fault (number_fault x) (number_fault y))) where
    hx : IsOwn asked x
    hx = All-head (IsOwn asked) x (y ∷ rest) h

    hy : IsOwn asked y
    hy = All-head (IsOwn asked) y rest (All-tail (IsOwn asked) x (y ∷ rest) h)

    go : (o : Option Fault) → IsOwn asked (position_made at least x y o)
    go None = (number_small x hx, number_small y hy)
    go (Some f) = tt
  pair_own at least _ r h e = absurd (none-some r e)

  -- ---- shapes and parts, joined

  pub joinable : (l g : Result Part Fault) → IfOwnPart asked l → IfOwnPart asked g → AreJoinable l g
  joinable (Ok a) (Ok b) (fs, h) (gs, k) = parts_are_alike asked.query fs gs a b h k
  joinable (Ok a) (Err f) h k = tt
  joinable (Err e) g h k = tt

  pub shapes_own : (l g n : Result Shape Fault) → JoinsShapes l g n → IfOwnShape asked l → IfOwnShape asked g → IfOwnShape asked n
  shapes_own (Ok a) (Ok b) n j h k = subst (IfOwnShape asked) (sym j) (record {
    points = All-append IsInRange a.points b.points h.points k.points;
    lines = All-append (All IsInRange) a.lines b.lines h.lines k.lines;
    polygons = All-append (λ (polygon : Polygon). ArePathsInRange polygon.rings) a.polygons b.polygons h.polygons k.polygons;
  })
  shapes_own (Ok a) (Err f) n j h k = subst (IfOwnShape asked) (sym j) tt
  shapes_own (Err e) (Ok b) n j h k = subst (IfOwnShape asked) (sym j) tt
  shapes_own (Err e) (Err f) n j h k = subst (IfOwnShape asked) (sym j.1) tt

  pub parts_own : (l g n : Result Part Fault) → JoinsFound l g n → IfOwnPart asked l → IfOwnPart asked g → IfOwnPart asked n
  parts_own (Ok a) (Ok b) n j (fs, h) (gs, k) = subst (IfOwnPart asked) (sym j.1) (fs ++ gs, j.2 asked.query fs gs h k)
  parts_own (Ok a) (Err f) n j h k = subst (IfOwnPart asked) (sym j) tt
  parts_own (Err e) (Ok b) n j h k = subst (IfOwnPart asked) (sym j) tt
  parts_own (Err e) (Err f) n j h k = subst (IfOwnPart asked) (sym j.1) tt

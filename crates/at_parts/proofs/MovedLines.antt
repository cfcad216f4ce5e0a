-- The same line at two offsets: it spells the same geometry with its offsets moved.
-- For `line_features` and `line_faults`.
use Rattle.std.proofs.Common.{ℕ, ◌+◌, ◌-◌, List, [], ◌∷◌, map, Option, Some, None, inl, inr}
use Rattle.std.specs.Prelude.{codes, option_map}
use Rattle.at_text.specs.Parts.{Exactly, AnyCase, Many, OneOrMore, Either}
use Rattle.at_fixed.specs.Numerals.{Numeral}
use Rattle.at_lex.specs.Strings.{Character, SpellsString}
use Rattle.at_wkt.specs.Positions.{Position, Positions}
use Rattle.at_wkt.specs.Geometry.{Geometry, point, line_string, polygon, multi_point, multi_line_string, multi_polygon, collection, Geometries, no_geometries, geometry_and}
use Rattle.at_wkt.specs.Geometry.{is_blank, ◌‿◌, SpellsNumber, SpellsFurther, SpellsPosition, InBrackets, Parted, EmptyOrParted, SpellsRing, SpellsList, SpellsPoint, SpellsPointMember, SpellsArea, Letter, Kind, SpellsGeometry, SpellsGeometries, SpellsFurtherGeometries, IsLineOf}
use Rattle.at_run.specs.Labels.{SpellsLabelled, LabelledLine}
use Rattle.at_parts.proofs.MovedGeometries.{position_changed, positions_changed, geometry_changed, geometries_changed, geometry_moved}
use Rattle.at_parts.proofs.Moves.{Moves, same_moves, then_moves, at_moves, meets_on, meets_back}

-- ---- the same part at two offsets

module _ (f : ℕ → ℕ) where
  exactly_moves : (text : List ℕ) → Moves f (Exactly text) (Exactly text)
  exactly_moves text = same_moves (Exactly text 0)

  word_moves : (word : List ℕ) → Moves f (AnyCase word) (AnyCase word)
  word_moves word = same_moves (AnyCase word 0)

  blanks_move : Moves f (Many is_blank) (Many is_blank)
  blanks_move = same_moves (Many is_blank 0)

  apart_moves : {P R Q S : ℕ → List ℕ → Type 0} → Moves f P R → Moves f Q S → Moves f (P ‿ Q) (R ‿ S)
  apart_moves one two = then_moves one (then_moves blanks_move two)

  either_moves : {P R Q S : ℕ → List ℕ → Type 0} → Moves f P R → Moves f Q S → Moves f (Either P Q) (Either R S)
  either_moves one two = record { moved = λ i j w meets h. elim h [ inl p ↦ inl (one.moved i j w meets p) | inr q ↦ inr (two.moved i j w meets q) ] }

  brackets_move : {P R : ℕ → List ℕ → Type 0} → Moves f P R → Moves f (InBrackets P) (InBrackets R)
  brackets_move one = apart_moves (exactly_moves (codes "(")) (apart_moves one (exactly_moves (codes ")")))

  parted_moves : {X Y : Type 0} (P : X → ℕ → List ℕ → Type 0) (R : Y → ℕ → List ℕ → Type 0) (g : X → Y) → ((x : X) → Moves f (P x) (R (g x))) → (xs : List X)
      → Moves f (Parted P xs) (Parted R (map g xs))
  parted_moves P R g each [] = record { moved = λ i j w meets h. absurd h }
  parted_moves P R g each (x ∷ []) = each x
  parted_moves P R g each (x ∷ y ∷ rest) = apart_moves (each x) (apart_moves (exactly_moves (codes ",")) (parted_moves P R g each (y ∷ rest)))

  items_move : {X Y : Type 0} (P : X → ℕ → List ℕ → Type 0) (R : Y → ℕ → List ℕ → Type 0) (g : X → Y) → ((x : X) → Moves f (P x) (R (g x))) → (xs : List X)
      → Moves f (EmptyOrParted P xs) (EmptyOrParted R (map g xs))
  items_move P R g each [] = word_moves (codes "EMPTY")
  items_move P R g each (x ∷ rest) = brackets_move (parted_moves P R g each (x ∷ rest))

  -- ---- positions

  further_move : (ns : List Numeral) → Moves f (SpellsFurther ns) (SpellsFurther ns)
  further_move [] = record { moved = λ i j w meets h. h }
  further_move (n ∷ ns) = then_moves (same_moves (OneOrMore is_blank 0)) (then_moves (same_moves (SpellsNumber n 0)) (further_move ns))

  position_moves : (d : ℕ) (p : Position) → Moves f (SpellsPosition d p) (SpellsPosition d (position_changed f p))
  position_moves d p = record {
    moved = λ i j w meets (ns, count, h).
        let numbers = then_moves (at_moves p.x_at (same_moves (SpellsNumber p.x 0))) (then_moves (same_moves (OneOrMore is_blank 0)) (then_moves (at_moves p.y_at (same_moves (SpellsNumber p.y 0))) (further_move ns))) in
        (ns, count, numbers.moved i j w meets h);
  }

  ring_moves : (d : ℕ) (ps : Positions) → Moves f (SpellsRing d ps) (SpellsRing d (positions_changed f ps))
  ring_moves d ps = at_moves ps.at (brackets_move (parted_moves (SpellsPosition d) (SpellsPosition d) (position_changed f) (position_moves d) ps.items))

  list_moves : (d : ℕ) (ps : Option Positions) → Moves f (SpellsList d ps) (SpellsList d (option_map (positions_changed f) ps))
  list_moves d None = word_moves (codes "EMPTY")
  list_moves d (Some ps) = ring_moves d ps

  point_moves : (d : ℕ) (p : Option Position) → Moves f (SpellsPoint d p) (SpellsPoint d (option_map (position_changed f) p))
  point_moves d None = word_moves (codes "EMPTY")
  point_moves d (Some p) = brackets_move (position_moves d p)

  member_moves : (d : ℕ) (p : Option Position) → Moves f (SpellsPointMember d p) (SpellsPointMember d (option_map (position_changed f) p))
  member_moves d None = word_moves (codes "EMPTY")
  member_moves d (Some p) = either_moves (position_moves d p) (brackets_move (position_moves d p))

  area_moves : (d : ℕ) (rings : List Positions) → Moves f (SpellsArea d rings) (SpellsArea d (map (positions_changed f) rings))
  area_moves d rings = items_move (SpellsRing d) (SpellsRing d) (positions_changed f) (ring_moves d) rings

  -- ---- geometries

  kind_moves : {Body Other : ℕ → ℕ → List ℕ → Type 0} (word : List ℕ) → ((d : ℕ) → Moves f (Body d) (Other d)) → Moves f (Kind word Body) (Kind word Other)
  kind_moves word each = record { moved = λ i j w meets h. (h.0, (apart_moves (word_moves word) (apart_moves (same_moves (Letter h.0 0)) (each h.0))).moved i j w meets h.1) }

  mutual
    geometry_moves : (g : Geometry) → Moves f (λ i v. SpellsGeometry i v g) (λ i v. SpellsGeometry i v (geometry_changed f g))
    geometry_moves (point p) = kind_moves (codes "POINT") (λ d. point_moves d p)
    geometry_moves (line_string ps) = kind_moves (codes "LINESTRING") (λ d. list_moves d ps)
    geometry_moves (polygon rings) = kind_moves (codes "POLYGON") (λ d. area_moves d rings)
    geometry_moves (multi_point ps) = kind_moves (codes "MULTIPOINT") (λ d. items_move (SpellsPointMember d) (SpellsPointMember d) (option_map (position_changed f)) (member_moves d) ps)
    geometry_moves (multi_line_string ls) = kind_moves (codes "MULTILINESTRING") (λ d. items_move (SpellsList d) (SpellsList d) (option_map (positions_changed f)) (list_moves d) ls)
    geometry_moves (multi_polygon areas) = kind_moves (codes "MULTIPOLYGON") (λ d. items_move (SpellsArea d) (SpellsArea d) (map (positions_changed f)) (area_moves d) areas)
    geometry_moves (collection gs) = kind_moves (codes "GEOMETRYCOLLECTION") (λ d. geometries_move gs)

    geometries_move : (gs : Geometries) → Moves f (λ i v. SpellsGeometries i v gs) (λ i v. SpellsGeometries i v (geometries_changed f gs))
    geometries_move no_geometries = record { moved = λ i j w meets h. h }
    geometries_move (geometry_and g gs) = brackets_move (then_moves (geometry_moves g) (further_geometries_move gs))

    further_geometries_move : (gs : Geometries) → Moves f (λ i v. SpellsFurtherGeometries i v gs) (λ i v. SpellsFurtherGeometries i v (geometries_changed f gs))
    further_geometries_move no_geometries = record { moved = λ i j w meets h. h }
    further_geometries_move (geometry_and g gs) =
        then_moves blanks_move (apart_moves (exactly_moves (codes ",")) (then_moves (geometry_moves g) (further_geometries_move gs)))

  line_moves : (g : Geometry) → Moves f (λ i v. IsLineOf i v g) (λ i v. IsLineOf i v (geometry_changed f g))
  line_moves g = then_moves blanks_move (then_moves (geometry_moves g) blanks_move)

  labelled_moves : (label : Option (List Character)) (g : Geometry) → Moves f (SpellsLabelled label g) (SpellsLabelled label (geometry_changed f g))
  labelled_moves None g = line_moves g
  labelled_moves (Some label) g = then_moves blanks_move (then_moves (same_moves (SpellsString label 0)) (line_moves g))

-- ---- further on, and back

module _ (d at : ℕ) where
  pub labelled_moved : (label : Option (List Character)) (g : Geometry) (w : List ℕ) → SpellsLabelled label g at w → SpellsLabelled label (geometry_moved d g) (d + at) w
  labelled_moved label g w h = (labelled_moves (λ i. d + i) label g).moved at (d + at) w (meets_on d at) h

  pub labelled_line_moved : (w : List ℕ) → LabelledLine at w → LabelledLine (d + at) w
  labelled_line_moved w (label, g, h) = (label, geometry_moved d g, labelled_moved label g w h)

  pub labelled_line_unmoved : (w : List ℕ) → LabelledLine (d + at) w → LabelledLine at w
  labelled_line_unmoved w (label, g, h) = (label, geometry_changed (λ i. i - d) g, (labelled_moves (λ i. i - d) label g).moved (d + at) at w (meets_back d at) h)

-- Well-Known Text: geometries and their spelling (OGC 06-103r4 section 7.2, in this project's profile).
use Rattle.std.specs.Prelude.{◌≡◌, ℕ, ◌+◌, ◌≤◌, ◌⊎◌, ◌||◌, ◌==◌, Bool, List, [], ◌∷◌, length, Option, Some, None, codes}
use Rattle.at_text.specs.Parts.{Nothing, Exactly, AnyCase, Many, OneOrMore, ◌▸◌, At, Either}
use Rattle.at_fixed.specs.Numerals.{Numeral, IsWktNumeral, numeral_text}
use Rattle.at_wkt.specs.Positions.{Position, Positions}

-- what a line or a query spells; none stands for EMPTY, and lists hold at least one item or else stand for EMPTY; from
-- GeoJSON, positions may have no items and are then Short or Ring
mutual
  pub data Geometry : Type 0 where
    point : Option Position → Geometry
    line_string : Option Positions → Geometry
    polygon : List Positions → Geometry
    multi_point : List (Option Position) → Geometry
    multi_line_string : List (Option Positions) → Geometry
    multi_polygon : List (List Positions) → Geometry
    collection : Geometries → Geometry

  pub data Geometries : Type 0 where
    no_geometries : Geometries
    geometry_and : Geometry → Geometries → Geometries

-- a space or a tab
abbrev pub is_blank : ℕ → Bool
is_blank b = (b == 0x20) || (b == 0x09)

-- any number of blanks between two parts
infixr 4 ◌‿◌
abbrev pub ◌‿◌ : (ℕ → List ℕ → Type 0) → (ℕ → List ℕ → Type 0) → ℕ → List ℕ → Type 0
P ‿ Q = P ▸ Many is_blank ▸ Q

-- a number; where it stands makes no difference
abbrev pub SpellsNumber : Numeral → ℕ → List ℕ → Type 0
SpellsNumber n at w = IsWktNumeral n × (w ≡ numeral_text n)

-- further numbers, each with at least one blank before it
abbrev pub SpellsFurther : List Numeral → ℕ → List ℕ → Type 0
SpellsFurther [] = Nothing
SpellsFurther (n ∷ ns) = OneOrMore is_blank ▸ SpellsNumber n ▸ SpellsFurther ns

-- a position of d numbers, of which the first two are used
abbrev pub SpellsPosition : ℕ → Position → ℕ → List ℕ → Type 0
SpellsPosition d p at w = (further : List Numeral) × (2 + length further ≡ d)
    × (At p.x_at (SpellsNumber p.x) ▸ OneOrMore is_blank ▸ At p.y_at (SpellsNumber p.y) ▸ SpellsFurther further) at w

abbrev pub InBrackets : (ℕ → List ℕ → Type 0) → ℕ → List ℕ → Type 0
InBrackets P = Exactly (codes "(") ‿ P ‿ Exactly (codes ")")

abbrev pub EmptyWord : ℕ → List ℕ → Type 0
EmptyWord = AnyCase (codes "EMPTY")

-- at least one item, and commas between them
abbrev pub Parted : {X : Type 0} → (X → ℕ → List ℕ → Type 0) → List X → ℕ → List ℕ → Type 0
Parted P [] at w = ⊥
Parted P (x ∷ []) at w = P x at w
Parted P (x ∷ y ∷ rest) at w = (P x ‿ Exactly (codes ",") ‿ Parted P (y ∷ rest)) at w

-- EMPTY, or items parted by commas in brackets
abbrev pub EmptyOrParted : {X : Type 0} → (X → ℕ → List ℕ → Type 0) → List X → ℕ → List ℕ → Type 0
EmptyOrParted P [] = EmptyWord
EmptyOrParted P (x ∷ rest) = InBrackets (Parted P (x ∷ rest))

abbrev pub SpellsRing : ℕ → Positions → ℕ → List ℕ → Type 0
SpellsRing d ps = At ps.at (InBrackets (Parted (SpellsPosition d) ps.items))

abbrev pub SpellsList : ℕ → Option Positions → ℕ → List ℕ → Type 0
SpellsList d None = EmptyWord
SpellsList d (Some ps) = SpellsRing d ps

abbrev pub SpellsPoint : ℕ → Option Position → ℕ → List ℕ → Type 0
SpellsPoint d None = EmptyWord
SpellsPoint d (Some p) = InBrackets (SpellsPosition d p)

-- EMPTY, or a position with brackets or without
abbrev pub SpellsPointMember : ℕ → Option Position → ℕ → List ℕ → Type 0
SpellsPointMember d None = EmptyWord
SpellsPointMember d (Some p) = Either (SpellsPosition d p) (InBrackets (SpellsPosition d p))

abbrev pub SpellsArea : ℕ → List Positions → ℕ → List ℕ → Type 0
SpellsArea d rings = EmptyOrParted (SpellsRing d) rings

-- Z, M, ZM or none, in any case, before positions of d numbers: 3 with Z or M, 4 with ZM, and 2, 3 or 4 with none
abbrev pub Letter : ℕ → ℕ → List ℕ → Type 0
Letter d at w = ((w ≡ []) × (2 ≤ d) × (d ≤ 4)) ⊎ (((AnyCase (codes "Z") at w ⊎ AnyCase (codes "M") at w) × (d ≡ 3))
    ⊎ (AnyCase (codes "ZM") at w × (d ≡ 4)))

-- the word of a kind, a letter or none, and what is said of positions of d numbers
abbrev pub Kind : List ℕ → (ℕ → ℕ → List ℕ → Type 0) → ℕ → List ℕ → Type 0
Kind word Body at w = (d : ℕ) × (AnyCase word ‿ Letter d ‿ Body d) at w

-- the bytes w, which begin at the offset `at`, spell the geometry
abbrev mutual
  pub SpellsGeometry : ℕ → List ℕ → Geometry → Type 0
  SpellsGeometry at w (point p) = Kind (codes "POINT") (λ d. SpellsPoint d p) at w
  SpellsGeometry at w (line_string ps) = Kind (codes "LINESTRING") (λ d. SpellsList d ps) at w
  SpellsGeometry at w (polygon rings) = Kind (codes "POLYGON") (λ d. SpellsArea d rings) at w
  SpellsGeometry at w (multi_point ps) = Kind (codes "MULTIPOINT") (λ d. EmptyOrParted (SpellsPointMember d) ps) at w
  SpellsGeometry at w (multi_line_string ls) =
      Kind (codes "MULTILINESTRING") (λ d. EmptyOrParted (SpellsList d) ls) at w
  SpellsGeometry at w (multi_polygon areas) = Kind (codes "MULTIPOLYGON") (λ d. EmptyOrParted (SpellsArea d) areas) at w
  SpellsGeometry at w (collection gs) = Kind (codes "GEOMETRYCOLLECTION") (λ d i v. SpellsGeometries i v gs) at w

  -- EMPTY, or geometries parted by commas in brackets
  pub SpellsGeometries : ℕ → List ℕ → Geometries → Type 0
  SpellsGeometries at w no_geometries = EmptyWord at w
  SpellsGeometries at w (geometry_and g gs) =
      InBrackets ((λ i v. SpellsGeometry i v g) ▸ (λ i v. SpellsFurtherGeometries i v gs)) at w

  pub SpellsFurtherGeometries : ℕ → List ℕ → Geometries → Type 0
  SpellsFurtherGeometries at w no_geometries = Nothing at w
  SpellsFurtherGeometries at w (geometry_and g gs) =
      (Many is_blank ▸ Exactly (codes ",") ‿ (λ i v. SpellsGeometry i v g) ▸ (λ i v. SpellsFurtherGeometries i v gs)) at
      w

-- blanks, a geometry, blanks
abbrev pub IsLineOf : ℕ → List ℕ → Geometry → Type 0
IsLineOf at w g = (Many is_blank ▸ (λ i v. SpellsGeometry i v g) ▸ Many is_blank) at w

-- the bytes, which begin at the offset, spell some geometry; or some geometry between blanks
abbrev pub WktGeometry : ℕ → List ℕ → Type 0
WktGeometry at w = (g : Geometry) × SpellsGeometry at w g

abbrev pub WktLine : ℕ → List ℕ → Type 0
WktLine at w = (g : Geometry) × IsLineOf at w g

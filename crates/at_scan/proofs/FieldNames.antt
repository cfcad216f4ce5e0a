-- Which member of an object a name is: each name is that of one member at most. For `field_named` and what reads members.
use Rattle.std.proofs.Common.{arith, ◌≡◌, ℕ, Bool, true, false, bytes_eq, codes, List, refl, ◌∙◌, ap}
use Rattle.std.proofs.lemmas.Slice.Eq.{bytes_eq-Decides}
use Rattle.at_scan.specs.Fields.{first_field, field_of, is_no_field, is_kind, is_coordinates, is_geometry, is_properties, is_features, is_geometries}

-- a name that is one text is no other
no_other_name : (name a b : List ℕ) → bytes_eq a b ≡ false → bytes_eq name a ≡ true → bytes_eq name b ≡ false
no_other_name name a b e h = ap (λ z. bytes_eq z b) ((bytes_eq-Decides name a).0 h) ∙ e

kind_first : (a b c d e f : Bool) → is_kind (first_field a b c d e f) ≡ a
kind_first a b c d e f = grind arith

coordinates_first : (a b c d e f : Bool) → (a ≡ true → b ≡ false) → is_coordinates (first_field a b c d e f) ≡ b
coordinates_first a b c d e f h = grind arith

geometry_first : (a b c d e f : Bool) → (a ≡ true → c ≡ false) → (b ≡ true → c ≡ false) → is_geometry (first_field a b c d e f) ≡ c
geometry_first a b c d e f h k = grind arith

properties_first : (a b c d e f : Bool) → (a ≡ true → d ≡ false) → (b ≡ true → d ≡ false) → (c ≡ true → d ≡ false) → is_properties (first_field a b c d e f) ≡ d
properties_first a b c d e f h k l = grind arith

features_first : (a b c d e f : Bool) → (a ≡ true → e ≡ false) → (b ≡ true → e ≡ false) → (c ≡ true → e ≡ false) → (d ≡ true → e ≡ false) → is_features (first_field a b c d e f) ≡ e
features_first a b c d e f h k l m = grind arith

geometries_first : (a b c d e f : Bool) → (a ≡ true → f ≡ false) → (b ≡ true → f ≡ false) → (c ≡ true → f ≡ false) → (d ≡ true → f ≡ false) → (e ≡ true → f ≡ false) → is_geometries (first_field a b c d e f) ≡ f
geometries_first a b c d e f h k l m n = grind arith

pub kind_field : (name : List ℕ) → is_kind (field_of name) ≡ bytes_eq name (codes "type")
kind_field name = kind_first (bytes_eq name (codes "type")) (bytes_eq name (codes "coordinates")) (bytes_eq name (codes "geometry")) (bytes_eq name (codes "properties")) (bytes_eq name (codes "features")) (bytes_eq name (codes "geometries"))

pub coordinates_field : (name : List ℕ) → is_coordinates (field_of name) ≡ bytes_eq name (codes "coordinates")
coordinates_field name = coordinates_first (bytes_eq name (codes "type")) (bytes_eq name (codes "coordinates")) (bytes_eq name (codes "geometry")) (bytes_eq name (codes "properties")) (bytes_eq name (codes "features")) (bytes_eq name (codes "geometries")) (no_other_name name (codes "type") (codes "coordinates") refl)

pub geometry_field : (name : List ℕ) → is_geometry (field_of name) ≡ bytes_eq name (codes "geometry")
geometry_field name = geometry_first (bytes_eq name (codes "type")) (bytes_eq name (codes "coordinates")) (bytes_eq name (codes "geometry")) (bytes_eq name (codes "properties")) (bytes_eq name (codes "features")) (bytes_eq name (codes "geometries")) (no_other_name name (codes "type") (codes "geometry") refl) (no_other_name name (codes "coordinates") (codes "geometry") refl)

pub properties_field : (name : List ℕ) → is_properties (field_of name) ≡ bytes_eq name (codes "properties")
properties_field name = properties_first (bytes_eq name (codes "type")) (bytes_eq name (codes "coordinates")) (bytes_eq name (codes "geometry")) (bytes_eq name (codes "properties")) (bytes_eq name (codes "features")) (bytes_eq name (codes "geometries")) (no_other_name name (codes "type") (codes "properties") refl) (no_other_name name (codes "coordinates") (codes "properties") refl) (no_other_name name (codes "geometry") (codes "properties") refl)

pub features_field : (name : List ℕ) → is_features (field_of name) ≡ bytes_eq name (codes "features")
features_field name = features_first (bytes_eq name (codes "type")) (bytes_eq name (codes "coordinates")) (bytes_eq name (codes "geometry")) (bytes_eq name (codes "properties")) (bytes_eq name (codes "features")) (bytes_eq name (codes "geometries")) (no_other_name name (codes "type") (codes "features") refl) (no_other_name name (codes "coordinates") (codes "features") refl) (no_other_name name (codes "geometry") (codes "features") refl) (no_other_name name (codes "properties") (codes "features") refl)

pub geometries_field : (name : List ℕ) → is_geometries (field_of name) ≡ bytes_eq name (codes "geometries")
geometries_field name = geometries_first (bytes_eq name (codes "type")) (bytes_eq name (codes "coordinates")) (bytes_eq name (codes "geometry")) (bytes_eq name (codes "properties")) (bytes_eq name (codes "features")) (bytes_eq name (codes "geometries")) (no_other_name name (codes "type") (codes "geometries") refl) (no_other_name name (codes "coordinates") (codes "geometries") refl) (no_other_name name (codes "geometry") (codes "geometries") refl) (no_other_name name (codes "properties") (codes "geometries") refl) (no_other_name name (codes "features") (codes "geometries") refl)

-- a name for which no kind asks is no name for which one does
pub unlike_field : (name other : List ℕ) → is_no_field (field_of name) ≡ true → is_no_field (field_of other) ≡ false → bytes_eq name other ≡ false
unlike_field name other h k = grind (arith, bytes_eq-Decides)

-- Arrays: what is made of their items is what the definitions read of the array in each role.
-- For `add`, `array`, `object` and `value`.
use Rattle.std.proofs.Common.{◌≡◌, ℕ, ◌<◌, ◌≤◌, ◌==◌, min, Bool, true, false, ◌&&◌, ◌||◌, if◌then◌else◌, List, [], ◌∷◌, nat_lt, Some, None, refl, sym, ◌∙◌, ap, subst, arith}
use Rattle.std.proofs.lemmas.Bool.{true≢false, ltb-true, ltb-false, eqb-true}
use Rattle.std.proofs.Math.Nat.{min-eq_left, min-eq_right}
use Rattle.at_text.specs.Faults.{comes_first, first_fault, fault_at}
use Rattle.at_text.specs.declared.faults.FaultKind.TheVariants.{Form}
use Rattle.at_nest.specs.Tree.{Tree, array, Trees, no_trees}
use Rattle.at_query.specs.Keeping.{Asked, needs_shapes, asked_texts, kept, kept_shape}
use Rattle.at_geojson.specs.declared.atoms.atom.GeoAtom.{GeoAtom}
use Rattle.at_geojson.specs.declared.atoms.atom.GeoAtom.TheVariants as atoms
use Rattle.at_geojson.specs.declared.atoms.atom.ItemsAtom.{ItemsAtom}
use Rattle.at_geojson.specs.declared.atoms.atom.Role.TheVariants as roles
use Rattle.at_geojson.specs.Coordinates.{position_of, positions_of, lists_of, area_of, areas_of}
use Rattle.at_geojson.specs.Roles.{texts_of, geometry_reading, items_reading, item_reading}
use Rattle.at_geom.specs.Shapes.{empty_shape}
use Rattle.at_geojson.specs.Atoms.{twin_of, at_of, as_run, is_null, is_empty, as_kind, as_text, as_geometries, as_features, both_forms, as_number, as_position, as_points, as_lists, as_area, as_areas, role_of, role_geometry, role_item, as_texts, HasShape, HasPart, Alike, IsPosition, IsPoints, IsLists, IsArea, IsAreas, IsObject, IsScalar, IsRoot, items_features, IsRead}
use Rattle.at_geojson.proofs.CoordinateFolds.{alike_at}

-- ---- the least offset

pub two_forms : (m n : ℕ) → first_fault (Some (fault_at Form m)) (Some (fault_at Form n)) ≡ Some (fault_at Form (min m n))
two_forms m n = less (nat_lt m n) refl where
  pick : (b : Bool) → comes_first (fault_at Form m) (fault_at Form n) ≡ b → first_fault (Some (fault_at Form m)) (Some (fault_at Form n)) ≡ (if b then Some (fault_at Form m) else Some (fault_at Form n))
  pick b e = ap (λ c. if c then Some (fault_at Form m) else Some (fault_at Form n)) e

  left : m ≤ n → Some (fault_at Form m) ≡ Some (fault_at Form (min m n))
  left l = ap (λ k. Some (fault_at Form k)) (sym (min-eq_left l))

  right : n ≤ m → Some (fault_at Form n) ≡ Some (fault_at Form (min m n))
  right l = ap (λ k. Some (fault_at Form k)) (sym (min-eq_right l))

  same : (y : Bool) → nat_lt m n ≡ false → (m == n) ≡ y → first_fault (Some (fault_at Form m)) (Some (fault_at Form n)) ≡ Some (fault_at Form (min m n))
  same true l e = pick true (ap (λ z. z || ((m == n) && true)) l ∙ ap (λ z. z && true) e) ∙ left (let s : m ≡ n = eqb-true m n e in omega (arith, s))
  same false l e = pick false (ap (λ z. z || ((m == n) && true)) l ∙ ap (λ z. z && true) e) ∙ right (ltb-false m n l)

  less : (x : Bool) → nat_lt m n ≡ x → first_fault (Some (fault_at Form m)) (Some (fault_at Form n)) ≡ Some (fault_at Form (min m n))
  less true e = pick true (ap (λ z. z || ((m == n) && true)) e) ∙ left (let s : m < n = ltb-true m n e in omega (arith, s))
  less false e = same (m == n) e refl

kept_nil : {X : Type 0} (b : Bool) → ◌≡◌ {A = List X} [] (kept b [])
kept_nil true = refl
kept_nil false = refl

pub kept_empty : (b : Bool) → empty_shape ≡ kept_shape b empty_shape
kept_empty true = refl
kept_empty false = refl

module _ (asked : Asked) where
  abbrev needs : Bool
  needs = needs_shapes asked.query

  -- ---- an array is no object

  pub plain_object : (r : GeoAtom) (at : ℕ) (ts : Trees) → at_of r ≡ at → role_of r ≡ roles.Nothing → as_texts r ≡ None → IsObject asked r (array at ts)
  plain_object r at ts ea er et = record {
    geometry = subst (λ o. HasShape (needs_shapes asked.query) (role_geometry (at_of r) o) (geometry_reading asked.digits asked.how (array at ts))) (sym er) (ap (λ n. Some (fault_at Form n)) (sym ea));
    item = subst (λ o. HasPart asked.query (role_item (at_of r) o) (item_reading asked.digits asked.how (array at ts))) (sym er) (ap (λ n. Some (fault_at Form n)) (sym ea));
    texts = subst (λ o. Alike (λ kept_texts ms. kept_texts ≡ asked_texts asked.query.tests (texts_of ms)) o None) (sym et) tt;
    root = subst (λ o. IsRoot asked (at_of r) o (array at ts)) (sym er) (ap (λ n. fault_at Form n ∷ []) (sym ea));
  }

  -- ---- atoms of arrays that have no objects

  pub record IsArrayAtom (r : GeoAtom) (at least : ℕ) : Type 0 where
    pub at_is : at_of r ≡ at
    pub twin : twin_of r ≡ None
    pub single : as_run r ≡ None
    pub null : is_null r ≡ false
    pub empty : is_empty r ≡ false
    pub kind : as_kind r ≡ None
    pub text : as_text r ≡ None
    pub number : as_number r ≡ None
    pub role : role_of r ≡ roles.Nothing
    pub texts : as_texts r ≡ None
    pub geometries : as_geometries r ≡ Some (both_forms least)
    pub features : as_features r ≡ Some (both_forms least)

  pub array_scalar : (r : GeoAtom) (at least : ℕ) (ts : Trees) → IsArrayAtom r at least → IsScalar asked r (array at ts)
  array_scalar r at least ts k = record { is_null = k.null; is_empty = λ e. absurd (true≢false (sym e ∙ k.empty)); kind = k.kind; text = k.text }

  -- ---- arrays that are no coordinates

  module _ (at : ℕ) (ts : Trees) where
    abbrev whole : Tree
    whole = array at ts

    -- the roles as coordinates but that of a number
    pub record AreForms (r : GeoAtom) : Type 0 where
      pub position : Alike (IsPosition asked) (as_position r) (position_of whole)
      pub points : Alike (IsPoints asked) (as_points r) (positions_of whole)
      pub lists : Alike (IsLists asked) (as_lists r) (lists_of whole)
      pub area : Alike (IsArea asked) (as_area r) (area_of whole)
      pub areas : Alike (IsAreas asked) (as_areas r) (areas_of whole)

    pub record HasNoForm : Type 0 where
      pub position : position_of whole ≡ None
      pub points : positions_of whole ≡ None
      pub lists : lists_of whole ≡ None
      pub area : area_of whole ≡ None
      pub areas : areas_of whole ≡ None

    pub forms_none : (r : GeoAtom) → as_position r ≡ None → as_points r ≡ None → as_lists r ≡ None → as_area r ≡ None → as_areas r ≡ None → HasNoForm → AreForms r
    forms_none r p q l a1 a2 f = record {
      position = subst (λ o. Alike (IsPosition asked) o (position_of whole)) (sym p) (alike_at (IsPosition asked) None None (position_of whole) f.position tt);
      points = subst (λ o. Alike (IsPoints asked) o (positions_of whole)) (sym q) (alike_at (IsPoints asked) None None (positions_of whole) f.points tt);
      lists = subst (λ o. Alike (IsLists asked) o (lists_of whole)) (sym l) (alike_at (IsLists asked) None None (lists_of whole) f.lists tt);
      area = subst (λ o. Alike (IsArea asked) o (area_of whole)) (sym a1) (alike_at (IsArea asked) None None (area_of whole) f.area tt);
      areas = subst (λ o. Alike (IsAreas asked) o (areas_of whole)) (sym a2) (alike_at (IsAreas asked) None None (areas_of whole) f.areas tt);
    }

    pub items_read : (m : ItemsAtom) → m.at ≡ at → HasNoForm → HasShape (needs_shapes asked.query) m.items.value.geometries (items_reading asked.digits asked.how ts)
        → HasPart asked.query m.items.value.features (items_features asked ts) → IsRead asked (atoms.Items m) whole
    items_read m k f g p = let forms = forms_none (atoms.Items m) refl refl refl refl refl f in record {
      at = k;
      single = refl;
      scalar = record { is_null = refl; is_empty = λ e. absurd (true≢false (sym e)); kind = refl; text = refl };
      coordinates = record { number = tt; position = forms.position; points = forms.points; lists = forms.lists; area = forms.area; areas = forms.areas };
      items = record { geometries = g; features = λ _. p };
      object = plain_object (atoms.Items m) at ts k refl refl;
    }

  -- ---- an array of nothing

  pub empty_read : (at : ℕ) → IsRead asked (atoms.Empty at) (array at no_trees)
  empty_read at = record {
    at = refl;
    single = refl;
    scalar = record { is_null = refl; is_empty = λ e. refl; kind = refl; text = refl };
    coordinates = record {
      number = tt;
      position = tt;
      points = record { as_points = refl; as_line = refl; as_ring = refl; path = λ _. kept_nil (needs_shapes asked.query) };
      lists = record { as_lines = refl; as_rings = refl; lines = λ _. kept_nil (needs_shapes asked.query); rings = λ _. kept_nil (needs_shapes asked.query) };
      area = tt;
      areas = record { fault = refl; polygons = λ _. kept_nil (needs_shapes asked.query) };
    };
    items = record { geometries = (refl, kept_empty (needs_shapes asked.query)); features = λ e. absurd (true≢false e) };
    object = plain_object (atoms.Empty at) at no_trees refl refl refl;
  }

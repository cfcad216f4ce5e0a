-- Geometries of a type and of coordinates that are read at once. For `value`.
use Rattle.std.proofs.Common.{◌≡◌, inr, ℕ, ◌+◌, ◌<◌, true, false, List, [], ◌∷◌, length, slice_index, Some, None, Result, refl, sym, ◌∙◌, ap, subst, arith}
use Rattle.std.proofs.lemmas.Bool.{true≢false}
use Rattle.std.specs.declared.alloc.Global.{Global}
use Rattle.at_text.specs.declared.faults.Fault.{Fault}
use Rattle.at_geom.specs.declared.shapes.Shape.{Shape}
use Rattle.at_nest.specs.declared.algebra.Member.{Member}
use Rattle.at_scan.specs.declared.kinds.Kind.{Kind}
use Rattle.at_scan.specs.declared.fields.Field.{Field}
use Rattle.at_scan.specs.declared.members.FieldName.{FieldName}
use Rattle.at_scan.specs.declared.known_names.KindRead.{KindRead}
use Rattle.at_scan.specs.declared.kinds.Kind.TheVariants as kinds
use Rattle.at_scan.specs.declared.fields.Field.TheVariants as names
use Rattle.at_scan.specs.Places.{IsNameAt}
use Rattle.at_scan.specs.Fields.{field_of, is_kind, is_coordinates}
use Rattle.at_scan.specs.Members.{name_in, IsPlainName}
use Rattle.at_query.specs.Keeping.{Asked, needs_shapes}
use Rattle.at_geojson.specs.declared.atoms.atom.GeoAtom.{GeoAtom}
use Rattle.at_geojson.specs.declared.atoms.atom.GeoAtom.TheVariants as atoms
use Rattle.at_geojson.specs.declared.atoms.atom.ObjectAtom.{ObjectAtom}
use Rattle.at_geojson.specs.declared.atoms.atom.Role.TheVariants as roles
use Rattle.at_geojson.specs.declared.objects.fields.Fields.{Fields}
use Rattle.at_geojson.specs.declared.coordinates.pairs.Whole.{Whole}
use Rattle.at_geojson.specs.declared.at_once.plain_geometries.ShapeRead.{ShapeRead}
use Rattle.at_geojson.specs.Atoms.{IfOwnShape}
use Rattle.at_geojson.specs.Gathering.{is_among, member_twins}
use Rattle.at_geojson.specs.Objects.{coordinates_shape, kept_texts}
use Rattle.at_geojson.specs.Fields.{AreFields, IsRoleIn}
use Rattle.at_geojson.specs.Members.{EndsFields}
use Rattle.at_geojson.specs.PlainGeometries.{IsKindRead, has_coordinates, IsCoordinatesItem, IsGeometryRead}
use Rattle.at_geojson.proofs.FieldFolds.{field_absent, fields_more}
use Rattle.at_geojson.proofs.ObjectOwns.{own_coordinates}
use Rattle.at_geojson.proofs.ValueParts.{member_of, members_begin, members_go_on, object_read}
use Rattle.at_geojson.proofs.ProofOnly.{boxed}
use Rattle.at_geojson.proofs.MemberReads.{no_twin_more, ends_fields}

-- ---- geometries

abbrev pub no_fields : Fields
no_fields = record { kind = None; coordinates = None; geometry = None; properties = None; features = None; geometries = None }

pub none_are : AreFields no_fields []
none_are = record { kind = refl; coordinates = refl; geometry = refl; properties = refl; features = refl; geometries = refl }

pub is_kind_field : (field : Field) → is_kind field ≡ true → field ≡ names.Kind
is_kind_field names.Kind e = refl
is_kind_field _ e = absurd (true≢false (sym e))

pub is_coordinates_field : (field : Field) → is_coordinates field ≡ true → field ≡ names.Coordinates
is_coordinates_field names.Coordinates e = refl
is_coordinates_field _ e = absurd (true≢false (sym e))

module _ (asked : Asked) (alloc : Global) where
  role_with : (at : ℕ) (kind : Kind) (f : Fields) (shape : Result Shape Fault) → has_coordinates kind ≡ true → shape ≡ coordinates_shape (needs_shapes asked.query) at kind f.coordinates → IsRoleIn asked.query at (Some kind) f (roles.Geometry shape)
  role_with at kinds.FeatureCollection f shape e same = absurd (true≢false (sym e))
  role_with at kinds.Feature f shape e same = absurd (true≢false (sym e))
  role_with at kinds.GeometryCollection f shape e same = absurd (true≢false (sym e))
  role_with at _ f shape e same = ap roles.Geometry same

  module _ (base : ℕ) (w : List ℕ) where
    -- an object of a kind and of coordinates, as a geometry
    pub geometry_read : (at : ℕ) (n m : FieldName) (k : KindRead) (c : ShapeRead) → at < length w → slice_index w at ≡ 0x7B
        → IsNameAt w (at + 1) n.place → IsPlainName w n.place → n.field ≡ field_of (name_in w n.place) → is_kind n.field ≡ true
        → IsKindRead asked base w (n.place.colon + 1) k → k.end < length w → slice_index w k.end ≡ 0x2C
        → IsNameAt w (k.end + 1) m.place → IsPlainName w m.place → m.field ≡ field_of (name_in w m.place) → is_coordinates m.field ≡ true
        → IsCoordinatesItem asked base w (m.place.colon + 1) k.kind c → c.end < length w → slice_index w c.end ≡ 0x7D
        → IsGeometryRead asked base w at (record { end = c.end + 1; shape = c.shape })
    geometry_read at n m k c inside opens name plain same ek kind ki comma name2 plain2 same2 ec read ci closes =
        let p1 : Whole = record { end = k.end; atom = kind.atom } in
        let p2 : Whole = record { end = c.end; atom = read.atom } in
        let a : Member GeoAtom = member_of asked base w n.place (name_in w n.place) kind.atom in
        let b : Member GeoAtom = member_of asked base w m.place (name_in w m.place) read.atom in
        let f1 : Fields = record { kind = Some kind.atom; coordinates = None; geometry = None; properties = None; features = None; geometries = None } in
        let f2 : Fields = record { kind = Some kind.atom; coordinates = Some read.atom; geometry = None; properties = None; features = None; geometries = None } in
        let nk = is_kind_field n.field ek in
        let mc = is_coordinates_field m.field ec in
        let one : AreFields f1 (a ∷ []) = fields_more no_fields f1 [] a names.Kind (sym nk ∙ same) none_are refl refl refl refl refl refl in
        let two : AreFields f2 (a ∷ b ∷ []) = fields_more f1 f2 (a ∷ []) b names.Coordinates (sym mc ∙ same2) one refl refl refl refl refl refl in
        let before = members_go_on asked base w at (at + 1) [] n.place (name_in w n.place) p1 (omega arith) (members_begin asked base w at inside) name plain.units kind.item ki comma in
        let absent : is_among (a ∷ []) (name_in w m.place) ≡ false = field_absent names.Coordinates f1 (a ∷ []) (name_in w m.place) (sym mc ∙ same2) refl one refl in
        let twins : member_twins [] (a ∷ b ∷ []) ≡ None = no_twin_more [] (a ∷ []) b (no_twin_more [] [] a refl refl kind.no_twin) absent read.no_twin in
        let texts = kept_texts asked.query.tests (a ∷ b ∷ []) in
        let o : ObjectAtom = record { at = base + at; roles = boxed alloc (record { role = roles.Geometry c.shape; texts = texts }) } in
        let q : Whole = record { end = c.end + 1; atom = atoms.Object o } in
        let own : IfOwnShape asked c.shape = subst (IfOwnShape asked) (sym read.shape) (own_coordinates asked (base + at) k.kind (Some read.atom) read.item.own) in
        let fields : EndsFields asked (base + at) (c.end + 1) f2 texts q = record {
          behind = refl;
          own = own;
          made = inr (o, refl, refl, refl, subst (λ z. IsRoleIn asked.query (base + at) z f2 (roles.Geometry c.shape)) (sym kind.kind) (role_with (base + at) k.kind f2 c.shape read.with_coordinates read.shape));
        } in
        record {
          atom = atoms.Object o;
          whole = object_read asked base w at (k.end + 1) (a ∷ []) m.place (name_in w m.place) p2 q (omega (arith, name.before, name.text.0, name.behind, kind.item.order)) opens before name2 plain2.units read.item ci closes
              (ends_fields asked base w (base + at) (c.end + 1) f2 (a ∷ b ∷ []) texts q fields two twins refl);
          no_twin = refl;
          shape = refl;
          own = own;
        }

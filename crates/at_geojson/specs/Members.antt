-- The members of an object that is read at once. Only contracts of private functions cite this.
use Rattle.std.specs.Prelude.{◌≡◌, ℕ, ◌<◌, ◌≤◌, true, false, List, [], length, None}
use Rattle.at_fixed.specs.NumberSoFar.{between}
use Rattle.at_nest.specs.declared.algebra.Member.{Member}
use Rattle.at_nest.specs.Folds.{IsScalarText}
use Rattle.at_query.specs.declared.features.TextPair.{TextPair}
use Rattle.at_query.specs.Keeping.{Asked}
use Rattle.at_scan.specs.declared.fields.Field.{Field}
use Rattle.at_scan.specs.declared.members.FieldName.{FieldName}
use Rattle.at_scan.specs.declared.members.OtherNames.{OtherNames}
use Rattle.at_scan.specs.Members.{name_in, is_among_others, ArePlainOthers, AddsName}
use Rattle.at_scan.specs.Fields.{field_of, is_kind, is_coordinates, is_geometry, is_properties, is_features}
use Rattle.at_scan.specs.Fields.{is_geometries, is_no_field}
use Rattle.at_geojson.specs.declared.atoms.atom.GeoAtom.{GeoAtom}
use Rattle.at_geojson.specs.declared.atoms.atom.Role.TheVariants as roles
use Rattle.at_geojson.specs.declared.objects.fields.Fields.{Fields}
use Rattle.at_geojson.specs.declared.coordinates.pairs.Whole.{Whole}
use Rattle.at_geojson.specs.Atoms.{twin_of, as_run, role_of, IsOwn}
use Rattle.at_geojson.specs.Gathering.{is_among, member_twins, rank, sort_of}
use Rattle.at_geojson.specs.Fields.{put_if, value_in, AreFields, MakesFields}
use Rattle.at_geojson.specs.Values.{IsItem, AreMembersRead}

-- no member before has the name, which is put to the others where no kind asks for the member
pub record IsNewName (w : List ℕ) (fields : Fields) (old new : OtherNames) (n : FieldName) : Type 0 where
  pub other : is_no_field n.field ≡ true → (is_among_others w old (name_in w n.place) ≡ false)
      × AddsName w n.place old new
  pub field : is_no_field n.field ≡ false → (value_in n.field fields ≡ None) × (new ≡ old)

-- the atom of the fields and the texts of an object, and the place behind the bracket
pub record EndsFields (asked : Asked) (at end : ℕ) (fields : Fields) (texts : List TextPair) (p : Whole) : Type 0 where
  pub behind : p.end ≡ end
  pub own : IsOwn asked p.atom
  pub made : MakesFields asked.query at fields texts p.atom

-- a string, literal or number from the place to its end
abbrev pub IsScalarAt : List ℕ → ℕ → ℕ → Type 0
IsScalarAt w at end = (at < end) × (end ≤ length w) × IsScalarText (between w at end)

-- a value that has no role and is no coordinates but a number, and in which no object has equal names
pub record IsRoleless (a : GeoAtom) : Type 0 where
  pub no_twin : twin_of a ≡ None
  pub single : as_run a ≡ None
  pub no_role : role_of a ≡ roles.Nothing
  pub sort : rank (sort_of a) ≤ 1

-- such a value with white space round it, of which the place behind it alone is told
abbrev pub PassesItem : Asked → List ℕ → ℕ → ℕ → Type 0
PassesItem asked w at end = (base : ℕ) → (a : GeoAtom) × IsItem asked base w at (record { end = end; atom = a })
    × IsRoleless a

-- such a value as a member of an object, which is put in its place among the fields
pub record IsFieldRead (asked : Asked) (base : ℕ) (w : List ℕ) (at : ℕ) (field : Field) (old new : Fields) (end : ℕ)
    : Type 0 where
  pub atom : GeoAtom
  pub item : IsItem asked base w at (record { end = end; atom = atom })
  pub no_twin : twin_of atom ≡ None
  pub kind : new.kind ≡ put_if (is_kind field) old.kind atom
  pub coordinates : new.coordinates ≡ put_if (is_coordinates field) old.coordinates atom
  pub geometry : new.geometry ≡ put_if (is_geometry field) old.geometry atom
  pub properties : new.properties ≡ put_if (is_properties field) old.properties atom
  pub features : new.features ≡ put_if (is_features field) old.features atom
  pub geometries : new.geometries ≡ put_if (is_geometries field) old.geometries atom

-- between the members of an object: those before the place were read, and no name stands twice
pub record AreFieldsRead (asked : Asked) (base : ℕ) (w : List ℕ) (at place : ℕ) (others : OtherNames) (fields : Fields)
    : Type 0 where
  pub members : List (Member GeoAtom)
  pub read : AreMembersRead asked base w at place members
  pub are : AreFields fields members
  pub named : (name : List ℕ) → is_no_field (field_of name) ≡ true
      → is_among members name ≡ is_among_others w others name
  pub plain : ArePlainOthers w others
  pub no_twin : member_twins [] members ≡ None

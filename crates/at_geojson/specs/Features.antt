-- Features that are read at once: no atom is made of their members. Only contracts of private functions cite this.
use Rattle.std.specs.Prelude.{◌≡◌, ◌⊎◌, ℕ, ◌+◌, Bool, true, false, List, [], ◌∷◌, Option, Some, None, Result, Ok, Err}
use Rattle.std.specs.Bool.{⊤}
use Rattle.std.specs.List.{list_any}
use Rattle.at_text.specs.declared.faults.Fault.{Fault}
use Rattle.at_geom.specs.declared.shapes.Shape.{Shape}
use Rattle.at_geom.specs.Shapes.{IsShapeInRange}
use Rattle.at_query.specs.declared.query.queries.Query.{Query}
use Rattle.at_query.specs.declared.query.queries.Test.{Test}
use Rattle.at_query.specs.declared.features.TextPair.{TextPair}
use Rattle.at_query.specs.declared.answer.parts.Part.{Part}
use Rattle.at_query.specs.Parts.{IsPart}
use Rattle.at_query.specs.Keeping.{Asked, looks_at_texts}
use Rattle.at_scan.specs.declared.fields.Field.{Field}
use Rattle.at_scan.specs.declared.places.NamePlace.{NamePlace}
use Rattle.at_scan.specs.declared.members.FieldName.{FieldName}
use Rattle.at_scan.specs.declared.members.OtherNames.{OtherNames}
use Rattle.at_scan.specs.declared.kinds.Kind.TheVariants as kinds
use Rattle.at_scan.specs.declared.fields.Field.TheVariants as names
use Rattle.at_scan.specs.Members.{name_in}
use Rattle.at_query.specs.TextTests.{met_of, met_by, texts_hold}
use Rattle.at_geojson.specs.declared.atoms.atom.GeoAtom.{GeoAtom}
use Rattle.at_geojson.specs.declared.atoms.atom.GeoAtom.TheVariants as atoms
use Rattle.at_geojson.specs.declared.atoms.atom.ObjectAtom.{ObjectAtom}
use Rattle.at_geojson.specs.declared.atoms.atom.Role.TheVariants as roles
use Rattle.at_geojson.specs.declared.objects.fields.Fields.{Fields}
use Rattle.at_geojson.specs.declared.at_once.plain_geometries.ShapeRead.{ShapeRead}
use Rattle.at_geojson.specs.declared.at_once.plain_geometries.Seen.{Seen}
use Rattle.at_geojson.specs.declared.at_once.plain_geometries.Seen.TheVariants as seens
use Rattle.at_geojson.specs.declared.at_once.plain_objects.VoidMembers.{VoidMembers}
use Rattle.at_geojson.specs.declared.at_once.plain_objects.VoidRead.{VoidRead}
use Rattle.at_geojson.specs.declared.at_once.features.FeatureRead.{FeatureRead}
use Rattle.at_geojson.specs.declared.at_once.features.FeatureMembers.{FeatureMembers}
use Rattle.at_geojson.specs.declared.at_once.features.PropertiesRead.{PropertiesRead}
use Rattle.at_geojson.specs.Atoms.{twin_of, as_kind, as_text, IfOwnShape, IfOwnPart}
use Rattle.at_geojson.specs.Objects.{feature_shape, texts_in, texts_named, JoinsFeature}
use Rattle.at_geojson.specs.Fields.{kind_in_fields, value_in}
use Rattle.at_geojson.specs.Members.{IsNewName, IsRoleless, IsFieldRead, AreFieldsRead}
use Rattle.at_geojson.specs.PlainGeometries.{IsSeenOf, IsSeen}
use Rattle.at_geojson.specs.Values.{IsWhole, IsItem}

-- white space, a value as a geometry, and white space
pub record IsShapeRead (asked : Asked) (base : ℕ) (w : List ℕ) (at : ℕ) (p : ShapeRead) : Type 0 where
  pub atom : GeoAtom
  pub item : IsItem asked base w at (record { end = p.end; atom = atom })
  pub no_twin : twin_of atom ≡ None
  pub shape : feature_shape (Some atom) ≡ p.shape
  pub own : IfOwnShape asked p.shape

-- a value that has no role and is no coordinates but a number, and in which no object has equal names
abbrev pub PassesWhole : Asked → ℕ → List ℕ → ℕ → ℕ → Type 0
PassesWhole asked base w at end = (a : GeoAtom) × IsWhole asked base w at (record { end = end; atom = a }) × IsRoleless a

-- the same with white space round it
abbrev pub PassesPart : Asked → ℕ → List ℕ → ℕ → ℕ → Type 0
PassesPart asked base w at end = (a : GeoAtom) × IsItem asked base w at (record { end = end; atom = a }) × IsRoleless a

-- a value in which no object has equal names
abbrev pub PassesArray : Asked → ℕ → List ℕ → ℕ → ℕ → Type 0
PassesArray asked base w at end = (a : GeoAtom) × IsWhole asked base w at (record { end = end; atom = a })
    × (twin_of a ≡ None)

-- the same with white space round it
abbrev pub PassesOther : Asked → ℕ → List ℕ → ℕ → ℕ → Type 0
PassesOther asked base w at end = (a : GeoAtom) × IsItem asked base w at (record { end = end; atom = a })
    × (twin_of a ≡ None)

-- the texts of properties in which nothing is wrong, and whether all tests on texts hold of them
abbrev pub IsTested : List Test → Result (List TextPair) Fault → Bool → Type 0
IsTested tests r hold = (texts : List TextPair) × (r ≡ Ok texts) × (hold ≡ texts_hold tests texts)

-- the same of properties with white space round them
abbrev pub ReadsProperties : Asked → ℕ → List ℕ → ℕ → PropertiesRead → Type 0
ReadsProperties asked base w at p = (a : GeoAtom) × IsItem asked base w at (record { end = p.end; atom = a })
    × (twin_of a ≡ None) × IsTested asked.query.tests (texts_in a) p.hold

-- what is seen of a feature's shape, by the member `geometry`, where there is one
abbrev pub IsGeometryOf : Query → Option (Result Seen Fault) → Option GeoAtom → Type 0
IsGeometryOf query None o = o ≡ None
IsGeometryOf query (Some seen) o = IsSeen query (feature_shape o) seen

-- the fields say what the members of a feature say
pub record AreMembersOf (asked : Asked) (f : Fields) (m : FeatureMembers) : Type 0 where
  pub kind : m.is_feature ≡ true → kind_in_fields f ≡ Some kinds.Feature
  pub no_kind : m.is_feature ≡ false → f.kind ≡ None
  pub geometry : IsGeometryOf asked.query m.geometry f.geometry
  pub own : IfOwnShape asked (feature_shape f.geometry)
  pub texts : IsTested asked.query.tests (texts_named f.properties) m.hold
  pub no_properties : m.has_properties ≡ false → f.properties ≡ None

-- a member's value, where there was none, with white space round it; the fields are then such as are wanted
pub record IsValueRead (asked : Asked) (base : ℕ) (w : List ℕ) (at : ℕ) (field : Field) (f : Fields)
    (Are : Fields → Type 0) (end : ℕ) : Type 0 where
  pub absent : value_in field f ≡ None
  pub fields : Fields
  pub read : IsFieldRead asked base w at field f fields end
  pub are : Are fields

-- whatever the fields were that were such as the first say
abbrev pub ReadsValue : Asked → ℕ → List ℕ → ℕ → Field → (Fields → Type 0) → (Fields → Type 0) → ℕ → Type 0
ReadsValue asked base w at field Were Are end = (f : Fields) → Were f → IsValueRead asked base w at field f Are end

abbrev pub ReadsField : Asked → ℕ → List ℕ → ℕ → Field → FeatureMembers → FeatureMembers → ℕ → Type 0
ReadsField asked base w at field before after end = ReadsValue asked base w at field
    (λ f. AreMembersOf asked f before) (λ f. AreMembersOf asked f after) end

-- one member more, of a name that no member before has
pub record IsMemberRead (asked : Asked) (base : ℕ) (w : List ℕ) (n : FieldName) (f : Fields) (Are : Fields → Type 0)
    (old new : OtherNames) (end : ℕ) : Type 0 where
  pub fields : Fields
  pub read : IsFieldRead asked base w (n.place.colon + 1) n.field f fields end
  pub are : Are fields
  pub name : IsNewName w f old new n

abbrev pub ReadsOne : Asked → ℕ → List ℕ → FieldName → (Fields → Type 0) → (Fields → Type 0) → OtherNames → OtherNames
    → ℕ → Type 0
ReadsOne asked base w n Were Are old new end = (f : Fields) → Were f → IsMemberRead asked base w n f Are old new end

abbrev pub ReadsMember : Asked → ℕ → List ℕ → FieldName → FeatureMembers → FeatureMembers → OtherNames → OtherNames → ℕ
    → Type 0
ReadsMember asked base w n before after old new end = ReadsOne asked base w n (λ f. AreMembersOf asked f before)
    (λ f. AreMembersOf asked f after) old new end

-- between the members of an object: those before the place were read, and their fields are such as are wanted
pub record AreRead (asked : Asked) (base : ℕ) (w : List ℕ) (at place : ℕ) (others : OtherNames) (Are : Fields → Type 0)
    : Type 0 where
  pub fields : Fields
  pub read : AreFieldsRead asked base w at place others fields
  pub are : Are fields

-- ---- objects that name no kind

-- the fields name no kind; where there is no member `type` they have none
pub record NameNoKind (named : Bool) (f : Fields) : Type 0 where
  pub no_kind : kind_in_fields f ≡ None
  pub absent : named ≡ false → f.kind ≡ None

-- the value of a member of the name, with white space round it: so many more tests on texts are met
pub record MeetsTexts (asked : Asked) (base : ℕ) (w : List ℕ) (n : NamePlace) (old new : VoidMembers) (end : ℕ) : Type 0
  where
    pub atom : GeoAtom
    pub item : IsItem asked base w (n.colon + 1) (record { end = end; atom = atom })
    pub no_twin : twin_of atom ≡ None
    pub named : new.named ≡ old.named
    pub met : new.met ≡ old.met + met_of asked.query.tests (name_in w n) (as_text atom)

-- the same of the first member `type`, which names no kind
pub record NamesNoKind (asked : Asked) (base : ℕ) (w : List ℕ) (n : NamePlace) (old new : VoidMembers) (end : ℕ) : Type 0
  where
    pub atom : GeoAtom
    pub item : IsItem asked base w (n.colon + 1) (record { end = end; atom = atom })
    pub no_twin : twin_of atom ≡ None
    pub no_kind : as_kind atom ≡ None
    pub before : old.named ≡ false
    pub named : new.named ≡ true
    pub met : new.met ≡ old.met + met_of asked.query.tests (name_in w n) (as_text atom)

-- a member for which no kind asks, or the first member `type`, which names no kind, behind its name
abbrev pub PassesMember : Asked → ℕ → List ℕ → FieldName → VoidMembers → VoidMembers → ℕ → Type 0
PassesMember asked base w n old new end = ((n.field ≡ names.Other) × MeetsTexts asked base w n.place old new end)
    ⊎ ((n.field ≡ names.Kind) × NamesNoKind asked base w n.place old new end)

abbrev pub ReadsVoid : Asked → ℕ → List ℕ → FieldName → VoidMembers → VoidMembers → OtherNames → OtherNames → ℕ → Type 0
ReadsVoid asked base w n before after old new end = (f : Fields) → NameNoKind before.named f
    → (r : IsMemberRead asked base w n f (NameNoKind after.named) old new end)
    × (after.met ≡ before.met + met_of asked.query.tests (name_in w n.place) (as_text r.read.atom))

-- an object that names no kind from the place on, and how many tests on texts its texts meet
pub record IsTexted (asked : Asked) (base : ℕ) (w : List ℕ) (at : ℕ) (p : VoidRead) : Type 0 where
  pub atom : GeoAtom
  pub whole : IsWhole asked base w at (record { end = p.end; atom = atom })
  pub roleless : IsRoleless atom
  pub texts : List TextPair
  pub has : texts_in atom ≡ Ok texts
  pub met : p.met ≡ met_by asked.query.tests texts

-- ---- features

-- the part of the feature at the offset of whose shape this is seen, whatever its texts are, where all tests on texts
-- hold of them
abbrev pub IsPartOfSeen : Asked → ℕ → Seen → Part → Type 0
IsPartOfSeen asked at seen part = (shape : Shape) (texts : List TextPair) → IsSeenOf asked.query shape seen
    → texts_hold asked.query.tests texts ≡ true
    → IsPart asked.query (record { at = at; shape = shape; texts = texts } ∷ []) part

-- the same where all of them hold or not
abbrev pub IsPartHeld : Asked → ℕ → Seen → Bool → Part → Type 0
IsPartHeld asked at seen hold part = (shape : Shape) (texts : List TextPair) → IsSeenOf asked.query shape seen
    → hold ≡ texts_hold asked.query.tests texts
    → IsPart asked.query (record { at = at; shape = shape; texts = texts } ∷ []) part

-- the part of the feature at the offset, by what is seen of its geometry and whether all tests on texts hold
abbrev pub IsPartIn : Asked → ℕ → Option (Result Seen Fault) → Bool → Result Part Fault → Type 0
IsPartIn asked at geometry hold part = (o : Option GeoAtom) (texts : List TextPair)
    → IsGeometryOf asked.query geometry o → hold ≡ texts_hold asked.query.tests texts
    → JoinsFeature asked.query at (feature_shape o) (Ok texts) part

-- coordinates of what is seen are in range
abbrev pub IsOwnSeen : Seen → Type 0
IsOwnSeen (seens.Measured part) = ⊤
IsOwnSeen (seens.Shape g) = IsShapeInRange g

abbrev pub IfOwnGeometry : Option (Result Seen Fault) → Type 0
IfOwnGeometry None = ⊤
IfOwnGeometry (Some (Ok seen)) = IsOwnSeen seen
IfOwnGeometry (Some (Err fault)) = ⊤

-- the part of a feature at the offset, and the place behind the bracket
pub record EndsFeature (asked : Asked) (at end : ℕ) (m : FeatureMembers) (p : FeatureRead) : Type 0 where
  pub behind : p.end ≡ end
  pub is_feature : m.is_feature ≡ true
  pub part : IsPartIn asked at m.geometry m.hold p.part

-- a feature from the place on, told by the atom that keeps its part and such texts, whatever they are
pub record IsFeatureRead (asked : Asked) (base : ℕ) (w : List ℕ) (at : ℕ) (p : FeatureRead) : Type 0 where
  pub own : IfOwnPart asked p.part
  pub texts : List TextPair
  pub no_texts : list_any looks_at_texts asked.query.tests ≡ false → texts ≡ []
  pub whole : (o : ObjectAtom) → o.at ≡ base + at → o.roles.value.role ≡ roles.Feature p.part
      → o.roles.value.texts ≡ texts → IsWhole asked base w at (record { end = p.end; atom = atoms.Object o })

-- Members that are read at once: their names are plain and differ, and what is made of their fields is what is made of them.
-- For `value`.
use Rattle.std.proofs.Common.{◌≡◌, ℕ, ◌+◌, ◌<◌, Bool, true, false, ◌||◌, if◌then◌else◌, bytes_eq, List, [], ◌∷◌, ◌++◌, length, slice_index, Option, Some, None, is_some, refl, sym, ◌∙◌, ap, subst, append-nil, append_assoc}
use Rattle.std.specs.List.{list_any}
use Rattle.std.proofs.lemmas.Bool.{true≢false}
use Rattle.std.proofs.Math.Bool.{or-false}
use Rattle.std.proofs.lemmas.List.Folds.{list_any-append}
use Rattle.at_text.specs.Faults.{first_fault}
use Rattle.at_nest.specs.declared.algebra.Member.{Member}
use Rattle.at_query.specs.declared.query.queries.Test.{Test}
use Rattle.at_query.specs.declared.query.queries.Test.TheVariants.{InBox, MeetsShape, Has}
use Rattle.at_query.specs.declared.features.TextPair.{TextPair}
use Rattle.at_query.specs.Keeping.{Asked, looks_at_texts, asks_pair}
use Rattle.at_text.proofs.FaultOrder.{none_right}
use Rattle.at_scan.specs.declared.fields.Field.{Field}
use Rattle.at_scan.specs.declared.places.NamePlace.{NamePlace}
use Rattle.at_scan.specs.declared.members.FieldName.{FieldName}
use Rattle.at_scan.specs.declared.members.OtherNames.{OtherNames}
use Rattle.at_scan.specs.declared.fields.Field.TheVariants as variants
use Rattle.at_scan.specs.Places.{IsNameAt}
use Rattle.at_scan.specs.Fields.{field_of, is_kind, is_coordinates, is_geometry, is_properties, is_features, is_geometries, is_no_field}
use Rattle.at_scan.specs.Members.{name_in, IsPlainName, is_among_others, ArePlainOthers}
use Rattle.at_scan.proofs.FieldNames.{unlike_field}
use Rattle.at_geojson.specs.declared.atoms.atom.GeoAtom.{GeoAtom}
use Rattle.at_geojson.specs.declared.objects.fields.Fields.{Fields}
use Rattle.at_geojson.specs.declared.coordinates.pairs.Whole.{Whole}
use Rattle.at_geojson.specs.Atoms.{twin_of, as_text}
use Rattle.at_geojson.specs.Gathering.{is_among, twin_at, member_twins}
use Rattle.at_geojson.specs.Objects.{kept_texts, pair_kept}
use Rattle.at_geojson.specs.Fields.{put_if, AreFields}
use Rattle.at_geojson.specs.Values.{IsItem, EndsObject}
use Rattle.at_geojson.specs.Members.{IsNewName, PassesItem, IsFieldRead, EndsFields, AreFieldsRead}
use Rattle.at_geojson.proofs.Each.{none_left, none_behind}
use Rattle.at_geojson.proofs.FieldFolds.{field_absent, fields_more, object_of_fields}
use Rattle.at_geojson.proofs.ObjectReads.{object_folds}
use Rattle.at_geojson.proofs.ValueParts.{member_of, members_begin, members_go_on}

-- ---- names

among_more : (ms : List (Member GeoAtom)) (m : Member GeoAtom) (name : List ℕ) → is_among (ms ++ m ∷ []) name ≡ (is_among ms name || bytes_eq name m.name)
among_more ms m name = list_any-append (λ (x : Member GeoAtom). bytes_eq name x.name) ms (m ∷ []) ∙ ap (λ b. is_among ms name || b) (or-false (bytes_eq name m.name))

-- the names before a place that are kept are those of its members for which no kind asks
abbrev pub KeepsOthers : List ℕ → List (Member GeoAtom) → OtherNames → Type 0
KeepsOthers w ms others = (name : List ℕ) → is_no_field (field_of name) ≡ true → is_among ms name ≡ is_among_others w others name

pub no_twin_more : (earlier ms : List (Member GeoAtom)) (m : Member GeoAtom) → member_twins earlier ms ≡ None → is_among (earlier ++ ms) m.name ≡ false → twin_of m.value ≡ None → member_twins earlier (ms ++ m ∷ []) ≡ None
no_twin_more earlier [] m e new value = none_right (twin_at (is_among earlier m.name) m) ∙ (ap (λ b. twin_at b m) (ap (λ z. is_among z m.name) (sym (append-nil earlier)) ∙ new) ∙ value)
no_twin_more earlier (x ∷ ms) m e new value =
    let first = twin_at (is_among earlier x.name) x in
    ap (λ o. first_fault o (member_twins (earlier ++ x ∷ []) (ms ++ m ∷ []))) (none_left first (member_twins (earlier ++ x ∷ []) ms) e)
    ∙ no_twin_more (earlier ++ x ∷ []) ms m (none_behind first (member_twins (earlier ++ x ∷ []) ms) e) (ap (λ z. is_among z m.name) (append_assoc earlier (x ∷ []) ms) ∙ new) value

pub none_there : {X : Type 0} (o : Option X) (b : Bool) → b ≡ is_some o → b ≡ false → o ≡ None
none_there None b e f = refl
none_there (Some x) b e f = absurd (true≢false (sym e ∙ f))

pub no_twin_in : (a : GeoAtom) (b : Bool) → b ≡ is_some (twin_of a) → b ≡ false → twin_of a ≡ None
no_twin_in a b e f = none_there (twin_of a) b e f

module _ (w : List ℕ) (fields : Fields) (old new : OtherNames) (n : FieldName) (ms : List (Member GeoAtom)) where
  pub name_absent : KeepsOthers w ms old → AreFields fields ms → n.field ≡ field_of (name_in w n.place) → IsNewName w fields old new n → is_among ms (name_in w n.place) ≡ false
  name_absent h are same is_new = go (is_no_field n.field) refl where
    go : (b : Bool) → is_no_field n.field ≡ b → is_among ms (name_in w n.place) ≡ false
    go true e = h (name_in w n.place) (ap is_no_field (sym same) ∙ e) ∙ (is_new.other e).0
    go false e = field_absent n.field fields ms (name_in w n.place) same e are (is_new.field e).0

  pub keeps_more : (m : Member GeoAtom) → m.name ≡ name_in w n.place → KeepsOthers w ms old → n.field ≡ field_of (name_in w n.place) → IsNewName w fields old new n → KeepsOthers w (ms ++ m ∷ []) new
  keeps_more m named h same is_new name unasked =
      among_more ms m name ∙ (ap (λ z. is_among ms name || bytes_eq name z) named ∙ (ap (λ b. b || bytes_eq name (name_in w n.place)) (h name unasked) ∙ go (is_no_field n.field) refl)) where
        go : (b : Bool) → is_no_field n.field ≡ b → (is_among_others w old name || bytes_eq name (name_in w n.place)) ≡ is_among_others w new name
        go true e = sym ((is_new.other e).1.names name)
        go false e = ap (λ b. is_among_others w old name || b) (unlike_field name (name_in w n.place) unasked (ap is_no_field (sym same) ∙ e)) ∙ (or-false (is_among_others w old name) ∙ ap (λ o. is_among_others w o name) (sym (is_new.field e).1))

  pub plain_more : ArePlainOthers w old → IsPlainName w n.place → IsNewName w fields old new n → ArePlainOthers w new
  plain_more h plain is_new = go (is_no_field n.field) refl where
    go : (b : Bool) → is_no_field n.field ≡ b → ArePlainOthers w new
    go true e = (is_new.other e).1.plain h plain
    go false e = subst (ArePlainOthers w) (sym (is_new.field e).1) h

-- ---- texts for which no test asks

no_pair : (tests : List Test) (name value : List ℕ) → list_any looks_at_texts tests ≡ false → asks_pair tests name value ≡ false
no_pair [] name value e = refl
no_pair (InBox x ∷ tests) name value e = no_pair tests name value e
no_pair (MeetsShape x ∷ tests) name value e = no_pair tests name value e
no_pair (Has n v ∷ tests) name value e = absurd (true≢false e)

pair_left : (tests : List Test) (name : List ℕ) (rest : List TextPair) (o : Option (List ℕ)) → list_any looks_at_texts tests ≡ false → rest ≡ [] → pair_kept tests name o rest ≡ []
pair_left tests name rest None e none = none
pair_left tests name rest (Some value) e none = ap (λ b. if b then record { name = name; value = value } ∷ rest else rest) (no_pair tests name value e) ∙ none

pub no_texts : (tests : List Test) (ms : List (Member GeoAtom)) → list_any looks_at_texts tests ≡ false → kept_texts tests ms ≡ []
no_texts tests [] e = refl
no_texts tests (m ∷ ms) e = pair_left tests m.name (kept_texts tests ms) (as_text m.value) e (no_texts tests ms e)

-- ---- objects

module _ (asked : Asked) (base : ℕ) (w : List ℕ) where
  abbrev pub fields_begin : (at : ℕ) (others : OtherNames) (fields : Fields) → at < length w → AreFields fields [] → ArePlainOthers w others → ((name : List ℕ) → is_among_others w others name ≡ false) → AreFieldsRead asked base w at (at + 1) others fields
  fields_begin at others fields h are plain none = record { members = []; read = members_begin asked base w at h; are = are; named = λ name _. sym (none name); plain = plain; no_twin = refl }

  -- what is known of the members with one more of them
  pub record LongerFields (at place : ℕ) (old new : OtherNames) (fields : Fields) (n : NamePlace) (p : Whole) (longer : Fields) : Type 0 where
    pub before : AreFieldsRead asked base w at place old fields
    pub plain : IsPlainName w n
    pub absent : is_among before.members (name_in w n) ≡ false
    pub value : twin_of p.atom ≡ None
    pub are : AreFields longer (before.members ++ member_of asked base w n (name_in w n) p.atom ∷ [])
    pub named : KeepsOthers w (before.members ++ member_of asked base w n (name_in w n) p.atom ∷ []) new
    pub others : ArePlainOthers w new

  -- of a member that was put into the fields
  abbrev pub longer_fields : (at place : ℕ) (old new : OtherNames) (fields : Fields) (n : FieldName) (p : Whole) (longer : Fields) (before : AreFieldsRead asked base w at place old fields) → IsPlainName w n.place
      → n.field ≡ field_of (name_in w n.place) → IsNewName w fields old new n → twin_of p.atom ≡ None
      → longer.kind ≡ put_if (is_kind n.field) fields.kind p.atom
      → longer.coordinates ≡ put_if (is_coordinates n.field) fields.coordinates p.atom
      → longer.geometry ≡ put_if (is_geometry n.field) fields.geometry p.atom
      → longer.properties ≡ put_if (is_properties n.field) fields.properties p.atom
      → longer.features ≡ put_if (is_features n.field) fields.features p.atom
      → longer.geometries ≡ put_if (is_geometries n.field) fields.geometries p.atom
      → LongerFields at place old new fields n.place p longer
  longer_fields at place old new fields n p longer before plain field_is is_new none e0 e1 e2 e3 e4 e5 =
      let m : Member GeoAtom = member_of asked base w n.place (name_in w n.place) p.atom in
      record {
        before = before;
        plain = plain;
        absent = name_absent w fields old new n before.members before.named before.are field_is is_new;
        value = none;
        are = fields_more fields longer before.members m n.field field_is before.are e0 e1 e2 e3 e4 e5;
        named = keeps_more w fields old new n before.members m refl before.named field_is is_new;
        others = plain_more w fields old new n before.members before.plain plain is_new;
      }

  -- of one that was passed over nothing is put there
  pub field_passed : (at end : ℕ) (field : Field) (fields : Fields) → field ≡ variants.Other → PassesItem asked w at end → IsFieldRead asked base w at field fields fields end
  field_passed at end field fields e pass = let (a, item, plain) = pass base in
      subst (λ z. IsFieldRead asked base w at z fields fields end) (sym e) (record { atom = a; item = item; no_twin = plain.no_twin; kind = refl; coordinates = refl; geometry = refl; properties = refl; features = refl; geometries = refl })

  pub longer_twins : (at place : ℕ) (old new : OtherNames) (fields : Fields) (n : NamePlace) (p : Whole) (longer : Fields) (l : LongerFields at place old new fields n p longer) → member_twins [] (l.before.members ++ member_of asked base w n (name_in w n) p.atom ∷ []) ≡ None
  longer_twins at place old new fields n p longer l = no_twin_more [] l.before.members (member_of asked base w n (name_in w n) p.atom) l.before.no_twin l.absent l.value

  abbrev pub fields_go_on : (at place : ℕ) (old new : OtherNames) (fields : Fields) (n : NamePlace) (p : Whole) (longer : Fields) → at < place → LongerFields at place old new fields n p longer → IsNameAt w place n → IsItem asked base w (n.colon + 1) p
      → p.end < length w → slice_index w p.end ≡ 0x2C → AreFieldsRead asked base w at (p.end + 1) new longer
  fields_go_on at place old new fields n p longer h l name item inside byte =
      record {
        members = l.before.members ++ member_of asked base w n (name_in w n) p.atom ∷ [];
        read = members_go_on asked base w at place l.before.members n (name_in w n) p h l.before.read name l.plain.units item inside byte;
        are = l.are;
        named = l.named;
        plain = l.others;
        no_twin = longer_twins at place old new fields n p longer l;
      }

  -- the atom of the fields is that of the members
  pub ends_fields : (at end : ℕ) (f : Fields) (ms : List (Member GeoAtom)) (texts : List TextPair) (q : Whole) → EndsFields asked at end f texts q → AreFields f ms → member_twins [] ms ≡ None → texts ≡ kept_texts asked.query.tests ms → EndsObject asked at end ms q
  ends_fields at end f ms texts q ends are twins kept = record {
    behind = ends.behind;
    own = ends.own;
    fold = object_folds asked at ms q.atom twins (object_of_fields asked.query at f ms texts q.atom are kept ends.made);
  }

  pub ends_longer : (at place end : ℕ) (old new : OtherNames) (fields : Fields) (n : NamePlace) (p : Whole) (longer : Fields) (texts : List TextPair) (q : Whole) (l : LongerFields at place old new fields n p longer) → EndsFields asked (base + at) end longer texts q → texts ≡ kept_texts asked.query.tests (l.before.members ++ member_of asked base w n (name_in w n) p.atom ∷ [])
      → EndsObject asked (base + at) end (l.before.members ++ member_of asked base w n (name_in w n) p.atom ∷ []) q
  ends_longer at place end old new fields n p longer texts q l ends kept = ends_fields (base + at) end longer (l.before.members ++ member_of asked base w n (name_in w n) p.atom ∷ []) texts q ends l.are (longer_twins at place old new fields n p longer l) kept

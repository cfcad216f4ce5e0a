-- Objects that are read at once, of whose members no atom is made: what is told of them is what the fields and the texts of
-- their atoms say. For `value` and `items`.
use Rattle.std.proofs.Common.{◌≡◌, inl, inr, ℕ, ◌+◌, ◌<◌, true, false, List, [], ◌∷◌, ◌++◌, length, slice_index, Some, None, Ok, refl, sym, ◌∙◌, ap, subst, arith}
use Rattle.std.specs.List.{list_any}
use denote.RawPtr.{null_ptr}
use Rattle.std.proofs.lemmas.Bool.{true≢false}
use Rattle.at_fixed.specs.NumberSoFar.{between}
use Rattle.at_lex.specs.Spans.{AreSpaces}
use Rattle.at_nest.specs.declared.algebra.Member.{Member}
use Rattle.at_query.specs.declared.features.TextPair.{TextPair}
use Rattle.at_query.specs.Keeping.{Asked, looks_at_texts}
use Rattle.at_scan.specs.declared.members.FieldName.{FieldName}
use Rattle.at_scan.specs.declared.members.OtherNames.{OtherNames}
use Rattle.at_scan.specs.declared.known_names.KindRead.{KindRead}
use Rattle.at_scan.specs.declared.kinds.Kind.TheVariants as kinds
use Rattle.at_scan.specs.declared.fields.Field.TheVariants as names
use Rattle.at_scan.specs.Places.{IsNameAt}
use Rattle.at_scan.specs.Fields.{field_of, is_kind, is_coordinates, is_geometry, is_properties, is_features, is_geometries, is_no_field}
use Rattle.at_scan.specs.Members.{name_in, IsPlainName, is_among_others, ArePlainOthers, AddsName, IsNextField}
use Rattle.at_query.specs.TextTests.{met_of, met_by, texts_hold}
use Rattle.at_query.proofs.TextCounts.{none_met}
use Rattle.at_geojson.specs.declared.atoms.atom.GeoAtom.{GeoAtom}
use Rattle.at_geojson.specs.declared.atoms.atom.GeoAtom.TheVariants as atoms
use Rattle.at_geojson.specs.declared.atoms.atom.Role.TheVariants as roles
use Rattle.at_geojson.specs.declared.objects.fields.Fields.{Fields}
use Rattle.at_geojson.specs.declared.at_once.plain_geometries.SeenRead.{SeenRead}
use Rattle.at_geojson.specs.declared.at_once.plain_objects.VoidMembers.{VoidMembers}
use Rattle.at_geojson.specs.declared.at_once.features.FeatureRead.{FeatureRead}
use Rattle.at_geojson.specs.declared.at_once.features.FeatureMembers.{FeatureMembers}
use Rattle.at_geojson.specs.declared.at_once.features.PropertiesRead.{PropertiesRead}
use Rattle.at_geojson.specs.declared.coordinates.pairs.Whole.{Whole}
use Rattle.at_geojson.specs.Atoms.{twin_of, as_text, IfOwnShape, IfOwnPart, IsOwnRole}
use Rattle.at_geojson.specs.Objects.{feature_shape, texts_in, texts_named, kept_texts, JoinsFeature}
use Rattle.at_geojson.specs.Fields.{put_if, value_in, kind_in_fields, IsRoleIn}
use Rattle.at_geojson.specs.Values.{IsWhole}
use Rattle.at_geojson.specs.Members.{IsRoleless, EndsFields}
use Rattle.at_geojson.specs.PlainGeometries.{IsKindRead, IsSeen, Sees}
use Rattle.at_geojson.specs.Features.{IsShapeRead, IsTested, ReadsProperties, IsGeometryOf, AreMembersOf, IsValueRead, IsMemberRead, ReadsOne, AreRead, NameNoKind, MeetsTexts, NamesNoKind, PassesMember, ReadsVoid, IsTexted, EndsFeature, IsFeatureRead}
use Rattle.at_geojson.proofs.FieldFolds.{own_feature}
use Rattle.at_geojson.proofs.ObjectOwns.{own_feature_shape}
use Rattle.at_geojson.proofs.ValueParts.{heap, member_of, object_read, void_read}
use Rattle.at_geojson.proofs.MemberReads.{fields_begin, LongerFields, longer_fields, fields_go_on, ends_fields, ends_longer}
use Rattle.at_geojson.proofs.GeometryReads.{no_fields, none_are}
use Rattle.at_geojson.proofs.TextReads.{met_more}

-- ---- the members of a feature

module _ (asked : Asked) (base : ℕ) (w : List ℕ) where
  module _ (at : ℕ) (old new : FeatureMembers) (f : Fields) (h : AreMembersOf asked f old) where
    pub kind_put : (k : KindRead) → IsKindRead asked base w at k → k.kind ≡ kinds.Feature → old.is_feature ≡ false → new.is_feature ≡ true → new.geometry ≡ old.geometry → new.has_properties ≡ old.has_properties → new.hold ≡ old.hold
        → IsValueRead asked base w at names.Kind f (λ g. AreMembersOf asked g new) k.end
    kind_put k r named e n g p held =
        let absent = h.no_kind e in
        record {
          absent = absent;
          fields = record { kind = Some r.atom; coordinates = f.coordinates; geometry = f.geometry; properties = f.properties; features = f.features; geometries = f.geometries };
          read = record { atom = r.atom; item = r.item; no_twin = r.no_twin; kind = sym (ap (λ o. put_if true o r.atom) absent); coordinates = refl; geometry = refl; properties = refl; features = refl; geometries = refl };
          are = record {
            kind = λ _. r.kind ∙ ap Some named;
            no_kind = λ no. absurd (true≢false (sym n ∙ no));
            geometry = subst (λ z. IsGeometryOf asked.query z f.geometry) (sym g) h.geometry;
            own = h.own;
            texts = subst (IsTested asked.query.tests (texts_named f.properties)) (sym held) h.texts;
            no_properties = λ no. h.no_properties (sym p ∙ no);
          };
        }

    pub geometry_put : (q : SeenRead) → Sees asked (IsShapeRead asked base w at) q → old.geometry ≡ None → new.geometry ≡ Some q.seen → new.is_feature ≡ old.is_feature → new.has_properties ≡ old.has_properties → new.hold ≡ old.hold
        → IsValueRead asked base w at names.Geometry f (λ g. AreMembersOf asked g new) q.end
    geometry_put q (s, r, behind, seen) e n k p held =
        let absent : f.geometry ≡ None = subst (λ z. IsGeometryOf asked.query z f.geometry) e h.geometry in
        subst (λ z. IsValueRead asked base w at names.Geometry f (λ g. AreMembersOf asked g new) z) behind
        (record {
          absent = absent;
          fields = record { kind = f.kind; coordinates = f.coordinates; geometry = Some r.atom; properties = f.properties; features = f.features; geometries = f.geometries };
          read = record { atom = r.atom; item = r.item; no_twin = r.no_twin; kind = refl; coordinates = refl; geometry = sym (ap (λ o. put_if true o r.atom) absent); properties = refl; features = refl; geometries = refl };
          are = record {
            kind = λ yes. h.kind (sym k ∙ yes);
            no_kind = λ no. h.no_kind (sym k ∙ no);
            geometry = subst (λ z. IsGeometryOf asked.query z (Some r.atom)) (sym n) (subst (λ z. IsSeen asked.query z q.seen) (sym r.shape) seen);
            own = subst (IfOwnShape asked) (sym r.shape) r.own;
            texts = subst (IsTested asked.query.tests (texts_named f.properties)) (sym held) h.texts;
            no_properties = λ no. h.no_properties (sym p ∙ no);
          };
        })

    pub properties_put : (q : PropertiesRead) → ReadsProperties asked base w at q → old.has_properties ≡ false → new.has_properties ≡ true → new.hold ≡ q.hold → new.is_feature ≡ old.is_feature → new.geometry ≡ old.geometry
        → IsValueRead asked base w at names.Properties f (λ g. AreMembersOf asked g new) q.end
    properties_put q (a, item, none, tested) e n held k g =
        let absent = h.no_properties e in
        record {
          absent = absent;
          fields = record { kind = f.kind; coordinates = f.coordinates; geometry = f.geometry; properties = Some a; features = f.features; geometries = f.geometries };
          read = record { atom = a; item = item; no_twin = none; kind = refl; coordinates = refl; geometry = refl; properties = sym (ap (λ o. put_if true o a) absent); features = refl; geometries = refl };
          are = record {
            kind = λ yes. h.kind (sym k ∙ yes);
            no_kind = λ no. h.no_kind (sym k ∙ no);
            geometry = subst (λ z. IsGeometryOf asked.query z f.geometry) (sym g) h.geometry;
            own = h.own;
            texts = subst (IsTested asked.query.tests (texts_in a)) (sym held) tested;
            no_properties = λ no. absurd (true≢false (sym n ∙ no));
          };
        }

  -- ---- the members of any object

  abbrev pub reading_begins : (at : ℕ) (others : OtherNames) (Are : Fields → Type 0) → at < length w → Are no_fields → ArePlainOthers w others → ((name : List ℕ) → is_among_others w others name ≡ false)
      → AreRead asked base w at (at + 1) others Are
  reading_begins at others Are inside are plain none = record { fields = no_fields; read = fields_begin asked base w at others no_fields inside none_are plain none; are = are }

  module _ (at place : ℕ) (old new : OtherNames) (Were Are : Fields → Type 0) (n : FieldName) (end : ℕ) (r : AreRead asked base w at place old Were)
      (plain : IsPlainName w n.place) (same : n.field ≡ field_of (name_in w n.place)) (reads : ReadsOne asked base w n Were Are old new end) where
    abbrev pub more : IsMemberRead asked base w n r.fields Are old new end
    more = reads r.fields r.are

    abbrev value : Whole
    value = record { end = end; atom = more.read.atom }

    abbrev longer : LongerFields asked base w at place old new r.fields n.place value more.fields
    longer = longer_fields asked base w at place old new r.fields n value more.fields r.read plain same more.name more.read.no_twin more.read.kind more.read.coordinates more.read.geometry more.read.properties more.read.features more.read.geometries

    abbrev pub reading_goes_on : at < place → IsNameAt w place n.place → end < length w → slice_index w end ≡ 0x2C → AreRead asked base w at (end + 1) new Are
    reading_goes_on h name inside byte = record {
      fields = more.fields;
      read = fields_go_on asked base w at place old new r.fields n.place value more.fields h longer name more.read.item inside byte;
      are = more.are;
    }

    abbrev pub all_members : List (Member GeoAtom)
    all_members = r.read.members ++ member_of asked base w n.place (name_in w n.place) more.read.atom ∷ []

    -- the texts that are kept of the object
    abbrev pub all_texts : List TextPair
    all_texts = kept_texts asked.query.tests all_members

    -- one member more, of a name that none before has
    pub last_met : met_by asked.query.tests all_texts ≡ met_by asked.query.tests (kept_texts asked.query.tests r.read.members) + met_of asked.query.tests (name_in w n.place) (as_text more.read.atom)
    last_met = met_more asked.query.tests r.read.members (member_of asked base w n.place (name_in w n.place) more.read.atom) longer.absent

    -- the object is what is made of the fields and the texts
    pub reading_ends : (q : Whole) → at < place → slice_index w at ≡ 0x7B → IsNameAt w place n.place → end < length w → slice_index w end ≡ 0x7D
        → EndsFields asked (base + at) (end + 1) more.fields all_texts q → IsWhole asked base w at q
    reading_ends q h opens name inside closes fields =
        object_read asked base w at place longer.before.members n.place (name_in w n.place) value q h opens longer.before.read name longer.plain.units more.read.item inside closes
        (ends_longer asked base w at place (end + 1) old new r.fields n.place value more.fields all_texts q longer fields refl)

  -- ---- objects that name no kind

  -- a member for which no kind asks
  pub other_passed : (n : FieldName) (before after : VoidMembers) (old new : OtherNames) (end : ℕ) → n.field ≡ names.Other → MeetsTexts asked base w n.place before after end → is_among_others w old (name_in w n.place) ≡ false → AddsName w n.place old new
      → ReadsVoid asked base w n before after old new end
  other_passed n before after old new end e r absent adds f h = (
    record {
      fields = f;
      read = record {
        atom = r.atom;
        item = r.item;
        no_twin = r.no_twin;
        kind = ap (λ z. put_if (is_kind z) f.kind r.atom) (sym e);
        coordinates = ap (λ z. put_if (is_coordinates z) f.coordinates r.atom) (sym e);
        geometry = ap (λ z. put_if (is_geometry z) f.geometry r.atom) (sym e);
        properties = ap (λ z. put_if (is_properties z) f.properties r.atom) (sym e);
        features = ap (λ z. put_if (is_features z) f.features r.atom) (sym e);
        geometries = ap (λ z. put_if (is_geometries z) f.geometries r.atom) (sym e);
      };
      are = subst (λ b. NameNoKind b f) (sym r.named) h;
      name = record { other = λ _. (absent, adds); field = λ no. absurd (true≢false (sym (ap is_no_field e) ∙ no)) };
    },
    r.met,
  )

  -- the first member `type`
  pub kind_passed : (n : FieldName) (before after : VoidMembers) (others : OtherNames) (end : ℕ) → n.field ≡ names.Kind → NamesNoKind asked base w n.place before after end → ReadsVoid asked base w n before after others others end
  kind_passed n before after others end e r f h =
      let absent = h.absent r.before in (
        record {
          fields = record { kind = Some r.atom; coordinates = f.coordinates; geometry = f.geometry; properties = f.properties; features = f.features; geometries = f.geometries };
          read = record {
            atom = r.atom;
            item = r.item;
            no_twin = r.no_twin;
            kind = sym (ap (λ o. put_if true o r.atom) absent) ∙ ap (λ z. put_if (is_kind z) f.kind r.atom) (sym e);
            coordinates = ap (λ z. put_if (is_coordinates z) f.coordinates r.atom) (sym e);
            geometry = ap (λ z. put_if (is_geometry z) f.geometry r.atom) (sym e);
            properties = ap (λ z. put_if (is_properties z) f.properties r.atom) (sym e);
            features = ap (λ z. put_if (is_features z) f.features r.atom) (sym e);
            geometries = ap (λ z. put_if (is_geometries z) f.geometries r.atom) (sym e);
          };
          are = record { no_kind = r.no_kind; absent = λ no. absurd (true≢false (sym r.named ∙ no)) };
          name = record { other = λ yes. absurd (true≢false (sym yes ∙ ap is_no_field e)); field = λ _. (ap (λ z. value_in z f) e ∙ absent, refl) };
        },
        r.met,
      )

  -- either of them, behind its name
  pub member_passed : (n : FieldName) (before after : VoidMembers) (old new : OtherNames) (end : ℕ) → PassesMember asked base w n before after end → IsNextField w old new n → ReadsVoid asked base w n before after old new end
  member_passed n before after old new end (inl (e, r)) next = let (absent, adds) = next.other (ap is_no_field e) in other_passed n before after old new end e r absent adds
  member_passed n before after old new end (inr (e, r)) next = subst (λ others. ReadsVoid asked base w n before after old others end) (sym (next.field (ap is_no_field e))) (kind_passed n before after old end e r)

  -- what is made of an object with these texts that names no kind
  abbrev texted_atom : ℕ → List TextPair → GeoAtom
  texted_atom at [] = atoms.Void at
  texted_atom at (p ∷ ps) = atoms.Object (record { at = at; roles = record { ptr = null_ptr; alloc = heap; value = record { role = roles.Nothing; texts = p ∷ ps } } })

  texted_roleless : (at : ℕ) (texts : List TextPair) → IsRoleless (texted_atom at texts)
  texted_roleless at [] = record { no_twin = refl; single = refl; no_role = refl; sort = omega arith }
  texted_roleless at (p ∷ ps) = record { no_twin = refl; single = refl; no_role = refl; sort = omega arith }

  texted_has : (at : ℕ) (texts : List TextPair) → texts_in (texted_atom at texts) ≡ Ok texts
  texted_has at [] = refl
  texted_has at (p ∷ ps) = refl

  texted_ends : (at end : ℕ) (f : Fields) (texts : List TextPair) → kind_in_fields f ≡ None → EndsFields asked at end f texts (record { end = end; atom = texted_atom at texts })
  texted_ends at end f [] e = record { behind = refl; own = tt; made = inl (e, refl, refl) }
  texted_ends at end f (p ∷ ps) e = record { behind = refl; own = tt; made = inr (_, refl, refl, refl, subst (λ z. IsRoleIn asked.query at z f roles.Nothing) (sym e) refl) }

  pub empty_texted : (at end : ℕ) → at < end → end < length w → slice_index w at ≡ 0x7B → slice_index w end ≡ 0x7D → AreSpaces (between w (at + 1) end) → IsTexted asked base w at (record { end = end + 1; met = 0 })
  empty_texted at end h inside opens closes spaces = record {
    atom = texted_atom (base + at) [];
    whole = void_read asked base w at end (record { end = end + 1; atom = texted_atom (base + at) [] }) h inside opens closes spaces
        (ends_fields asked base w (base + at) (end + 1) no_fields [] [] (record { end = end + 1; atom = texted_atom (base + at) [] }) (texted_ends (base + at) (end + 1) no_fields [] refl) none_are refl refl);
    roleless = texted_roleless (base + at) [];
    texts = [];
    has = refl;
    met = sym (none_met asked.query.tests);
  }

  module _ (at place : ℕ) (old new : OtherNames) (before after : VoidMembers) (n : FieldName) (end : ℕ) (r : AreRead asked base w at place old (NameNoKind before.named))
      (plain : IsPlainName w n.place) (same : n.field ≡ field_of (name_in w n.place)) (reads : ReadsVoid asked base w n before after old new end) (met : before.met ≡ met_by asked.query.tests (kept_texts asked.query.tests r.read.members)) where
    abbrev void_reads : ReadsOne asked base w n (NameNoKind before.named) (NameNoKind after.named) old new end
    void_reads f h = (reads f h).0

    void_met : after.met ≡ met_by asked.query.tests (all_texts at place old new (NameNoKind before.named) (NameNoKind after.named) n end r plain same void_reads)
    void_met = (reads r.fields r.are).1 ∙ (ap (λ z. z + met_of asked.query.tests (name_in w n.place) (as_text (reads r.fields r.are).0.read.atom)) met
        ∙ sym (last_met at place old new (NameNoKind before.named) (NameNoKind after.named) n end r plain same void_reads))

    pub void_goes_on : at < place → IsNameAt w place n.place → end < length w → slice_index w end ≡ 0x2C
        → (s : AreRead asked base w at (end + 1) new (NameNoKind after.named)) × (after.met ≡ met_by asked.query.tests (kept_texts asked.query.tests s.read.members))
    void_goes_on h name inside byte = (
      reading_goes_on at place old new (NameNoKind before.named) (NameNoKind after.named) n end r plain same void_reads h name inside byte,
      void_met,
    )

    pub void_ends : at < place → slice_index w at ≡ 0x7B → IsNameAt w place n.place → end < length w → slice_index w end ≡ 0x7D → IsTexted asked base w at (record { end = end + 1; met = after.met })
    void_ends h opens name inside closes =
        let m = (reads r.fields r.are).0 in
        let texts = all_texts at place old new (NameNoKind before.named) (NameNoKind after.named) n end r plain same void_reads in
        let q : Whole = record { end = end + 1; atom = texted_atom (base + at) texts } in
        record {
          atom = texted_atom (base + at) texts;
          whole = reading_ends at place old new (NameNoKind before.named) (NameNoKind after.named) n end r plain same void_reads q h opens name inside closes (texted_ends (base + at) (end + 1) m.fields texts m.are.no_kind);
          roleless = texted_roleless (base + at) texts;
          texts = texts;
          has = texted_has (base + at) texts;
          met = void_met;
        }

  -- ---- features

  pub no_members : (m : FeatureMembers) → m.is_feature ≡ false → m.geometry ≡ None → m.has_properties ≡ false → m.hold ≡ texts_hold asked.query.tests [] → AreMembersOf asked no_fields m
  no_members m k g p held = record {
    kind = λ yes. absurd (true≢false (sym yes ∙ k));
    no_kind = λ _. refl;
    geometry = subst (λ z. IsGeometryOf asked.query z None) (sym g) refl;
    own = own_feature_shape asked None tt;
    texts = ([], refl, held);
    no_properties = λ _. refl;
  }

  module _ (at end : ℕ) (m : FeatureMembers) (f : Fields) (texts : List TextPair) (h : AreMembersOf asked f m) (p : FeatureRead) (ends : EndsFeature asked (base + at) end m p) where
    joined : JoinsFeature asked.query (base + at) (feature_shape f.geometry) (Ok h.texts.0) p.part
    joined = ends.part f.geometry h.texts.0 h.geometry h.texts.2

    own : IfOwnPart asked p.part
    own = own_feature asked (base + at) (feature_shape f.geometry) (Ok h.texts.0) p.part joined

    joins : JoinsFeature asked.query (base + at) (feature_shape f.geometry) (texts_named f.properties) p.part
    joins = subst (λ z. JoinsFeature asked.query (base + at) (feature_shape f.geometry) z p.part) (sym h.texts.1) joined

    pub feature_read : (list_any looks_at_texts asked.query.tests ≡ false → texts ≡ []) → ((q : Whole) → EndsFields asked (base + at) end f texts q → IsWhole asked base w at q) → IsFeatureRead asked base w at p
    feature_read none read = record {
      own = own;
      texts = texts;
      no_texts = none;
      whole = λ o at_is role same. read (record { end = p.end; atom = atoms.Object o }) (record {
        behind = ends.behind;
        own = subst (IsOwnRole asked) (sym role) own;
        made = inr (o, refl, at_is, same, subst (λ z. IsRoleIn asked.query (base + at) z f o.roles.value.role) (sym (h.kind ends.is_feature)) (p.part, role, joins));
      });
    }

-- An object in every role, and its equal names.
-- For `object` and `value`.
use Rattle.std.proofs.Common.{◌≡◌, inl, inr, ℕ, Bool, true, false, codes, List, [], ◌∷◌, Option, Some, None, Result, Ok, Err, refl, sym, ◌∙◌, ap, subst}
use Rattle.std.proofs.lemmas.Bool.{true≢false}
use Rattle.std.proofs.lemmas.Option.{none-some}
use Rattle.at_text.specs.Faults.{first_of, fault_at}
use Rattle.at_text.specs.declared.faults.Fault.{Fault}
use Rattle.at_text.specs.declared.faults.FaultKind.TheVariants.{Form}
use Rattle.at_geom.specs.declared.shapes.Shape.{Shape}
use Rattle.at_nest.specs.declared.algebra.Member.{Member}
use Rattle.at_nest.specs.Folds.{AreMemberFolds}
use Rattle.at_nest.specs.Tree.{Tree, literal, number, text, array, object, Trees, no_trees, tree_and, Members}
use Rattle.at_query.specs.declared.answer.parts.Part.{Part}
use Rattle.at_query.specs.declared.features.TextPair.{TextPair}
use Rattle.at_query.specs.Keeping.{Asked, needs_shapes, asked_texts}
use Rattle.at_scan.specs.declared.kinds.Kind.{Kind}
use Rattle.at_scan.specs.declared.kinds.Kind.TheVariants as kinds
use Rattle.at_geojson.specs.declared.atoms.atom.GeoAtom.{GeoAtom}
use Rattle.at_geojson.specs.declared.atoms.atom.GeoAtom.TheVariants as atoms
use Rattle.at_geojson.specs.declared.atoms.atom.Role.{Role}
use Rattle.at_geojson.specs.declared.atoms.atom.Role.TheVariants as roles
use Rattle.at_geojson.specs.Names.{member_named, kind_of}
use Rattle.at_geojson.specs.Roles.{GeometryRead, Features, geometry_reading, item_reading, if_feature, root_reading, features_reading, root_of_kind, texts_of, lone_geometry, feature_of}
use Rattle.at_geojson.specs.Atoms.{role_geometry, role_item, twin_of, is_empty, as_features, array_trees, items_features, Alike, HasShape, HasPart, IsRoot, IsRead, IsFold}
use Rattle.at_geojson.specs.Gathering.{seen, member_twins}
use Rattle.at_geojson.specs.Objects.{value_named, kind_in, kept_texts, FeaturesSeen, IsRoleOf, MakesObject}
use Rattle.at_geojson.proofs.MemberFolds.{named, kind_is, twins_members, reads_members}
use Rattle.at_geojson.proofs.ObjectFolds.{texts_kept}
use Rattle.at_geojson.proofs.ObjectAnswers.{geometry_of_role, item_of_role}

abbrev has_items : Option Trees → Bool
has_items (Some no_trees) = false
has_items (Some (tree_and t ts)) = true
has_items None = true

module _ (asked : Asked) (at : ℕ) where
  features_nil : (t : Tree) → array_trees t ≡ Some no_trees → features_reading asked.digits asked.how at (Some t) ≡ record { features = []; faults = [] }
  features_nil (array i no_trees) e = refl
  features_nil (array i (tree_and u us)) e = absurd (true≢false (ap has_items e))
  features_nil _ e = absurd (true≢false (ap has_items e))

  features_seen : (o : Option (Result Part Fault)) (t : Tree) → Alike (λ r ts. HasPart asked.query r (items_features asked ts)) o (array_trees t)
      → HasPart asked.query (seen (Err (fault_at Form at)) (λ p. p) o) (features_reading asked.digits asked.how at (Some t))
  features_seen (Some r) (array i ts) h = h
  features_seen None (object i ms) h = refl
  features_seen None (text i cs) h = refl
  features_seen None (number i n) h = refl
  features_seen None (literal i l) h = refl
  features_seen _ _ h = absurd h

  features_is : (o : Option GeoAtom) (p : Option Tree) (r : Result Part Fault) → FeaturesSeen asked.query at o r → Alike (IsRead asked) o p → HasPart asked.query r (features_reading asked.digits asked.how at p)
  features_is None None r e h = subst (λ z. HasPart asked.query z (features_reading asked.digits asked.how at None)) (sym e) refl
  features_is (Some a) (Some t) r f h = go (is_empty a) refl where
    go : (b : Bool) → is_empty a ≡ b → HasPart asked.query r (features_reading asked.digits asked.how at (Some t))
    go true e = let (part, q, p) = f.0 e in subst (λ z. HasPart asked.query z (features_reading asked.digits asked.how at (Some t))) (sym q)
        (subst (HasPart asked.query (Ok part)) (sym (features_nil t (h.scalar.is_empty e))) (refl, p))
    go false e = subst (λ z. HasPart asked.query z (features_reading asked.digits asked.how at (Some t))) (sym (f.1 e)) (features_seen (as_features a) t (h.items.features e))
  features_is None (Some t) r f h = absurd h
  features_is (Some a) None r f h = absurd h

  module _ (xs : List (Member GeoAtom)) (ms : Members) (h : AreMemberFolds (IsRead asked) xs ms) where
    abbrev t : Tree
    t = object at ms

    lone : (g : Result Shape Fault) (r : GeometryRead) → root_reading asked.digits asked.how t ≡ lone_geometry at r → HasShape (needs_shapes asked.query) g r → IsRoot asked at (roles.Geometry g) t
    lone (Ok s) r e k = (feature_of at r [], e ∙ ap (λ z. record { features = feature_of at r [] ∷ []; faults = z }) k.0, refl, k.1, refl)
    lone (Err f) r e k = ap (λ (z : Features). first_of z.faults) e ∙ k

    geometry : (role : Role) (g : Result Shape Fault) → role ≡ roles.Geometry g → root_reading asked.digits asked.how t ≡ lone_geometry at (geometry_reading asked.digits asked.how t) → HasShape (needs_shapes asked.query) (role_geometry at role) (geometry_reading asked.digits asked.how t) → IsRoot asked at role t
    geometry role g e q k = subst (λ z. IsRoot asked at z t) (sym e) (lone g (geometry_reading asked.digits asked.how t) q (subst (λ z. HasShape (needs_shapes asked.query) (role_geometry at z) (geometry_reading asked.digits asked.how t)) e k))

    root : (kind : Option Kind) (role : Role) → kind_of ms ≡ kind → IsRoleOf asked.query at kind xs role → HasShape (needs_shapes asked.query) (role_geometry at role) (geometry_reading asked.digits asked.how t) → HasPart asked.query (role_item at role) (item_reading asked.digits asked.how t) → IsRoot asked at role t
    root None role k e g i = subst (λ z. IsRoot asked at z t) (sym e) (ap (λ z. (root_of_kind asked.digits asked.how at ms z).faults) k)
    root (Some kinds.FeatureCollection) role k (p, e, f) g i = subst (λ z. IsRoot asked at z t) (sym e) (subst (λ z. HasPart asked.query p (root_of_kind asked.digits asked.how at ms z)) (sym k)
        (features_is (value_named (codes "features") xs) (member_named (codes "features") ms) p f (named asked (codes "features") xs ms h)))
    root (Some kinds.Feature) role k (p, e, f) g i = subst (λ z. IsRoot asked at z t) (sym e) (subst (λ z. HasPart asked.query p (root_of_kind asked.digits asked.how at ms z)) (sym k)
        (subst (λ z. HasPart asked.query p (if_feature asked.digits asked.how at ms z)) k (subst (λ z. HasPart asked.query (role_item at z) (item_reading asked.digits asked.how t)) e i)))
    root _ role k e g i = geometry role _ e (ap (root_of_kind asked.digits asked.how at ms) k) g

    object_is : (role : Role) → IsRoleOf asked.query at (kind_in xs) xs role → (texts : List TextPair) → texts ≡ kept_texts asked.query.tests xs
        → HasShape (needs_shapes asked.query) (role_geometry at role) (geometry_reading asked.digits asked.how t) × HasPart asked.query (role_item at role) (item_reading asked.digits asked.how t) × IsRoot asked at role t × (texts ≡ asked_texts asked.query.tests (texts_of ms))
    object_is role f texts e =
        let k = kind_is asked xs ms h in
        let f2 = subst (λ z. IsRoleOf asked.query at z xs role) k f in
        let g = geometry_of_role asked at xs ms h (kind_of ms) role f2 in
        let i = item_of_role asked at xs ms h (kind_of ms) role f2 in
        (g, i, root (kind_of ms) role refl f2 g i, e ∙ texts_kept asked xs ms h)

    pub object_read : (r : GeoAtom) → MakesObject asked.query at xs r → IsRead asked r t
    object_read r (inl (k, e, q)) =
        let o = object_is roles.Nothing (subst (λ z. IsRoleOf asked.query at z xs roles.Nothing) (sym k) refl) [] (sym e) in
        subst (λ z. IsRead asked z t) (sym q) (record {
          at = refl;
          single = refl;
          scalar = record { is_null = refl; is_empty = λ b. absurd (true≢false (sym b)); kind = refl; text = refl };
          coordinates = record { number = tt; position = tt; points = tt; lists = tt; area = tt; areas = tt };
          items = record { geometries = tt; features = λ _. tt };
          object = record { geometry = o.0; item = o.1; texts = o.3; root = o.2 };
        })
    object_read r (inr m) =
        let o = object_is m.0.roles.value.role m.4 m.0.roles.value.texts m.3 in
        subst (λ z. IsRead asked z t) (sym m.1) (record {
          at = m.2;
          single = refl;
          scalar = record { is_null = refl; is_empty = λ b. absurd (true≢false (sym b)); kind = refl; text = refl };
          coordinates = record { number = tt; position = tt; points = tt; lists = tt; area = tt; areas = tt };
          items = record { geometries = tt; features = λ _. tt };
          object = record {
            geometry = subst (λ n. HasShape (needs_shapes asked.query) (role_geometry n m.0.roles.value.role) (geometry_reading asked.digits asked.how t)) (sym m.2) o.0;
            item = subst (λ n. HasPart asked.query (role_item n m.0.roles.value.role) (item_reading asked.digits asked.how t)) (sym m.2) o.1;
            texts = o.3;
            root = subst (λ n. IsRoot asked n m.0.roles.value.role t) (sym m.2) o.2;
          };
        })

  no_twin : (xs : List (Member GeoAtom)) (r : GeoAtom) → MakesObject asked.query at xs r → twin_of r ≡ None
  no_twin xs r (inl (k, e, q)) = ap twin_of q
  no_twin xs r (inr m) = ap twin_of m.1

  pub twin_object : (xs : List (Member GeoAtom)) (ms : Members) (fault : Fault) → AreMemberFolds (IsFold asked) xs ms → member_twins [] xs ≡ Some fault → IsFold asked (atoms.Twin fault) (object at ms)
  twin_object xs ms fault h e = record { twins = sym e ∙ twins_members asked xs ms h; read = λ z. absurd (none-some fault (sym z)) }

  pub object_folds : (xs : List (Member GeoAtom)) (r : GeoAtom) → member_twins [] xs ≡ None → MakesObject asked.query at xs r → (ms : Members) → AreMemberFolds (IsFold asked) xs ms → IsFold asked r (object at ms)
  object_folds xs r e m ms h = record { twins = no_twin xs r m ∙ (sym e ∙ twins_members asked xs ms h); read = λ _. object_read xs ms (reads_members asked xs ms [] h e) r m }

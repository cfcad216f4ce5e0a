-- An object in each role, from what its members are.
-- For `object` and `value`.
use Rattle.std.proofs.Common.{◌≡◌, ℕ, Bool, true, false, cond, if◌then◌else◌, codes, List, [], ◌∷◌, ◌++◌, Option, Some, None, Result, Ok, Err, refl, sym, ◌∙◌, ap, subst, append-nil}
use Rattle.std.proofs.lemmas.Bool.{true≢false}
use Rattle.at_text.specs.Faults.{first_fault, first_of, fault_at}
use Rattle.at_text.specs.declared.faults.Fault.{Fault}
use Rattle.at_text.specs.declared.faults.FaultKind.TheVariants.{Form}
use Rattle.at_text.proofs.FaultOrder.{first_of-append}
use Rattle.at_geom.specs.Shapes.{empty_shape}
use Rattle.at_geom.specs.declared.shapes.Shape.{Shape}
use Rattle.at_lex.specs.Strings.{Character, units_of}
use Rattle.at_lex.specs.Runs.{the_null, the_true, the_false}
use Rattle.at_nest.specs.declared.algebra.Member.{Member}
use Rattle.at_nest.specs.Folds.{AreMemberFolds}
use Rattle.at_nest.specs.Tree.{Tree, literal, number, text, array, object, Members, no_members, member_and, offset_of}
use Rattle.at_query.specs.declared.features.TextPair.{TextPair}
use Rattle.at_query.specs.declared.answer.parts.Part.{Part}
use Rattle.at_query.specs.Keeping.{Asked, needs_shapes, asks_value, asks_pair, asked_texts}
use Rattle.at_query.proofs.QueryFacts.{no_value, same_part}
use Rattle.at_scan.specs.declared.kinds.Kind.{Kind}
use Rattle.at_geojson.specs.declared.atoms.atom.GeoAtom.{GeoAtom}
use Rattle.at_geojson.specs.Names.{is_named, member_named, units_of_text}
use Rattle.at_geojson.specs.Roles.{GeometryRead, not_geometry, texts_of, properties_texts, properties_faults, feature_of, coordinates_reading, geometry_reading, items_reading, collection_reading, geometries_reading, geometry_member_reading, feature_reading}
use Rattle.at_geojson.specs.Atoms.{at_of, is_null, is_null_tree, as_texts, as_geometries, asked_text, asked_units, role_of, role_geometry, object_members, array_trees, Alike, HasShape, HasPart, IsRead}
use Rattle.at_geojson.specs.Gathering.{seen}
use Rattle.at_geojson.specs.Objects.{value_named, kind_shape, coordinates_shape, geometries_shape, feature_shape, texts_in, texts_named, pair_kept, kept_texts, JoinsFeature}
use Rattle.at_geojson.proofs.ArrayFolds.{kept_empty}

module _ (asked : Asked) where
  -- ---- texts

  text_case : (n : List ℕ) (units : List ℕ) (rest more : List TextPair) → rest ≡ asked_texts asked.query.tests more
      → pair_kept asked.query.tests n (asked_units asked.query.tests units) rest ≡ asked_texts asked.query.tests (record { name = n; value = units } ∷ more)
  text_case n units rest more e = go (asks_value asked.query.tests units) refl where
    go : (b : Bool) → asks_value asked.query.tests units ≡ b → pair_kept asked.query.tests n (asked_units asked.query.tests units) rest ≡ asked_texts asked.query.tests (record { name = n; value = units } ∷ more)
    go true h = ap (λ c. pair_kept asked.query.tests n (if c then Some units else None) rest) h ∙ ap (λ z. cond (asks_pair asked.query.tests n units) (record { name = n; value = units } ∷ z) z) e
    go false h = ap (λ c. pair_kept asked.query.tests n (if c then Some units else None) rest) h ∙ (e ∙ sym (ap (λ c. cond c (record { name = n; value = units } ∷ asked_texts asked.query.tests more) (asked_texts asked.query.tests more)) (no_value n units asked.query.tests h)))

  one_text : (name : List Character) (i : ℕ) (t : Tree) (ms : Members) (rest : List TextPair) → rest ≡ asked_texts asked.query.tests (texts_of ms)
      → pair_kept asked.query.tests (units_of name) (asked_text asked (units_of_text t)) rest ≡ asked_texts asked.query.tests (texts_of (member_and name i t ms))
  one_text name i (text j cs) ms rest e = text_case (units_of name) (units_of cs) rest (texts_of ms) e
  one_text name i _ ms rest e = e

  pub texts_kept : (xs : List (Member GeoAtom)) (ms : Members) → AreMemberFolds (IsRead asked) xs ms → kept_texts asked.query.tests xs ≡ asked_texts asked.query.tests (texts_of ms)
  texts_kept [] no_members h = refl
  texts_kept (x ∷ xs) (member_and name i t ms) (en, ei, r, rs) = ap (λ z. pair_kept asked.query.tests x.name z (kept_texts asked.query.tests xs)) r.scalar.text
      ∙ (ap (λ z. pair_kept asked.query.tests z (asked_text asked (units_of_text t)) (kept_texts asked.query.tests xs)) en ∙ one_text name i t ms (kept_texts asked.query.tests xs) (texts_kept xs ms rs))
  texts_kept [] (member_and name i t ms) h = absurd h
  texts_kept (x ∷ xs) no_members h = absurd h

  -- ---- coordinates and collections

  pub coordinates_is : (at : ℕ) (kind : Kind) → ((a : GeoAtom) (t : Tree) → IsRead asked a t → HasShape (needs_shapes asked.query) (kind_shape (needs_shapes asked.query) kind a) (coordinates_reading asked.digits asked.how at kind (Some t)))
      → (o : Option GeoAtom) (p : Option Tree) → Alike (IsRead asked) o p → HasShape (needs_shapes asked.query) (coordinates_shape (needs_shapes asked.query) at kind o) (coordinates_reading asked.digits asked.how at kind p)
  coordinates_is at kind each None None h = refl
  coordinates_is at kind each (Some a) (Some t) h = each a t h
  coordinates_is at kind each _ _ h = absurd h

  abbrev collection_of : ℕ → Option Tree → GeometryRead
  collection_of at None = not_geometry at
  collection_of at (Some t) = geometries_reading asked.digits asked.how at t

  collection_named : (at : ℕ) (ms : Members) → collection_reading asked.digits asked.how at ms ≡ collection_of at (member_named (codes "geometries") ms)
  collection_named at no_members = refl
  collection_named at (member_and name i t ms) = go (is_named (codes "geometries") name) refl (collection_named at ms) where
    go : (b : Bool) → is_named (codes "geometries") name ≡ b → collection_reading asked.digits asked.how at ms ≡ collection_of at (member_named (codes "geometries") ms)
        → collection_reading asked.digits asked.how at (member_and name i t ms) ≡ collection_of at (member_named (codes "geometries") (member_and name i t ms))
    go true e more = ap (λ c. if c then geometries_reading asked.digits asked.how at t else collection_reading asked.digits asked.how at ms) e ∙ sym (ap (λ c. collection_of at (if c then Some t else member_named (codes "geometries") ms)) e)
    go false e more = ap (λ c. if c then geometries_reading asked.digits asked.how at t else collection_reading asked.digits asked.how at ms) e ∙ (more ∙ sym (ap (λ c. collection_of at (if c then Some t else member_named (codes "geometries") ms)) e))

  geometries_seen : (at : ℕ) (o : Option (Result Shape Fault)) (t : Tree) → Alike (λ r ts. HasShape (needs_shapes asked.query) r (items_reading asked.digits asked.how ts)) o (array_trees t)
      → HasShape (needs_shapes asked.query) (seen (Err (fault_at Form at)) (λ r. r) o) (geometries_reading asked.digits asked.how at t)
  geometries_seen at (Some r) (array i ts) h = h
  geometries_seen at None (object i ms) h = refl
  geometries_seen at None (text i cs) h = refl
  geometries_seen at None (number i n) h = refl
  geometries_seen at None (literal i l) h = refl
  geometries_seen at _ _ h = absurd h

  collection_by : (at : ℕ) (o : Option GeoAtom) (p : Option Tree) → Alike (IsRead asked) o p → HasShape (needs_shapes asked.query) (geometries_shape at o) (collection_of at p)
  collection_by at None None h = refl
  collection_by at (Some a) (Some t) h = geometries_seen at (as_geometries a) t h.items.geometries
  collection_by at _ _ h = absurd h

  pub collection_is : (at : ℕ) (ms : Members) (o : Option GeoAtom) → Alike (IsRead asked) o (member_named (codes "geometries") ms) → HasShape (needs_shapes asked.query) (geometries_shape at o) (collection_reading asked.digits asked.how at ms)
  collection_is at ms o h = subst (HasShape (needs_shapes asked.query) (geometries_shape at o)) (sym (collection_named at ms)) (collection_by at o (member_named (codes "geometries") ms) h)

  -- ---- a feature

  not_null : (t : Tree) → is_null_tree t ≡ false → geometry_member_reading asked.digits asked.how (Some t) ≡ geometry_reading asked.digits asked.how t
  not_null (literal i the_null) e = absurd (true≢false e)
  not_null (literal i the_true) e = refl
  not_null (literal i the_false) e = refl
  not_null _ e = refl

  is_nothing : (t : Tree) → is_null_tree t ≡ true → geometry_member_reading asked.digits asked.how (Some t) ≡ record { shape = empty_shape; faults = [] }
  is_nothing (literal i the_null) e = refl
  is_nothing (literal i the_true) e = absurd (true≢false (sym e))
  is_nothing (literal i the_false) e = absurd (true≢false (sym e))
  is_nothing _ e = absurd (true≢false (sym e))

  pub feature_shape_is : (o : Option GeoAtom) (p : Option Tree) → Alike (IsRead asked) o p → HasShape (needs_shapes asked.query) (feature_shape o) (geometry_member_reading asked.digits asked.how p)
  feature_shape_is None None h = (refl, kept_empty (needs_shapes asked.query))
  feature_shape_is (Some a) (Some t) h = go (is_null a) refl where
    go : (b : Bool) → is_null a ≡ b → HasShape (needs_shapes asked.query) (feature_shape (Some a)) (geometry_member_reading asked.digits asked.how (Some t))
    go true e = subst (λ c. HasShape (needs_shapes asked.query) (if c then Ok empty_shape else role_geometry (at_of a) (role_of a)) (geometry_member_reading asked.digits asked.how (Some t))) (sym e)
        (subst (HasShape (needs_shapes asked.query) (Ok empty_shape)) (sym (is_nothing t (sym h.scalar.is_null ∙ e))) (refl, kept_empty (needs_shapes asked.query)))
    go false e = subst (λ c. HasShape (needs_shapes asked.query) (if c then Ok empty_shape else role_geometry (at_of a) (role_of a)) (geometry_member_reading asked.digits asked.how (Some t))) (sym e)
        (subst (HasShape (needs_shapes asked.query) (role_geometry (at_of a) (role_of a))) (sym (not_null t (sym h.scalar.is_null ∙ e))) h.object.geometry)
  feature_shape_is _ _ h = absurd h

  -- the texts that are asked for where there is no fault, and else the fault
  abbrev pub HasTexts : Result (List TextPair) Fault → Option Tree → Type 0
  HasTexts (Ok texts) p = (properties_faults p ≡ []) × (texts ≡ asked_texts asked.query.tests (properties_texts p))
  HasTexts (Err fault) p = first_of (properties_faults p) ≡ Some fault

  texts_seen : (at : ℕ) (o : Option (List TextPair)) (t : Tree) → at ≡ offset_of t → is_null_tree t ≡ false → Alike (λ kept ms. kept ≡ asked_texts asked.query.tests (texts_of ms)) o (object_members t)
      → HasTexts (seen (Err (fault_at Form at)) (λ pairs. Ok pairs) o) (Some t)
  texts_seen at (Some pairs) (object i ms) e n h = (refl, h)
  texts_seen at None (literal i the_null) e n h = absurd (true≢false n)
  texts_seen at None (literal i the_true) e n h = ap (λ k. Some (fault_at Form k)) (sym e)
  texts_seen at None (literal i the_false) e n h = ap (λ k. Some (fault_at Form k)) (sym e)
  texts_seen at None (number i k) e n h = ap (λ k. Some (fault_at Form k)) (sym e)
  texts_seen at None (text i cs) e n h = ap (λ k. Some (fault_at Form k)) (sym e)
  texts_seen at None (array i ts) e n h = ap (λ k. Some (fault_at Form k)) (sym e)
  texts_seen at _ _ e n h = absurd h

  null_texts : (t : Tree) → is_null_tree t ≡ true → HasTexts (Ok []) (Some t)
  null_texts (literal i the_null) e = (refl, refl)
  null_texts (literal i the_true) e = absurd (true≢false (sym e))
  null_texts (literal i the_false) e = absurd (true≢false (sym e))
  null_texts _ e = absurd (true≢false (sym e))

  pub texts_is : (o : Option GeoAtom) (p : Option Tree) → Alike (IsRead asked) o p → HasTexts (texts_named o) p
  texts_is None None h = (refl, refl)
  texts_is (Some a) (Some t) h = go (is_null a) refl where
    go : (b : Bool) → is_null a ≡ b → HasTexts (texts_in a) (Some t)
    go true e = subst (λ c. HasTexts (if c then Ok [] else seen (Err (fault_at Form (at_of a))) (λ pairs. Ok pairs) (as_texts a)) (Some t)) (sym e) (null_texts t (sym h.scalar.is_null ∙ e))
    go false e = subst (λ c. HasTexts (if c then Ok [] else seen (Err (fault_at Form (at_of a))) (λ pairs. Ok pairs) (as_texts a)) (Some t)) (sym e) (texts_seen (at_of a) (as_texts a) t h.at (sym h.scalar.is_null ∙ e) h.object.texts)
  texts_is _ _ h = absurd h

  feature_joins : (at : ℕ) (s : Result Shape Fault) (x : Result (List TextPair) Fault) (g : GeometryRead) (p : Option Tree) (r : Result Part Fault) → JoinsFeature asked.query at s x r → HasShape (needs_shapes asked.query) s g → HasTexts x p
      → HasPart asked.query r (record { features = feature_of at g (properties_texts p) ∷ []; faults = g.faults ++ properties_faults p })
  feature_joins at (Ok s) (Ok x) g p r (part, e, k) h q = subst (λ z. HasPart asked.query z (record { features = feature_of at g (properties_texts p) ∷ []; faults = g.faults ++ properties_faults p })) (sym e)
      (ap (λ z. z ++ properties_faults p) h.0 ∙ q.0, same_part asked.query (feature_of at g (properties_texts p)) (record { at = at; shape = s; texts = x }) refl h.1 q.1 part k)
  feature_joins at (Ok s) (Err f) g p r e h q = subst (λ z. HasPart asked.query z (record { features = feature_of at g (properties_texts p) ∷ []; faults = g.faults ++ properties_faults p })) (sym e) (ap (λ z. first_of (z ++ properties_faults p)) h.0 ∙ q)
  feature_joins at (Err f) (Ok x) g p r e h q = subst (λ z. HasPart asked.query z (record { features = feature_of at g (properties_texts p) ∷ []; faults = g.faults ++ properties_faults p })) (sym e) (ap (λ z. first_of (g.faults ++ z)) q.0 ∙ (ap first_of (append-nil g.faults) ∙ h))
  feature_joins at (Err f) (Err k) g p r j h q = subst (λ z. HasPart asked.query z (record { features = feature_of at g (properties_texts p) ∷ []; faults = g.faults ++ properties_faults p })) (sym j.1)
      (first_of-append g.faults (properties_faults p) ∙ (ap (λ o. first_fault o (first_of (properties_faults p))) h ∙ (ap (first_fault (Some f)) q ∙ sym j.2)))

  pub feature_is : (at : ℕ) (xs : List (Member GeoAtom)) (ms : Members) (r : Result Part Fault)
      → Alike (IsRead asked) (value_named (codes "geometry") xs) (member_named (codes "geometry") ms) → Alike (IsRead asked) (value_named (codes "properties") xs) (member_named (codes "properties") ms)
      → JoinsFeature asked.query at (feature_shape (value_named (codes "geometry") xs)) (texts_named (value_named (codes "properties") xs)) r → HasPart asked.query r (feature_reading asked.digits asked.how at ms)
  feature_is at xs ms r hg hp j = feature_joins at (feature_shape (value_named (codes "geometry") xs)) (texts_named (value_named (codes "properties") xs)) (geometry_member_reading asked.digits asked.how (member_named (codes "geometry") ms)) (member_named (codes "properties") ms) r j
      (feature_shape_is (value_named (codes "geometry") xs) (member_named (codes "geometry") ms) hg) (texts_is (value_named (codes "properties") xs) (member_named (codes "properties") ms) hp)

-- Items one behind another: what they are as geometries and as features, further items behind them.
-- For `add`, `array` and `value`.
use Rattle.std.proofs.Common.{◌≡◌, inl, inr, Bool, true, false, List, [], ◌∷◌, ◌++◌, Some, Result, Ok, Err, refl, sym, ◌∙◌, ap, subst, append-nil, append_assoc}
use Rattle.at_text.specs.Faults.{first_fault, first_of}
use Rattle.at_text.specs.declared.faults.Fault.{Fault}
use Rattle.at_geom.specs.declared.positions.Pos.{Pos}
use Rattle.at_geom.specs.declared.shapes.Polygon.{Polygon}
use Rattle.at_geom.specs.declared.shapes.Shape.{Shape}
use Rattle.at_geom.specs.Shapes.{both, empty_shape}
use Rattle.at_text.proofs.FaultOrder.{first_of-append}
use Rattle.at_nest.specs.Folds.{trees, AreFolds, Covers, AreItemFolds}
use Rattle.at_nest.specs.Tree.{Tree, Trees, no_trees, tree_and}
use Rattle.at_query.specs.declared.features.Feature.{Feature}
use Rattle.at_query.specs.declared.answer.parts.Part.{Part}
use Rattle.at_query.specs.declared.query.queries.Query.{Query}
use Rattle.at_query.specs.Keeping.{Asked, needs_shapes, kept_shape}
use Rattle.at_geojson.specs.declared.atoms.atom.GeoAtom.{GeoAtom}
use Rattle.at_geojson.specs.declared.atoms.atom.Items.{Items}
use Rattle.at_geojson.specs.Roles.{GeometryRead, Features, both_read, geometry_reading, items_reading, item_reading}
use Rattle.at_geojson.specs.Names.{items_of}
use Rattle.at_geojson.specs.Atoms.{HasShape, HasPart, HaveItems, items_features, IsRead, IsRun, at_of, role_of, role_geometry, role_item}
use Rattle.at_geojson.specs.Gathering.{seen, item_geometries, item_features, JoinsShapes, JoinsFound}
use Rattle.at_geojson.specs.Arrays.{JoinsItems}

-- ---- atoms beside the trees for which they stand one behind another

-- the last atom and the trees of that
pub last_covers : (P : GeoAtom → Tree → Type 0) (R : GeoAtom → List Tree → Type 0) (xs : List GeoAtom) (a : GeoAtom) (ts : List Tree) → AreItemFolds P R (xs ++ a ∷ []) ts
    → (us : List Tree) × (vs : List Tree) × (ts ≡ us ++ vs) × AreItemFolds P R xs us × Covers P R a vs
last_covers P R [] a ts (us, vs, e, c, n) = ([], us, e ∙ (ap (λ z. us ++ z) n ∙ append-nil us), refl, c)
last_covers P R (x ∷ xs) a ts (us, vs, e, c, h) = let (ps, qs, f, hs, d) = last_covers P R xs a vs h in (us ++ ps, qs, e ∙ (ap (λ z. us ++ z) f ∙ sym (append_assoc us ps qs)), (us, ps, refl, c, hs), d)

-- each atom stands for one tree
pub one_each : (P : GeoAtom → Tree → Type 0) (R : GeoAtom → List Tree → Type 0) (xs : List GeoAtom) (ts : Trees) → AreFolds P xs ts → AreItemFolds P R xs (items_of ts)
one_each P R [] no_trees h = refl
one_each P R (x ∷ xs) (tree_and t ts) h = (t ∷ [], items_of ts, refl, inl (t, refl, h.0), one_each P R xs ts h.1)
one_each P R _ _ h = absurd h

pub trees_of_items : (ts : Trees) → trees (items_of ts) ≡ ts
trees_of_items no_trees = refl
trees_of_items (tree_and t ts) = ap (tree_and t) (trees_of_items ts)

-- ---- readings, joined

abbrev reading : List Pos → List (List Pos) → List Polygon → List Fault → GeometryRead
reading p l g f = record { shape = record { points = p; lines = l; polygons = g }; faults = f }

both_nothing : (r : GeometryRead) → both_read r (record { shape = empty_shape; faults = [] }) ≡ both_read (record { shape = empty_shape; faults = [] }) r
both_nothing r = ap (λ z. reading z (r.shape.lines ++ []) (r.shape.polygons ++ []) (r.faults ++ [])) (append-nil r.shape.points)
    ∙ (ap (λ z. reading r.shape.points z (r.shape.polygons ++ []) (r.faults ++ [])) (append-nil r.shape.lines)
    ∙ (ap (λ z. reading r.shape.points r.shape.lines z (r.faults ++ [])) (append-nil r.shape.polygons)
    ∙ ap (λ z. reading r.shape.points r.shape.lines r.shape.polygons z) (append-nil r.faults)))

both_assoc : (r s q : GeometryRead) → both_read r (both_read s q) ≡ both_read (both_read r s) q
both_assoc r s q = ap (λ z. reading z (r.shape.lines ++ (s.shape.lines ++ q.shape.lines)) (r.shape.polygons ++ (s.shape.polygons ++ q.shape.polygons)) (r.faults ++ (s.faults ++ q.faults))) (sym (append_assoc r.shape.points s.shape.points q.shape.points))
    ∙ (ap (λ z. reading ((r.shape.points ++ s.shape.points) ++ q.shape.points) z (r.shape.polygons ++ (s.shape.polygons ++ q.shape.polygons)) (r.faults ++ (s.faults ++ q.faults))) (sym (append_assoc r.shape.lines s.shape.lines q.shape.lines))
    ∙ (ap (λ z. reading ((r.shape.points ++ s.shape.points) ++ q.shape.points) ((r.shape.lines ++ s.shape.lines) ++ q.shape.lines) z (r.faults ++ (s.faults ++ q.faults))) (sym (append_assoc r.shape.polygons s.shape.polygons q.shape.polygons))
    ∙ ap (λ z. reading ((r.shape.points ++ s.shape.points) ++ q.shape.points) ((r.shape.lines ++ s.shape.lines) ++ q.shape.lines) ((r.shape.polygons ++ s.shape.polygons) ++ q.shape.polygons) z) (sym (append_assoc r.faults s.faults q.faults))))

abbrev both_features : Features → Features → Features
both_features a b = record { features = a.features ++ b.features; faults = a.faults ++ b.faults }

abbrev found : List Feature → List Fault → Features
found fs f = record { features = fs; faults = f }

features_nothing : (r : Features) → both_features r (record { features = []; faults = [] }) ≡ both_features (record { features = []; faults = [] }) r
features_nothing r = ap (λ z. found z (r.faults ++ [])) (append-nil r.features) ∙ ap (λ z. found r.features z) (append-nil r.faults)

features_assoc : (r s q : Features) → both_features r (both_features s q) ≡ both_features (both_features r s) q
features_assoc r s q = ap (λ z. found z (r.faults ++ (s.faults ++ q.faults))) (sym (append_assoc r.features s.features q.features)) ∙ ap (λ z. found ((r.features ++ s.features) ++ q.features) z) (sym (append_assoc r.faults s.faults q.faults))

both_nil : {X : Type 0} (xs ys : List X) → xs ≡ [] → ys ≡ [] → xs ++ ys ≡ []
both_nil xs ys e f = ap (λ z. z ++ ys) e ∙ f

kept_both : (b : Bool) (s u : Shape) → both (kept_shape b s) (kept_shape b u) ≡ kept_shape b (both s u)
kept_both true s u = refl
kept_both false s u = refl

first_left : (fs gs : List Fault) → gs ≡ [] → first_of (fs ++ gs) ≡ first_of fs
first_left fs gs e = ap (λ z. first_of (fs ++ z)) e ∙ ap first_of (append-nil fs)

first_right : (fs gs : List Fault) → fs ≡ [] → first_of (fs ++ gs) ≡ first_of gs
first_right fs gs e = ap (λ z. first_of (z ++ gs)) e

first_both : (fs gs : List Fault) (f g k : Fault) → first_of fs ≡ Some f → first_of gs ≡ Some g → Some k ≡ first_fault (Some f) (Some g) → first_of (fs ++ gs) ≡ Some k
first_both fs gs f g k ef eg ek = first_of-append fs gs ∙ (ap (λ o. first_fault o (first_of gs)) ef ∙ (ap (first_fault (Some f)) eg ∙ sym ek))

pub shapes_join : (b : Bool) (l g n : Result Shape Fault) (r s : GeometryRead) → JoinsShapes l g n → HasShape b l r → HasShape b g s → HasShape b n (both_read r s)
shapes_join b (Ok x) (Ok y) n r s j h k = subst (λ z. HasShape b z (both_read r s)) (sym j) (both_nil r.faults s.faults h.0 k.0, ap (λ z. both z y) h.1 ∙ (ap (both (kept_shape b r.shape)) k.1 ∙ kept_both b r.shape s.shape))
shapes_join b (Ok x) (Err f) n r s j h k = subst (λ z. HasShape b z (both_read r s)) (sym j) (first_right r.faults s.faults h.0 ∙ k)
shapes_join b (Err e) (Ok y) n r s j h k = subst (λ z. HasShape b z (both_read r s)) (sym j) (first_left r.faults s.faults k.0 ∙ h)
shapes_join b (Err e) (Err f) n r s j h k = subst (λ z. HasShape b z (both_read r s)) (sym j.1) (first_both r.faults s.faults e f j.0 h k j.2)

pub parts_join : (q : Query) (l g n : Result Part Fault) (r s : Features) → JoinsFound l g n → HasPart q l r → HasPart q g s → HasPart q n (both_features r s)
parts_join q (Ok x) (Ok y) n r s j h k = subst (λ z. HasPart q z (both_features r s)) (sym j.1) (both_nil r.faults s.faults h.0 k.0, j.2 q r.features s.features h.1 k.1)
parts_join q (Ok x) (Err f) n r s j h k = subst (λ z. HasPart q z (both_features r s)) (sym j) (first_right r.faults s.faults h.0 ∙ k)
parts_join q (Err e) (Ok y) n r s j h k = subst (λ z. HasPart q z (both_features r s)) (sym j) (first_left r.faults s.faults k.0 ∙ h)
parts_join q (Err e) (Err f) n r s j h k = subst (λ z. HasPart q z (both_features r s)) (sym j.1) (first_both r.faults s.faults e f j.0 h k j.2)

module _ (asked : Asked) where
  shapes_append : (us vs : List Tree) → items_reading asked.digits asked.how (trees (us ++ vs)) ≡ both_read (items_reading asked.digits asked.how (trees us)) (items_reading asked.digits asked.how (trees vs))
  shapes_append [] vs = refl
  shapes_append (u ∷ us) vs = ap (both_read (geometry_reading asked.digits asked.how u)) (shapes_append us vs) ∙ both_assoc (geometry_reading asked.digits asked.how u) (items_reading asked.digits asked.how (trees us)) (items_reading asked.digits asked.how (trees vs))

  features_append : (us vs : List Tree) → items_features asked (trees (us ++ vs)) ≡ both_features (items_features asked (trees us)) (items_features asked (trees vs))
  features_append [] vs = refl
  features_append (u ∷ us) vs = ap (both_features (item_reading asked.digits asked.how u)) (features_append us vs) ∙ features_assoc (item_reading asked.digits asked.how u) (items_features asked (trees us)) (items_features asked (trees vs))

  -- items behind others
  pub have_both : (us vs : List Tree) (old more new : Items) → JoinsShapes old.geometries more.geometries new.geometries → JoinsFound old.features more.features new.features
      → HaveItems asked old (trees us) → HaveItems asked more (trees vs) → HaveItems asked new (trees (us ++ vs))
  have_both us vs old more new j k h g = (
    subst (λ z. HasShape (needs_shapes asked.query) new.geometries z) (sym (shapes_append us vs))
        (shapes_join (needs_shapes asked.query) old.geometries more.geometries new.geometries (items_reading asked.digits asked.how (trees us)) (items_reading asked.digits asked.how (trees vs)) j h.0 g.0),
    subst (λ z. HasPart asked.query new.features z) (sym (features_append us vs))
        (parts_join asked.query old.features more.features new.features (items_features asked (trees us)) (items_features asked (trees vs)) k h.1 g.1),
  )

  -- one value alone
  pub have_one : (a : GeoAtom) (t : Tree) (one : Items) → one.geometries ≡ item_geometries a → one.features ≡ item_features a → IsRead asked a t → HaveItems asked one (trees (t ∷ []))
  have_one a t one eg ef r =
      let g : one.geometries ≡ role_geometry (at_of a) (role_of a) = eg ∙ ap (seen (role_geometry (at_of a) (role_of a)) (λ (items : Items). items.geometries)) r.single in
      let f : one.features ≡ role_item (at_of a) (role_of a) = ef ∙ ap (seen (role_item (at_of a) (role_of a)) (λ (items : Items). items.features)) r.single in (
        subst (λ z. HasShape (needs_shapes asked.query) one.geometries z) (sym (both_nothing (geometry_reading asked.digits asked.how t))) (subst (λ z. HasShape (needs_shapes asked.query) z (geometry_reading asked.digits asked.how t)) (sym g) r.object.geometry),
        subst (λ z. HasPart asked.query one.features z) (sym (features_nothing (item_reading asked.digits asked.how t))) (subst (λ z. HasPart asked.query z (item_reading asked.digits asked.how t)) (sym f) r.object.item),
      )

  -- an atom, for one value or several
  pub have_covers : (a : GeoAtom) (ts : List Tree) (one : Items) → one.geometries ≡ item_geometries a → one.features ≡ item_features a → Covers (IsRead asked) (IsRun asked) a ts → HaveItems asked one (trees ts)
  have_covers a ts one eg ef (inl (t, e, r)) = subst (λ z. HaveItems asked one (trees z)) (sym e) (have_one a t one eg ef r)
  have_covers a ts one eg ef (inr (inl (run, e, j))) = (
    subst (λ z. HasShape (needs_shapes asked.query) z (items_reading asked.digits asked.how (trees ts))) (sym (eg ∙ ap item_geometries e)) j.have.0,
    subst (λ z. HasPart asked.query z (items_features asked (trees ts))) (sym (ef ∙ ap item_features e)) j.have.1,
  )
  have_covers a ts one eg ef (inr (inr (inl (s, e, j)))) = (
    subst (λ z. HasShape (needs_shapes asked.query) z (items_reading asked.digits asked.how (trees ts))) (sym (eg ∙ ap item_geometries e)) j.have.0,
    subst (λ z. HasPart asked.query z (items_features asked (trees ts))) (sym (ef ∙ ap item_features e)) j.have.1,
  )
  have_covers a ts one eg ef (inr (inr (inr (t, e, j)))) = (
    subst (λ z. HasShape (needs_shapes asked.query) z (items_reading asked.digits asked.how (trees ts))) (sym (eg ∙ ap item_geometries e)) j.have.0,
    subst (λ z. HasPart asked.query z (items_features asked (trees ts))) (sym (ef ∙ ap item_features e)) j.have.1,
  )

  -- one atom more
  pub one_item_more : (xs : List GeoAtom) (a : GeoAtom) (old one new : Items) → one.geometries ≡ item_geometries a → one.features ≡ item_features a
      → JoinsShapes old.geometries one.geometries new.geometries → JoinsFound old.features one.features new.features → JoinsItems asked xs old → JoinsItems asked (xs ++ a ∷ []) new
  one_item_more xs a old one new eg ef j k h ts f =
      let (us, vs, e, fs, c) = last_covers (IsRead asked) (IsRun asked) xs a ts f in
      subst (λ z. HaveItems asked new (trees z)) (sym e) (have_both us vs old one new j k (h us fs) (have_covers a vs one eg ef c))

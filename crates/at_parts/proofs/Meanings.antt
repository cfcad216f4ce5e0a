-- What the items and members of a collection mean, and their faults: those of items in a row are those of each.
-- For `sound_parts` and `first_syntax_fault`.
use Rattle.std.proofs.Common.{◌≡◌, ℕ, List, [], ◌∷◌, ◌++◌, IsTrue, false, Some, None, map, codes, bytes_eq, if◌then◌else◌, refl, sym, ◌∙◌, ap, append_assoc, arith}
use Rattle.std.proofs.lemmas.Slice.Eq.{bytes_eq-Decides}
use Rattle.std.specs.Prelude.{option_and_then}
use Rattle.at_text.specs.declared.faults.Fault.{Fault}
use Rattle.at_text.specs.declared.faults.FaultKind.TheVariants.{Twin}
use Rattle.at_text.specs.Faults.{fault_at}
use Rattle.at_fixed.specs.declared.rounding.Coords.{Coords}
use Rattle.at_lex.specs.Strings.{Character, units_of}
use Rattle.at_nest.specs.Tree.{array, object, Trees, no_trees, tree_and, Members, no_members, member_and}
use Rattle.at_nest.specs.Twins.{is_among, twins_of, twins_of_items, twins_of_members}
use Rattle.at_query.specs.declared.features.Feature.{Feature}
use Rattle.at_scan.specs.declared.kinds.Kind.TheVariants.{FeatureCollection}
use Rattle.at_geojson.specs.Names.{is_named, member_named, type_of, kind_of, items_of}
use Rattle.at_scan.specs.Names.{kind_of_text}
use Rattle.at_geojson.specs.Roles.{Features, all_features, item_reading, features_reading, root_of_kind, root_reading}
use Rattle.at_parts.proofs.Fronts.{chained, all_members}
use Rattle.at_parts.proofs.CommaItems.{appended}

pub empty_parts : {A : Type 0} (a b : List A) → a ++ b ≡ [] → (a ≡ []) × (b ≡ [])
empty_parts [] b e = (refl, e)
empty_parts (x ∷ a) b e = absurd (cc)

pub empty_both : {A : Type 0} (a b : List A) → a ≡ [] → b ≡ [] → a ++ b ≡ []
empty_both a b e f = ap (λ o. o ++ b) e ∙ f

-- ---- items

module _ (digits : ℕ) (how : Coords) where
  abbrev pub items_read : Trees → Features
  items_read ts = all_features (map (item_reading digits how) (items_of ts))

  -- the items have these features, and no fault
  pub record AreFine (ts : Trees) (features : List Feature) : Type 0 where
    pub has : features ≡ (items_read ts).features
    pub no_faults : (items_read ts).faults ≡ []
    pub no_twins : twins_of_items ts ≡ []

  pub features_appended : (ts us : Trees) → (items_read (appended ts us)).features ≡ (items_read ts).features ++ (items_read us).features
  features_appended no_trees us = refl
  features_appended (tree_and t ts) us = ap (λ o. (item_reading digits how t).features ++ o) (features_appended ts us) ∙ sym (append_assoc (item_reading digits how t).features (items_read ts).features (items_read us).features)

  pub faults_appended : (ts us : Trees) → (items_read (appended ts us)).faults ≡ (items_read ts).faults ++ (items_read us).faults
  faults_appended no_trees us = refl
  faults_appended (tree_and t ts) us = ap (λ o. (item_reading digits how t).faults ++ o) (faults_appended ts us) ∙ sym (append_assoc (item_reading digits how t).faults (items_read ts).faults (items_read us).faults)

  pub twins_appended : (ts us : Trees) → twins_of_items (appended ts us) ≡ twins_of_items ts ++ twins_of_items us
  twins_appended no_trees us = refl
  twins_appended (tree_and t ts) us = ap (λ o. twins_of t ++ o) (twins_appended ts us) ∙ sym (append_assoc (twins_of t) (twins_of_items ts) (twins_of_items us))

  pub fine_both : (ts us : Trees) (f g : List Feature) → AreFine ts f → AreFine us g → AreFine (appended ts us) (f ++ g)
  fine_both ts us f g h k = record {
    has = ap (λ o. o ++ g) h.has ∙ (ap (λ o. (items_read ts).features ++ o) k.has ∙ sym (features_appended ts us));
    no_faults = faults_appended ts us ∙ empty_both (items_read ts).faults (items_read us).faults h.no_faults k.no_faults;
    no_twins = twins_appended ts us ∙ empty_both (twins_of_items ts) (twins_of_items us) h.no_twins k.no_twins;
  }

-- ---- members by name

pub named_chained : (name : List ℕ) (ms more : Members) → member_named name ms ≡ None → member_named name (chained ms more) ≡ member_named name more
named_chained name no_members more e = refl
named_chained name (member_and n i t ms) more e = grind (arith, e, named_chained name ms more)

-- the name of the features isn't that of the type
pub no_type : (n : List Character) → IsTrue (is_named (codes "features") n) → is_named (codes "type") n ≡ false
no_type n h = ap (λ o. bytes_eq o (codes "type")) ((bytes_eq-Decides (units_of n) (codes "features")).0 h)

module _ (n : List Character) (i k : ℕ) (named : IsTrue (is_named (codes "features") n)) where
  pub features_named : (ms more : Members) (ts : Trees) → member_named (codes "features") ms ≡ None → member_named (codes "features") (all_members n i k ms ts more) ≡ Some (array k ts)
  features_named ms more ts e = named_chained (codes "features") ms (member_and n i (array k ts) more) e ∙ rw named

  -- the type is as before, where that of the further members is
  pub type_kept : (ms more others : Members) (ts us : Trees) → type_of more ≡ type_of others → type_of (all_members n i k ms ts more) ≡ type_of (all_members n i k ms us others)
  type_kept no_members more others ts us e = rw (no_type n named) e
  type_kept (member_and m j t ms) more others ts us e = grind (arith, type_kept ms more others ts us e)

  pub kind_kept : (ms more others : Members) (ts us : Trees) → type_of more ≡ type_of others → kind_of (all_members n i k ms ts more) ≡ kind_of (all_members n i k ms us others)
  kind_kept ms more others ts us e = ap (option_and_then kind_of_text) (type_kept ms more others ts us e)

  pub root_is : (digits : ℕ) (how : Coords) (at : ℕ) (ms more : Members) (ts : Trees) → member_named (codes "features") ms ≡ None → kind_of (all_members n i k ms ts more) ≡ Some FeatureCollection
      → root_reading digits how (object at (all_members n i k ms ts more)) ≡ items_read digits how ts
  root_is digits how at ms more ts e f =
      ap (root_of_kind digits how at (all_members n i k ms ts more)) f ∙ ap (λ o. features_reading digits how at o) (features_named ms more ts e)

-- ---- equal names

abbrev name_twins : List (List ℕ) → List Character → ℕ → List Fault
name_twins earlier name i = if is_among earlier (units_of name) then fault_at Twin i ∷ [] else []

module _ (n : List Character) (i k : ℕ) where
  -- before those of the items and of further members stand the same, whatever these are
  twins_front : (ms : Members) (earlier : List (List ℕ)) → (front : List Fault) × (names : List (List ℕ)) × ((ts : Trees) (more : Members) → twins_of_members earlier (all_members n i k ms ts more) ≡ front ++ (twins_of_items ts ++ twins_of_members names more))
  twins_front no_members earlier = (name_twins earlier n i, units_of n ∷ earlier, λ ts more. refl)
  twins_front (member_and m j t ms) earlier =
      let (front, names, is) = twins_front ms (units_of m ∷ earlier) in
      (name_twins earlier m j ++ (twins_of t ++ front), names, λ ts more. ap (λ o. name_twins earlier m j ++ (twins_of t ++ o)) (is ts more) ∙ (simp append_assoc))

  pub twins_swapped : (ms : Members) (earlier : List (List ℕ)) (more others : Members) (ts us : Trees) → twins_of_members earlier (all_members n i k ms ts more) ≡ [] → twins_of_items us ≡ []
      → ((names : List (List ℕ)) → twins_of_members names more ≡ [] → twins_of_members names others ≡ []) → twins_of_members earlier (all_members n i k ms us others) ≡ []
  twins_swapped ms earlier more others ts us e f h =
      let (front, names, is) = twins_front ms earlier in
      let (a, b) = empty_parts front (twins_of_items ts ++ twins_of_members names more) (sym (is ts more) ∙ e) in
      let (c, d) = empty_parts (twins_of_items ts) (twins_of_members names more) b in
      is us others ∙ empty_both front (twins_of_items us ++ twins_of_members names others) a (empty_both (twins_of_items us) (twins_of_members names others) f (h names d))

  pub twins_inside : (ms : Members) (earlier : List (List ℕ)) (more : Members) (ts : Trees) → twins_of_members earlier (all_members n i k ms ts more) ≡ [] → twins_of_items ts ≡ []
  twins_inside ms earlier more ts e =
      let (front, names, is) = twins_front ms earlier in
      (empty_parts (twins_of_items ts) (twins_of_members names more) (empty_parts front (twins_of_items ts ++ twins_of_members names more) (sym (is ts more) ∙ e)).1).0

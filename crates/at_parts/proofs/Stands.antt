-- Bytes that stand as items, with the features of these, and what a text without a fault says of the items in it.
-- For `sound_parts` and `first_syntax_fault`.
use Rattle.std.proofs.Common.{◌≡◌, ℕ, inl, inr, List, [], ◌∷◌, ◌++◌, Option, Some, None, refl, sym, ◌∙◌, ap, subst, ◌+◌, length, true≢false, arith}
use Rattle.std.proofs.lemmas.Option.{none-some}
use Rattle.at_text.specs.declared.faults.Fault.{Fault}
use Rattle.at_text.specs.Faults.{first_fault, first_of}
use Rattle.at_text.specs.Texts.{is_space, utf8_fault}
use Rattle.at_fixed.specs.declared.rounding.Coords.{Coords}
use Rattle.at_nest.specs.Tree.{Tree, object, Trees, no_trees, tree_and, Members, SpellsItems}
use Rattle.at_nest.specs.Twins.{twins_of}
use Rattle.at_nest.specs.Syntax.{IsFileOf}
use Rattle.at_nest.proofs.OneTree.{head, clash, one_tree}
use Rattle.at_query.specs.declared.features.Feature.{Feature}
use Rattle.at_scan.specs.declared.kinds.Kind.TheVariants.{FeatureCollection}
use Rattle.at_geojson.specs.Names.{kind_of}
use Rattle.at_geojson.specs.Roles.{root_reading, item_reading, features_of, role_faults_of}
use Rattle.at_run.specs.Files.{AreJsonFeatures}
use Rattle.at_run.specs.JsonFiles.{HasJsonFaultBehind, HasJsonFileFault}
use Rattle.at_parts.specs.Collections.{opening, closing, framed}
use Rattle.at_parts.proofs.CommaItems.{AreSome}
use Rattle.at_parts.proofs.Wholes.{Front, Whole, members_of, whole_parts}
use Rattle.at_parts.proofs.Meanings.{items_read, AreFine, empty_parts, root_is, twins_inside}
use Rattle.at_parts.proofs.Openings.{opening_front, opening_kind}

-- ---- files without a fault

pub none_first : (f : Fault) (o : Option Fault) → None ≡ first_fault (Some f) o → ⊥
none_first f None e = none-some f e
none_first f (Some g) e = grind (arith, e)

pub none_of : (fs : List Fault) → None ≡ first_of fs → fs ≡ []
none_of [] e = refl
none_of (f ∷ fs) e = absurd (none_first f (first_of fs) e)

module _ (digits : ℕ) (how : Coords) where
  by_encoding : (o : Option Fault) (bytes : List ℕ) → HasJsonFaultBehind digits how o bytes None → (o ≡ None) × ((t : Tree) × IsFileOf bytes t × (twins_of t ≡ []) × (role_faults_of digits how t ≡ []))
  by_encoding (Some f) bytes e = absurd (none-some f e)
  by_encoding None bytes (faults, inl (f, h, k), e) = absurd (none-some f (e ∙ ap first_of k))
  by_encoding None bytes (faults, inr (t, h, k), e) = let (a, b) = empty_parts (twins_of t) (role_faults_of digits how t) (sym k ∙ none_of faults e) in (refl, (t, h, a, b))

  pub whole_file : (bytes : List ℕ) → HasJsonFileFault digits how bytes None → (utf8_fault bytes ≡ None) × ((t : Tree) × IsFileOf bytes t × (twins_of t ≡ []) × (role_faults_of digits how t ≡ []))
  whole_file bytes h = by_encoding (utf8_fault bytes) bytes h

  -- the other way
  pub no_file_fault : (bytes : List ℕ) (t : Tree) → utf8_fault bytes ≡ None → IsFileOf bytes t → twins_of t ≡ [] → role_faults_of digits how t ≡ [] → HasJsonFileFault digits how bytes None
  no_file_fault bytes t e h a b = subst (λ o. HasJsonFaultBehind digits how o bytes None) (sym e) ([], inr (t, h, sym (ap (λ o. o ++ role_faults_of digits how t) a ∙ b)), refl)

-- ---- what the text of a collection says of its items

module _ (digits : ℕ) (how : Coords) (at : ℕ) (w : List ℕ) (f : Front at w) where
  pub items_fine : (items : Trees) (more : Members) (o : ℕ) (t : Tree) (fs : List Feature) → t ≡ object o (members_of at w f items more) → kind_of (members_of at w f items more) ≡ Some FeatureCollection
      → twins_of t ≡ [] → role_faults_of digits how t ≡ [] → fs ≡ features_of digits how t → AreFine digits how items fs
  items_fine items more o t fs e k a b g =
      let root : root_reading digits how t ≡ items_read digits how items = ap (λ p. root_reading digits how p) e ∙ root_is f.name f.name_at f.array_at f.named digits how o f.members more items f.no_features k in
      record {
        has = g ∙ ap (λ p. p.features) root;
        no_faults = sym (ap (λ p. p.faults) root) ∙ b;
        no_twins = twins_inside f.name f.name_at f.array_at f.members [] more items (sym (ap twins_of e) ∙ a);
      }

-- ---- a part is items

pub not_nil : {P : Type 0} (v : List ℕ) (b : ℕ) (y : List ℕ) → [] ≡ v ++ (b ∷ y) → P
not_nil [] b y e = absurd (cc)
not_nil (c ∷ v) b y e = absurd (cc)

-- items that begin with a bracket are some
pub begun_some : (ts : Trees) (at : ℕ) (v y r : List ℕ) → SpellsItems at v ts → 0x7B ∷ r ≡ v ++ (0x5D ∷ y) → AreSome ts
begun_some no_trees at [] y r h e = clash 0x7B 0x5D refl (ap head e)
begun_some no_trees at (c ∷ v) y r (h, hs) e = absurd (true≢false (sym h ∙ ap is_space (sym (ap head e))))
begun_some (tree_and t ts) at v y r h e = tt

module _ (digits : ℕ) (how : Coords) where
  pub an_object : (t : Tree) → (item_reading digits how t).faults ≡ [] → (i : ℕ) × (ms : Members) × (t ≡ object i ms)
  an_object (object i ms) h = (i, ms, refl)
  an_object _ h = absurd (cc)

  -- the bytes are items, and these features are theirs
  pub record Stands (at : ℕ) (w : List ℕ) (features : List Feature) : Type 0 where
    pub items : Trees
    pub some : AreSome items
    pub spelled : SpellsItems at w items
    pub fine : AreFine digits how items features

  -- what the frame says of a text that begins with a feature, where there is no fault and these are the features
  pub record InFrame (w : List ℕ) (features : List Feature) : Type 0 where
    pub tree : Tree
    pub whole : Whole 0 opening opening_front (w ++ closing) tree
    pub some : AreSome whole.items
    pub fine : AreFine digits how whole.items features

  pub in_frame : (w r : List ℕ) (own : List Feature) → w ≡ 0x7B ∷ r → HasJsonFileFault digits how (framed w) None → AreJsonFeatures digits how (framed w) own → InFrame w own
  in_frame w r own begins none (u, hu, g) =
      let (_, (t, ht, a, b)) = whole_file digits how (framed w) none in
      let wh = whole_parts 0 opening opening_front (w ++ closing) t ht in
      let same : u ≡ t = one_tree 0 (framed w) t u ht hu in
      record {
        tree = t;
        whole = wh;
        some = begun_some wh.items (0 + length opening) wh.features wh.behind (r ++ closing) wh.spelled (sym (ap (λ c. c ++ closing) begins) ∙ wh.split);
        fine = items_fine digits how 0 opening opening_front wh.items wh.more (0 + length opening_front.before) t own wh.is (opening_kind wh.more wh.items) a b (g ∙ ap (λ c. features_of digits how c) same);
      }

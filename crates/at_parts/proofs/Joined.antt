-- Sound parts in a row are items in a row, wherever they begin, and with the last part they are the items of the whole.
-- For `sound_parts` and `first_syntax_fault`.
use Rattle.std.proofs.Common.{◌≡◌, ℕ, List, [], ◌∷◌, ◌++◌, Some, map, codes, refl, sym, ◌∙◌, ap, subst, arith, append_assoc, length-append, ◌+◌, ◌-◌, length, ⊎_elim}
use Rattle.std.specs.Prelude.{option_and_then}
use Rattle.at_text.specs.declared.faults.Fault.{Fault}
use Rattle.at_fixed.specs.declared.rounding.Coords.{Coords}
use Rattle.at_lex.specs.Spans.{AreSpaces}
use Rattle.at_nest.specs.Tree.{Tree, object, Trees, no_trees, tree_and, Members, SpellsItems, SpellsFurtherMembers, IsTextOf}
use Rattle.at_nest.specs.Twins.{twins_of, twins_of_items}
use Rattle.at_query.specs.declared.features.Feature.{Feature}
use Rattle.at_scan.specs.declared.kinds.Kind.TheVariants.{FeatureCollection}
use Rattle.at_geojson.specs.Names.{member_named, units_of_text, type_of, kind_of, items_of}
use Rattle.at_geojson.specs.Roles.{item_reading, all_features, root_reading, features_of, role_faults_of}
use Rattle.at_parts.specs.Moved.{feature_moved, fault_moved, AreMoved}
use Rattle.at_parts.specs.Collections.{FilePart, joined, opening, IsSound, AreSound}
use Rattle.at_parts.proofs.Filtered.{unfiltered}
use Rattle.at_parts.proofs.MovedTrees.{moved, moved_items, moved_members, items_moved, items_at, further_members_moved}
use Rattle.at_parts.proofs.MovedReadings.{reading_moved, item_twins_moved, member_twins_moved, member_named_moved, units_moved, item_readings_moved, all_features_moved}
use Rattle.at_parts.proofs.CommaItems.{appended, AreSome, Lined, lined_more, lined_made, lined_spaced}
use Rattle.at_parts.proofs.Fronts.{Closing, closing_with}
use Rattle.at_parts.proofs.Wholes.{Front, Whole, members_of, whole_made}
use Rattle.at_parts.proofs.Meanings.{items_read, AreFine, fine_both, root_is, kind_kept, twins_swapped}
use Rattle.at_parts.proofs.Stands.{Stands}
use Rattle.at_parts.proofs.Alone.{alone_stands}
use Rattle.at_parts.proofs.Listed.{listed_stands}

-- ---- moved features

abbrev unmoved : ℕ → Feature → Feature
unmoved d f = record { at = f.at - d; shape = f.shape; texts = f.texts }

unmoved_are : (d : ℕ) (fs : List Feature) → map (unmoved d) (map (feature_moved d) fs) ≡ fs
unmoved_are d [] = refl
unmoved_are d (f ∷ fs) =
    let place : d + f.at - d ≡ f.at = omega arith in
    ap {B = List Feature} (λ n. record { at = n; shape = f.shape; texts = f.texts } ∷ map (unmoved d) (map (feature_moved d) fs)) place ∙ ap (λ o. f ∷ o) (unmoved_are d fs)

-- what is moved alike was the same
same_moved : (d : ℕ) (fs gs : List Feature) → map (feature_moved d) fs ≡ map (feature_moved d) gs → fs ≡ gs
same_moved d fs gs e = sym (unmoved_are d fs) ∙ (ap (map (unmoved d)) e ∙ unmoved_are d gs)

pub moved_twice : (d n : ℕ) (fs : List Feature) → map (feature_moved d) (map (feature_moved n) fs) ≡ map (feature_moved (n + d)) fs
moved_twice d n [] = refl
moved_twice d n (f ∷ fs) = let place : d + (n + f.at) ≡ n + d + f.at = omega arith in cc (moved_twice d n fs)

none_before : (d : ℕ) (fs : List Fault) → map (fault_moved d) fs ≡ [] → fs ≡ []
none_before d [] e = refl
none_before d (f ∷ fs) e = absurd (cc)

module _ (d digits : ℕ) (how : Coords) where
  read_moved_items : (ts : Trees) → items_read digits how (moved_items d ts) ≡ reading_moved d (items_read digits how ts)
  read_moved_items ts = ap all_features (item_readings_moved d digits how ts) ∙ all_features_moved d digits how (map (item_reading digits how) (items_of ts))

  pub fine_moved : (ts : Trees) (fs : List Feature) → AreFine digits how ts fs → AreFine digits how (moved_items d ts) (map (feature_moved d) fs)
  fine_moved ts fs h = record {
    has = ap (map (feature_moved d)) h.has ∙ sym (ap (λ o. o.features) (read_moved_items ts));
    no_faults = ap (λ o. o.faults) (read_moved_items ts) ∙ ap (map (fault_moved d)) h.no_faults;
    no_twins = item_twins_moved d ts ∙ ap (map (fault_moved d)) h.no_twins;
  }

  fine_back : (ts : Trees) (fs : List Feature) → AreFine digits how (moved_items d ts) (map (feature_moved d) fs) → AreFine digits how ts fs
  fine_back ts fs h = record {
    has = same_moved d fs (items_read digits how ts).features (h.has ∙ ap (λ o. o.features) (read_moved_items ts));
    no_faults = none_before d (items_read digits how ts).faults (sym (ap (λ o. o.faults) (read_moved_items ts)) ∙ h.no_faults);
    no_twins = none_before d (twins_of_items ts) (sym (item_twins_moved d ts) ∙ h.no_twins);
  }

pub some_moved : (d : ℕ) (ts : Trees) → AreSome ts → AreSome (moved_items d ts)
some_moved d no_trees h = h
some_moved d (tree_and t ts) h = tt

pub some_back : (d : ℕ) (ts us : Trees) → us ≡ moved_items d ts → AreSome us → AreSome ts
some_back d no_trees us e h = subst AreSome e h
some_back d (tree_and t ts) us e h = tt

-- ---- a part

module _ (digits : ℕ) (how : Coords) where
  part_stands : (w : List ℕ) (own : List Feature) → IsSound digits how w own → Stands digits how (0 + length opening) w own
  part_stands w own s = ⊎_elim (alone_stands digits how w s.rest own s.begins) (listed_stands digits how w s.rest own s.begins) (unfiltered digits how w own s.told)

  -- and elsewhere
  pub stands_moved : (from to : ℕ) (w : List ℕ) (fs gs : List Feature) → Stands digits how from w fs → AreMoved from to fs gs → Stands digits how to w gs
  stands_moved from to w fs gs s (alone, e, f) =
      let (ts, g, spelled) = items_at from to w s.items s.spelled in
      let at_once : AreFine digits how (moved_items from ts) (map (feature_moved from) alone) = subst (λ o. AreFine digits how (moved_items from ts) o) e (subst (λ o. AreFine digits how o fs) g s.fine) in
      record {
        items = moved_items to ts;
        some = some_moved to ts (some_back from ts s.items g s.some);
        spelled = spelled;
        fine = subst (λ o. AreFine digits how (moved_items to ts) o) (sym f) (fine_moved to digits how ts alone (fine_back from digits how ts alone at_once));
      }

  -- ---- parts in a row

  pub record InRow (at : ℕ) (w : List ℕ) (features : List Feature) : Type 0 where
    pub items : Trees
    pub lined : Lined items at w
    pub fine : AreFine digits how items features

  one_in_row : (at : ℕ) (v c s x r w : List ℕ) (here rest all : List Feature) → Stands digits how at v here → AreSpaces s → AreSpaces r → c ≡ s ++ x → x ≡ 0x2C ∷ r → InRow (at + length v + length c) w rest → all ≡ here ++ rest → InRow at (v ++ (c ++ w)) all
  one_in_row at v c s x r w here rest all h hs hr e f k g =
      let place : at + length v + length c ≡ at + length v + length s + 1 + length r = omega (arith, length-append {A = ℕ}, ap length e, ap length f) in
      let lined = lined_more h.items at v s (r ++ w) k.items h.spelled h.some hs (lined_spaced r hr (at + length v + length s + 1) w k.items (subst (λ o. Lined k.items o w) place k.lined)) in
      let bytes : v ++ (s ++ (0x2C ∷ (r ++ w))) ≡ v ++ (c ++ w) = ap (λ o. v ++ o) (sym (ap (λ o. o ++ w) (e ∙ ap (λ o. s ++ o) f) ∙ append_assoc s (0x2C ∷ r) w)) in
      record { items = appended h.items k.items; lined = subst (λ o. Lined (appended h.items k.items) at o) bytes lined; fine = subst (λ o. AreFine digits how (appended h.items k.items) o) (sym g) (fine_both digits how h.items k.items here rest h.fine k.fine) }

  pub parts_in_row : (ps : List FilePart) (at : ℕ) (features : List Feature) → AreSound digits how at ps features → InRow at (joined ps) features
  parts_in_row [] at features h = record { items = no_trees; lined = tt; fine = record { has = h; no_faults = refl; no_twins = refl } }
  parts_in_row (p ∷ ps) at features (own, here, rest, sound, (s, x, e, hs, (c, r, f, hc, hr)), moved, sounds, g) =
      one_in_row at p.text p.comma s x r (joined ps) here rest features (stands_moved (0 + length opening) at p.text own here (part_stands p.text own sound) moved) hs hr e (f ∙ ap (λ o. o ++ r) hc)
      (parts_in_row ps (at + length p.text + length p.comma) rest sounds) g

-- ---- the whole

pub type_of_moved : (d : ℕ) (ms : Members) → type_of (moved_members d ms) ≡ type_of ms
type_of_moved d ms = ap (option_and_then units_of_text) (member_named_moved d (codes "type") ms) ∙ units_moved d (member_named (codes "type") ms)

pub closing_moved : (d at : ℕ) (more : Members) (w : List ℕ) → Closing more at w → Closing (moved_members d more) (d + at) w
closing_moved d at more w c =
    let place : d + (at + length c.spaces) ≡ d + at + length c.spaces = omega arith in
    closing_with more (moved_members d more) at (d + at) w c (subst (λ o. SpellsFurtherMembers o c.others (moved_members d more)) place (further_members_moved d (at + length c.spaces) c.others more c.further))

-- the whole file is a text without a fault, with these features
module _ (digits : ℕ) (how : Coords) where
  pub record IsFine (at : ℕ) (w : List ℕ) (features : List Feature) : Type 0 where
    pub tree : Tree
    pub spelled : IsTextOf at w tree
    pub no_twins : twins_of tree ≡ []
    pub no_faults : role_faults_of digits how tree ≡ []
    pub has : features ≡ features_of digits how tree

  pub all_fine : (at : ℕ) (w : List ℕ) (f : Front at w) (row r : List ℕ) (t : Tree) (first own : List Feature) → InRow digits how (at + length w) row first → (wh : Whole at w f r t) → AreSome wh.items → AreFine digits how wh.items own
      → kind_of (members_of at w f wh.items wh.more) ≡ Some FeatureCollection → twins_of t ≡ [] → IsFine at (w ++ (row ++ r)) (first ++ map (feature_moved (length row)) own)
  all_fine at w f row r t first own h wh some fine kind twins =
      let d : ℕ = length row in
      let items : Trees = appended h.items (moved_items d wh.items) in
      let more : Members = moved_members d wh.more in
      let all = fine_both digits how h.items (moved_items d wh.items) first (map (feature_moved d) own) h.fine (fine_moved d digits how wh.items own fine) in
      let place : d + (at + length w) ≡ at + length w + length row = omega arith in
      let spelled = lined_made h.items (at + length w) row wh.features (moved_items d wh.items) h.lined (some_moved d wh.items some) (subst (λ o. SpellsItems o wh.features (moved_items d wh.items)) place (items_moved d (at + length w) wh.features wh.items wh.spelled)) in
      let end : d + (at + length w + length wh.features + 1) ≡ at + length w + length (row ++ wh.features) + 1 = omega (arith, length-append row wh.features) in
      let split : row ++ r ≡ (row ++ wh.features) ++ (0x5D ∷ wh.behind) = ap (λ o. row ++ o) wh.split ∙ sym (append_assoc row wh.features (0x5D ∷ wh.behind)) in
      let same_type : type_of wh.more ≡ type_of more = sym (type_of_moved d wh.more) in
      let whole_kind : kind_of (members_of at w f items more) ≡ Some FeatureCollection = sym (kind_kept f.name f.name_at f.array_at f.named f.members wh.more more wh.items items same_type) ∙ kind in
      let root : root_reading digits how (object (at + length f.before) (members_of at w f items more)) ≡ items_read digits how items = root_is f.name f.name_at f.array_at f.named digits how (at + length f.before) f.members more items f.no_features whole_kind in
      record {
        tree = object (at + length f.before) (members_of at w f items more);
        spelled = whole_made at w f (row ++ r) items more (row ++ wh.features) wh.behind split spelled (subst (λ o. Closing more o wh.behind) end (closing_moved d (at + length w + length wh.features + 1) wh.more wh.behind wh.closes));
        no_twins = twins_swapped f.name f.name_at f.array_at f.members [] wh.more more wh.items items (sym (ap twins_of wh.is) ∙ twins) all.no_twins (λ names e. member_twins_moved d names wh.more ∙ ap (map (fault_moved d)) e);
        no_faults = ap (λ o. o.faults) root ∙ all.no_faults;
        has = all.has ∙ sym (ap (λ o. o.features) root);
      }

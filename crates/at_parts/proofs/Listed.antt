-- A part that is asked with the marker behind it is items: the last item of all begins behind the marker's comma, so those before it are the part's.
-- For `sound_parts` and `first_syntax_fault`.
use Rattle.std.proofs.Common.{◌≡◌, ℕ, ◌⊎◌, inl, inr, List, [], ◌∷◌, ◌++◌, Option, Some, refl, sym, ◌∙◌, ap, subst, arith, append_assoc, append-nil, length-append, ◌+◌, length, true≢false}
use Rattle.std.proofs.lemmas.List.{same_from_push}
use Rattle.at_fixed.specs.declared.rounding.Coords.{Coords}
use Rattle.at_lex.specs.Spans.{AreSpaces}
use Rattle.at_wkt.proofs.Leads.{append_cases, same_length}
use Rattle.at_nest.specs.Tree.{Tree, Trees, no_trees, tree_and, Members, Spells, SpellsItems}
use Rattle.at_nest.proofs.TreeParts.{items_parts, items_made, further_items_parts, object_parts}
use Rattle.at_nest.proofs.OneTree.{head, tail, starts, padded_on}
use Rattle.at_nest.specs.Twins.{twins_of_items}
use Rattle.at_query.specs.declared.features.Feature.{Feature}
use Rattle.at_scan.specs.declared.kinds.Kind.{Kind}
use Rattle.at_scan.specs.declared.kinds.Kind.TheVariants as kinds
use Rattle.at_geojson.specs.Names.{kind_of}
use Rattle.at_geojson.specs.Roles.{if_feature, item_reading}
use Rattle.at_parts.specs.Collections.{opening, closing, marker, IsListed}
use Rattle.at_parts.proofs.CommaItems.{appended, AreSome, Lined, spaces_behind, further_items_from, item_size}
use Rattle.at_parts.proofs.Meanings.{items_read, empty_parts, features_appended, faults_appended, twins_appended}
use Rattle.at_parts.proofs.Stands.{not_nil, an_object, Stands, in_frame}

-- ---- the last item

-- those before it, each with a comma behind it, and then the last item
record Last (ts : Trees) (at : ℕ) (v : List ℕ) : Type 0 where
  before : Trees
  item : Tree
  front : List ℕ
  bytes : List ℕ
  spaces : List ℕ
  is : ts ≡ appended before (tree_and item no_trees)
  split : v ≡ front ++ (bytes ++ spaces)
  lined : Lined before at front
  spelled : Spells (at + length front) bytes item

last_item : (ts : Trees) (at : ℕ) (v : List ℕ) → SpellsItems at v ts → AreSome ts → Last ts at v
last_item no_trees at v h some = absurd some
last_item (tree_and t no_trees) at v h some =
    let (a, x, b, r, f, ha, hb, hx, hr) = items_parts t no_trees at v h in
    record { before = no_trees; item = t; front = a; bytes = x; spaces = b; is = refl; split = f ∙ ap (λ o. a ++ (x ++ o)) (ap (λ o. b ++ o) hr ∙ append-nil b); lined = ha; spelled = hx }
last_item (tree_and t (tree_and u us)) at v h some =
    let (a, x, b, r, f, ha, hb, hx, hr) = items_parts t (tree_and u us) at v h in
    let (g, eg, hg) = further_items_parts u us (at + length a + length x + length b) r hr in
    let here : ℕ = at + length a + length x + length b + 1 in
    let l = last_item (tree_and u us) here g (items_made u us here g hg) tt in
    let front : List ℕ = a ++ (x ++ (b ++ (0x2C ∷ l.front))) in
    record {
      before = tree_and t l.before;
      item = l.item;
      front = front;
      bytes = l.bytes;
      spaces = l.spaces;
      is = ap (tree_and t) l.is;
      split = f ∙ (ap (λ o. a ++ (x ++ (b ++ o))) (eg ∙ ap (λ o. 0x2C ∷ o) l.split) ∙ sym (padded_on front a x b (0x2C ∷ l.front) (l.bytes ++ l.spaces) refl));
      lined = (a, x, b, 0x2C ∷ l.front, refl, ha, hb, hx, (l.front, refl, l.lined));
      spelled = subst (λ o. Spells o l.bytes l.item) (item_size at front a x b (0x2C ∷ l.front) l.front refl refl) l.spelled;
    }

-- ---- items before a comma

-- in bytes that end in a comma one stands: it is the last byte, or what is behind it ends so
abbrev EndsIn : List ℕ → List ℕ → List ℕ → Type 0
EndsIn w p g = ((g ≡ []) × (w ≡ p)) ⊎ ((h : List ℕ) × (g ≡ h ++ 0x2C ∷ []) × (w ≡ p ++ (0x2C ∷ h)))

ends_in : (w p g : List ℕ) → w ++ 0x2C ∷ [] ≡ p ++ (0x2C ∷ g) → EndsIn w p g
ends_in w p g e = elim (append_cases w (0x2C ∷ []) p (0x2C ∷ g) e) [
  | inl (same, f) ↦ inl (sym (ap tail f), same)
  | inr (inl (c, h, f, k)) ↦ not_nil h 0x2C g (ap tail k)
  | inr (inr (c, h, f, k)) ↦ inr (h, ap tail k, f ∙ ap (λ o. p ++ (o ∷ h)) (sym (ap head k)))
]

-- an item takes a byte
some_bytes : {P : Type 0} (t : Tree) (ts : Trees) (at : ℕ) (g : List ℕ) → Lined (tree_and t ts) at g → g ≡ [] → P
some_bytes t ts at g (a, x, b, r, f, ha, hb, hx, hr) e =
    let st = starts t (at + length a) x hx in
    absurd (omega (arith, length-append {A = ℕ}, ap length e, ap length f, ap length st.split))

item_before : (t : Tree) (ts : Trees) (at : ℕ) (w a x b g : List ℕ) → AreSpaces a → AreSpaces b → Spells (at + length a) x t → Lined ts (at + length a + length x + length b + 1) g
    → ((h : List ℕ) → g ≡ h ++ 0x2C ∷ [] → SpellsItems (at + length a + length x + length b + 1) h ts × AreSome ts) → EndsIn w (a ++ (x ++ b)) g → SpellsItems at w (tree_and t ts)
item_before t no_trees at w a x b g ha hb hx hg rest (inl (eg, ew)) = items_made t no_trees at w (a, x, b, [], ew ∙ ap (λ o. a ++ (x ++ o)) (sym (append-nil b)), ha, hb, hx, refl)
item_before t (tree_and u us) at w a x b g ha hb hx hg rest (inl (eg, ew)) = some_bytes u us (at + length a + length x + length b + 1) g hg eg
item_before t ts at w a x b g ha hb hx hg rest (inr (h, eg, ew)) =
    let (k, some) = rest h eg in
    items_made t ts at w (a, x, b, 0x2C ∷ h, ew ∙ (append_assoc a (x ++ b) (0x2C ∷ h) ∙ ap (λ o. a ++ o) (append_assoc x b (0x2C ∷ h))), ha, hb, hx, further_items_from ts (at + length a + length x + length b) h some k)

-- where each item has a comma behind it, and the last one's is the last byte, the bytes before that are the items
items_before : (ts : Trees) (at : ℕ) (w front : List ℕ) → Lined ts at front → front ≡ w ++ 0x2C ∷ [] → SpellsItems at w ts × AreSome ts
items_before no_trees at w front h e = absurd (true≢false (sym (spaces_behind w (0x2C ∷ []) (subst AreSpaces e h)).0))
items_before (tree_and t ts) at w front (a, x, b, q, f, ha, hb, hx, (g, eg, hg)) e =
    let bytes : w ++ 0x2C ∷ [] ≡ (a ++ (x ++ b)) ++ (0x2C ∷ g) = sym e ∙ (f ∙ (ap (λ o. a ++ (x ++ (b ++ o))) eg ∙ sym (append_assoc a (x ++ b) (0x2C ∷ g) ∙ ap (λ o. a ++ o) (append_assoc x b (0x2C ∷ g))))) in
    (item_before t ts at w a x b g ha hb hx hg (λ h k. items_before ts (at + length a + length x + length b + 1) h g hg k) (ends_in w (a ++ (x ++ b)) g bytes), tt)

-- ---- one feature an item

abbrev IsOne : List Feature → ℕ → Type 0
IsOne fs at = (f : Feature) × (fs ≡ f ∷ []) × (f.at ≡ at)

module _ (digits : ℕ) (how : Coords) where
  one_by_kind : (i : ℕ) (ms : Members) (kind : Option Kind) → (if_feature digits how i ms kind).faults ≡ [] → IsOne (if_feature digits how i ms kind).features i
  one_by_kind i ms (Some kinds.Feature) h = (_, refl, refl)
  one_by_kind i ms _ h = absurd (cc)

  -- an item without a fault is one feature, at its offset
  one_feature : (t : Tree) (at : ℕ) (v : List ℕ) → Spells at v t → (item_reading digits how t).faults ≡ [] → IsOne (item_reading digits how t).features at
  one_feature t at v hv h =
      let (i, ms, e) = an_object digits how t h in
      let place : i ≡ at = (object_parts ms i at v (subst (λ o. Spells at v o) e hv)).0 in
      let (f, g, k) = one_by_kind i ms (kind_of ms) (ap (λ o. (item_reading digits how o).faults) (sym e) ∙ h) in
      (f, ap (λ o. (item_reading digits how o).features) e ∙ g, k ∙ place)

  -- ---- the part is items

  pub listed_stands : (w r : List ℕ) (own : List Feature) → w ≡ 0x7B ∷ r → IsListed digits how w own → Stands digits how (0 + length opening) w own
  listed_stands w r own begins s =
      let fr = in_frame digits how (w ++ marker) (r ++ marker) (own ++ s.last ∷ []) (ap (λ o. o ++ marker) begins) s.no_fault s.has in
      let l = last_item fr.whole.items (0 + length opening) fr.whole.features fr.whole.spelled fr.some in
      let one : Trees = tree_and l.item no_trees in
      let (faults, last) = empty_parts (items_read digits how l.before).faults (items_read digits how one).faults (sym (ap (λ o. (items_read digits how o).faults) l.is ∙ faults_appended digits how l.before one) ∙ fr.fine.no_faults) in
      let (f, here, place) = one_feature l.item (0 + length opening + length l.front) l.bytes l.spelled (empty_parts (item_reading digits how l.item).faults [] last).0 in
      let all : own ++ s.last ∷ [] ≡ (items_read digits how l.before).features ++ f ∷ [] =
      fr.fine.has ∙ (ap (λ o. (items_read digits how o).features) l.is ∙ (features_appended digits how l.before one ∙ ap (λ o. (items_read digits how l.before).features ++ (o ++ [])) here)) in
      let same = same_from_push own (items_read digits how l.before).features s.last f all in
      let there : 0 + length opening + length l.front ≡ length opening + length w + 1 = sym place ∙ (ap (λ o. o.at) (sym same.1) ∙ s.place) in
      let comma : length (w ++ 0x2C ∷ []) ≡ length w + 1 = length-append w (0x2C ∷ []) in
      let size : length l.front ≡ length (w ++ 0x2C ∷ []) = omega (arith, there, comma) in
      let bytes : l.front ++ ((l.bytes ++ l.spaces) ++ (0x5D ∷ fr.whole.behind)) ≡ (w ++ 0x2C ∷ []) ++ (tail marker ++ closing) =
      sym (append_assoc l.front (l.bytes ++ l.spaces) (0x5D ∷ fr.whole.behind)) ∙ (sym (ap (λ o. o ++ (0x5D ∷ fr.whole.behind)) l.split) ∙ (sym fr.whole.split ∙ (append_assoc w marker closing ∙ sym (append_assoc w (0x2C ∷ []) (tail marker ++ closing))))) in
      let (spelled, some) = items_before l.before (0 + length opening) w l.front l.lined (same_length l.front ((l.bytes ++ l.spaces) ++ (0x5D ∷ fr.whole.behind)) (w ++ 0x2C ∷ []) (tail marker ++ closing) size bytes) in
      record {
        items = l.before;
        some = some;
        spelled = spelled;
        fine = record { has = same.0; no_faults = faults; no_twins = (empty_parts (twins_of_items l.before) (twins_of_items one) (sym (ap twins_of_items l.is ∙ twins_appended digits how l.before one) ∙ fr.fine.no_twins)).0 };
      }

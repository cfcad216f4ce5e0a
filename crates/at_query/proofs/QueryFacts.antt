-- A feature whose shape and texts are kept only as far as the query looks at them gives the part of the feature itself.
-- For `feature_part`, `object`, `root_part` and `value` of at_geojson.
use Rattle.std.proofs.Common.{◌≡◌, inl, inr, ℕ, Bool, true, false, ◌&&◌, ◌||◌, cond, bytes_eq, List, [], ◌∷◌, ◌++◌, refl, sym, ◌∙◌, ap, subst}
use Rattle.std.specs.List.{AllByRecursion, list_any}
use Rattle.std.proofs.Math.Bool.{and-false}
use Rattle.std.proofs.lemmas.Bool.{true≢false, and_parts, or_parts, and_from, or_left, or_right}
use Rattle.std.proofs.lemmas.Slice.Eq.{bytes_eq-Decides}
use Rattle.std.proofs.lemmas.List.Concat.{flat_map-cons}
use Rattle.at_geom.specs.declared.shapes.Shape.{Shape}
use Rattle.at_query.specs.declared.query.queries.Query.{Query}
use Rattle.at_query.specs.declared.query.queries.Test.{Test}
use Rattle.at_query.specs.declared.query.queries.Test.TheVariants.{Has}
use Rattle.at_query.specs.declared.features.TextPair.{TextPair}
use Rattle.at_query.specs.Keeping.{looks_at_shapes, looks_at_texts, needs_shapes, tells_shapes, wants_value, wants_pair, asks_value, asks_pair, asked_texts, kept_shape}
use Rattle.at_query.specs.Holding.{has_text, TestHolds, Holds}
use Rattle.std.specs.Prelude.{IsTrue}
use Rattle.at_geom.specs.Shapes.{positions, extent_of}
use Rattle.at_query.specs.declared.features.Feature.{Feature}
use Rattle.at_query.specs.declared.answer.parts.Entry.{Entry}
use Rattle.at_query.specs.declared.answer.parts.Part.{Part}
use Rattle.at_query.specs.declared.answer.parts.Part.TheVariants.{Offsets, Count, Area, Spread, Entries}
use Rattle.at_query.specs.declared.query.queries.Verb.{Verb}
use Rattle.at_query.specs.declared.query.queries.Verb.TheVariants as verbs
use Rattle.at_query.specs.Parts.{wrapped_sum, IsHullInRange, IsKeptOf, IsPart}
use Rattle.at_query.specs.Results.{all_positions}
use Rattle.at_query.proofs.KeptLists.{keeps_one}

abbrev entry_at : ℕ → Shape → Entry
entry_at at shape = record { at = at; shape = shape; extent = extent_of (positions shape) }

-- where nothing of shapes is left out
pub kept_whole : (b : Bool) (s : Shape) → b ≡ true → kept_shape b s ≡ s
kept_whole b s e = subst (λ c. kept_shape c s ≡ s) (sym e) refl

-- without a test of texts no value is asked for
pub none_asked : (tests : List Test) (value : List ℕ) → list_any looks_at_texts tests ≡ false → asks_value tests value ≡ false
none_asked [] value e = refl
none_asked (Has n v ∷ tests) value e = absurd (true≢false e)
none_asked (_ ∷ tests) value e = none_asked tests value e

-- a text for whose value nothing asks is asked for by no name
pub no_value : (name value : List ℕ) (tests : List Test) → asks_value tests value ≡ false → asks_pair tests name value ≡ false
no_value name value [] e = refl
no_value name value (t ∷ ts) e =
    let p = or_parts (wants_value value t) (asks_value ts value) e in
    ap (λ b. b || asks_pair ts name value) (own t p.0) ∙ no_value name value ts p.1 where
      own : (u : Test) → wants_value value u ≡ false → wants_pair name value u ≡ false
      own (Has n v) h = ap (λ b. bytes_eq n name && b) h ∙ and-false (bytes_eq n name)
      own _ h = refl

-- the texts that are asked for are among those that are kept
pub has_same : (tests : List Test) (name value : List ℕ) → asks_pair tests name value ≡ true → (pairs : List TextPair) → has_text (asked_texts tests pairs) name value ≡ has_text pairs name value
has_same tests name value asks [] = refl
has_same tests name value asks (p ∷ ps) = go (asks_pair tests p.name p.value) refl (has_same tests name value asks ps) where
  other : (b : Bool) → (bytes_eq p.name name && bytes_eq p.value value) ≡ b → asks_pair tests p.name p.value ≡ false → b ≡ false
  other false e n = refl
  other true e n =
      let en = (bytes_eq-Decides p.name name).0 (and_parts (bytes_eq p.name name) (bytes_eq p.value value) e).0 in
      let ev = (bytes_eq-Decides p.value value).0 (and_parts (bytes_eq p.name name) (bytes_eq p.value value) e).1 in
      absurd (true≢false (sym asks ∙ (ap (λ z. asks_pair tests z value) (sym en) ∙ (ap (asks_pair tests p.name) (sym ev) ∙ n))))

  go : (b : Bool) → asks_pair tests p.name p.value ≡ b → has_text (asked_texts tests ps) name value ≡ has_text ps name value → has_text (asked_texts tests (p ∷ ps)) name value ≡ has_text (p ∷ ps) name value
  go true e more = ap (λ c. has_text (cond c (p ∷ asked_texts tests ps) (asked_texts tests ps)) name value) e ∙ ap (λ z. (bytes_eq p.name name && bytes_eq p.value value) || z) more
  go false e more = ap (λ c. has_text (cond c (p ∷ asked_texts tests ps) (asked_texts tests ps)) name value) e ∙ (more
      ∙ ap (λ z. z || has_text ps name value) (sym (other (bytes_eq p.name name && bytes_eq p.value value) refl e)))

-- features at one offset
module _ (f g : Feature) (at_same : g.at ≡ f.at) where
  same_positions : g.shape ≡ f.shape → all_positions (g ∷ []) ≡ all_positions (f ∷ [])
  same_positions e = flat_map-cons (λ (x : Feature). positions x.shape) g [] ∙ (ap (λ (z : Shape). positions z ++ []) e ∙ sym (flat_map-cons (λ (x : Feature). positions x.shape) f []))

  one_kept : (v : Verb) (part : Part) → (tells_shapes v ≡ true → g.shape ≡ f.shape) → IsKeptOf v (g ∷ []) part → IsKeptOf v (f ∷ []) part
  one_kept verbs.Select part h p = p ∙ ap (λ z. Offsets (z ∷ [])) at_same
  one_kept verbs.Count part h p = p
  one_kept verbs.Area part h p = p ∙ ap (λ z. Area (wrapped_sum z)) (flat_map-cons (λ (x : Feature). x.shape.polygons) g [] ∙ (ap (λ (z : Shape). z.polygons ++ []) (h refl) ∙ sym (flat_map-cons (λ (x : Feature). x.shape.polygons) f [])))
  one_kept verbs.Extent part h p = p ∙ ap (λ z. Spread (extent_of z)) (same_positions (h refl))
  one_kept verbs.Hull part h (hull, e, k) = (hull, e, subst (λ z. IsHullInRange z hull) (same_positions (h refl)) k)
  one_kept verbs.Join part h p = p ∙ (ap (λ z. Entries (entry_at z g.shape ∷ [])) at_same ∙ ap (λ z. Entries (entry_at f.at z ∷ [])) (h refl))

  -- of both of which the query holds, or of neither
  pub part_of_both : (query : Query) → (tells_shapes query.verb ≡ true → g.shape ≡ f.shape) → (Holds query g → Holds query f) → (Holds query f → Holds query g) → (part : Part) → IsPart query (g ∷ []) part → IsPart query (f ∷ []) part
  part_of_both query told there back part (kept, inl (h, (zs, e, k)), p) = (f ∷ [], inl (there h, ([], refl, refl)), one_kept query.verb part told (subst (λ l. IsKeptOf query.verb l part) (e ∙ ap (λ z. g ∷ z) k) p))
  part_of_both query told there back part (kept, inr (n, k), p) = ([], inr (λ h. n (back h), refl), subst (λ l. IsKeptOf query.verb l part) k p)

module _ (query : Query) (f g : Feature) (at_same : g.at ≡ f.at) (shape_kept : g.shape ≡ kept_shape (needs_shapes query) f.shape) (texts_kept : g.texts ≡ asked_texts query.tests f.texts) where
  -- a test of the query holds of both or of neither
  one_test : (t : Test) → (looks_at_shapes t ≡ true → needs_shapes query ≡ true) → ((name value : List ℕ) → wants_pair name value t ≡ true → asks_pair query.tests name value ≡ true) → (TestHolds t g → TestHolds t f) × (TestHolds t f → TestHolds t g)
  one_test (Has n v) looks asks =
      let e = ap (λ z. has_text z n v) texts_kept ∙ has_same query.tests n v (asks n v (and_from (bytes_eq n n) (bytes_eq v v) ((bytes_eq-Decides n n).1 refl) ((bytes_eq-Decides v v).1 refl))) f.texts in
      (subst IsTrue e, subst IsTrue (sym e))
  one_test t looks asks =
      let s = shape_kept ∙ kept_whole (needs_shapes query) f.shape (looks refl) in
      let P : Shape → Type 0 = λ z. TestHolds t (record { at = f.at; shape = z; texts = f.texts }) in (subst P s, subst P (sym s))

  all_tests : (ts : List Test) → (list_any looks_at_shapes ts ≡ true → needs_shapes query ≡ true) → ((name value : List ℕ) → asks_pair ts name value ≡ true → asks_pair query.tests name value ≡ true)
      → (AllByRecursion (λ t. TestHolds t g) ts → AllByRecursion (λ t. TestHolds t f) ts) × (AllByRecursion (λ t. TestHolds t f) ts → AllByRecursion (λ t. TestHolds t g) ts)
  all_tests [] looks asks = (λ h. h, λ h. h)
  all_tests (t ∷ ts) looks asks =
      let one = one_test t (λ e. looks (or_left (looks_at_shapes t) (list_any looks_at_shapes ts) e)) (λ n v e. asks n v (or_left (wants_pair n v t) (asks_pair ts n v) e)) in
      let more = all_tests ts (λ e. looks (or_right (looks_at_shapes t) (list_any looks_at_shapes ts) e)) (λ n v e. asks n v (or_right (wants_pair n v t) (asks_pair ts n v) e)) in
      (λ h. (one.0 h.0, more.0 h.1), λ h. (one.1 h.0, more.1 h.1))

  holds_both : (Holds query g → Holds query f) × (Holds query f → Holds query g)
  holds_both = all_tests query.tests (λ e. or_right (tells_shapes query.verb) (list_any looks_at_shapes query.tests) e) (λ n v e. e)

  shape_told : tells_shapes query.verb ≡ true → g.shape ≡ f.shape
  shape_told e = shape_kept ∙ kept_whole (needs_shapes query) f.shape (or_left (tells_shapes query.verb) (list_any looks_at_shapes query.tests) e)

  pub same_part : (part : Part) → IsPart query (g ∷ []) part → IsPart query (f ∷ []) part
  same_part = part_of_both f g at_same query shape_told holds_both.0 holds_both.1

-- without tests the count of one feature is one
pub counted_one : (query : Query) (f : Feature) → query.verb ≡ verbs.Count → query.tests ≡ [] → IsPart query (f ∷ []) (Count 1)
counted_one query f v t =
    let holds : Holds query f = subst (AllByRecursion (λ (t : Test). TestHolds t f)) (sym t) tt in
    (f ∷ [], keeps_one (Holds query) f holds, subst (λ verb. IsKeptOf verb (f ∷ []) (Count 1)) (sym v) refl)

-- The part of a feature of which it is known whether all tests on texts hold of its texts. For `value` of at_geojson.
use Rattle.std.proofs.Common.{◌≡◌, ℕ, Bool, true, false, ◌&&◌, ◌||◌, bytes_eq, List, [], ◌∷◌, flat_map, Some, inr, refl, sym, ◌∙◌, ap, subst, append-nil}
use Rattle.std.specs.Prelude.{IsTrue}
use Rattle.std.specs.List.{AllByRecursion, list_any}
use Rattle.std.proofs.Math.Bool.{or-false}
use Rattle.std.proofs.lemmas.Bool.{true≢false, and_parts, and_from, or_left, or_right}
use Rattle.std.proofs.lemmas.Option.{same_Some}
use Rattle.std.proofs.lemmas.Slice.Eq.{bytes_eq-Decides}
use Rattle.std.proofs.lemmas.List.Concat.{flat_map-cons}
use Rattle.std.proofs.lemmas.List.Folds.{list_any-append}
use Rattle.at_geom.specs.declared.shapes.Shape.{Shape}
use Rattle.at_geom.specs.Shapes.{positions, extent_of}
use Rattle.at_query.specs.declared.query.queries.Query.{Query}
use Rattle.at_query.specs.declared.query.queries.Test.{Test}
use Rattle.at_query.specs.declared.query.queries.Test.TheVariants.{Has}
use Rattle.at_query.specs.declared.query.queries.Verb.{Verb}
use Rattle.at_query.specs.declared.query.queries.Verb.TheVariants as verbs
use Rattle.at_query.specs.declared.query.looks.Measure.{Measure}
use Rattle.at_query.specs.declared.query.looks.Measure.TheVariants as measures
use Rattle.at_query.specs.declared.features.Feature.{Feature}
use Rattle.at_query.specs.declared.features.TextPair.{TextPair}
use Rattle.at_query.specs.declared.answer.parts.Part.{Part}
use Rattle.at_query.specs.declared.answer.parts.Part.TheVariants as parts
use Rattle.at_query.specs.Holding.{has_text, TestHolds, Holds}
use Rattle.at_query.specs.Parts.{wrapped_sum, IsKeptOf, IsPart}
use Rattle.at_query.specs.Keeping.{looks_at_shapes, wants_pair, asks_pair, measured_by, measure_of, selects}
use Rattle.at_query.specs.Tallies.{IsPartOfShape}
use Rattle.at_query.specs.TextTests.{texts_hold, pair_of}
use Rattle.at_query.proofs.KeptLists.{keeps_one}
use Rattle.at_query.proofs.TallyFolds.{none_looks}
use Rattle.at_query.proofs.QueryFacts.{part_of_both}

-- ---- tests that hold

holds_all : (f : Feature) (tests : List Test) → list_any looks_at_shapes tests ≡ false → texts_hold tests f.texts ≡ true → AllByRecursion (λ t. TestHolds t f) tests
holds_all f [] none hold = tt
holds_all f (Has n v ∷ ts) none hold = let h = and_parts (has_text f.texts n v) (texts_hold ts f.texts) hold in (h.0, holds_all f ts none h.1)
holds_all f (_ ∷ ts) none hold = absurd (true≢false none)

pick : (a b : Bool) → (a && b) ≡ false → IsTrue a → (b ≡ false → ⊥) → ⊥
pick true b h q more = more h
pick false b h q more = absurd (true≢false (sym q))

holds_none : (f : Feature) (tests : List Test) → texts_hold tests f.texts ≡ false → AllByRecursion (λ t. TestHolds t f) tests → ⊥
holds_none f [] hold all = absurd (true≢false hold)
holds_none f (Has n v ∷ ts) hold all = pick (has_text f.texts n v) (texts_hold ts f.texts) hold all.0 (λ h. holds_none f ts h all.1)
holds_none f (_ ∷ ts) hold all = holds_none f ts hold all.1

-- a feature of which the query doesn't hold adds nothing
pub none_held : (query : Query) (f : Feature) (part : Part) → texts_hold query.tests f.texts ≡ false → IsPart query [] part → IsPart query (f ∷ []) part
none_held query f part hold (kept, e, k) = (kept, inr (holds_none f query.tests hold, e), k)

-- ---- measured shapes

module _ (f : Feature) (measure : Measure) (part : Part) (h : IsPartOfShape measure f.shape part) where
  same_measure : (m : Measure) → Some m ≡ Some measure → IsPartOfShape m f.shape part
  same_measure m e = subst (λ z. IsPartOfShape z f.shape part) (sym (same_Some m measure e)) h

  verb_keeps : (verb : Verb) → selects verb ≡ false → measured_by verb ≡ Some measure → IsKeptOf verb (f ∷ []) part
  verb_keeps verbs.Select isnt e = absurd (true≢false isnt)
  verb_keeps verbs.Count isnt e = same_measure measures.Count e
  verb_keeps verbs.Area isnt e = same_measure measures.Area e ∙ ap (λ z. parts.Area (wrapped_sum z)) (sym (append-nil f.shape.polygons))
  verb_keeps verbs.Extent isnt e = same_measure measures.Extent e ∙ ap (λ z. parts.Spread (extent_of z)) (sym (append-nil (positions f.shape)))
  verb_keeps verbs.Hull isnt e = absurd (cc)
  verb_keeps verbs.Join isnt e = absurd (cc)

offset_kept : (verb : Verb) (f : Feature) → selects verb ≡ true → IsKeptOf verb (f ∷ []) (parts.Offsets (f.at ∷ []))
offset_kept verbs.Select f e = refl
offset_kept _ f e = absurd (true≢false (sym e))

pub measured_part : (query : Query) (f : Feature) (measure : Measure) (part : Part) → selects query.verb ≡ false → measure_of query ≡ Some measure → IsPartOfShape measure f.shape part → texts_hold query.tests f.texts ≡ true → IsPart query (f ∷ []) part
measured_part query f measure part isnt e h hold =
    let k = none_looks query measure e in
    (f ∷ [], keeps_one (Holds query) f (holds_all f query.tests k.0 hold), verb_keeps f measure part h query.verb isnt k.1)

pub offset_part : (query : Query) (f : Feature) (measure : Measure) → selects query.verb ≡ true → measure_of query ≡ Some measure → texts_hold query.tests f.texts ≡ true → IsPart query (f ∷ []) (parts.Offsets (f.at ∷ []))
offset_part query f measure is e hold = (f ∷ [], keeps_one (Holds query) f (holds_all f query.tests (none_looks query measure e).0 hold), offset_kept query.verb f is)

-- ---- features that differ in their texts

has_asked : (tests : List Test) (n v : List ℕ) → has_text (flat_map pair_of tests) n v ≡ asks_pair tests n v
has_asked [] n v = refl
has_asked (t ∷ ts) n v =
    ap (λ z. has_text z n v) (flat_map-cons pair_of t ts) ∙ (list_any-append (λ (p : TextPair). bytes_eq p.name n && bytes_eq p.value v) (pair_of t) (flat_map pair_of ts)
    ∙ (ap (λ b. b || has_text (flat_map pair_of ts) n v) (own t) ∙ ap (λ b. wants_pair n v t || b) (has_asked ts n v))) where
      own : (u : Test) → has_text (pair_of u) n v ≡ wants_pair n v u
      own (Has m u) = or-false (bytes_eq m n && bytes_eq u v)
      own _ = refl

-- all tests on texts hold of the texts for which they ask
pairs_hold : (all ts : List Test) → ((n v : List ℕ) → asks_pair ts n v ≡ true → asks_pair all n v ≡ true) → texts_hold ts (flat_map pair_of all) ≡ true
pairs_hold all [] among = refl
pairs_hold all (Has n v ∷ ts) among =
    let own = and_from (bytes_eq n n) (bytes_eq v v) ((bytes_eq-Decides n n).1 refl) ((bytes_eq-Decides v v).1 refl) in
    and_from (has_text (flat_map pair_of all) n v) (texts_hold ts (flat_map pair_of all))
    (has_asked all n v ∙ among n v (or_left (bytes_eq n n && bytes_eq v v) (asks_pair ts n v) own))
    (pairs_hold all ts (λ m u e. among m u (or_right (bytes_eq n m && bytes_eq v u) (asks_pair ts m u) e)))
pairs_hold all (_ ∷ ts) among = pairs_hold all ts among

module _ (query : Query) (at : ℕ) (shape : Shape) (some texts : List TextPair) where
  abbrev f : Feature
  f = record { at = at; shape = shape; texts = texts }

  abbrev g : Feature
  g = record { at = at; shape = shape; texts = some }

  swapped : (tests : List Test) (a b : Feature) → a.shape ≡ b.shape → texts_hold tests b.texts ≡ true → AllByRecursion (λ t. TestHolds t a) tests → AllByRecursion (λ t. TestHolds t b) tests
  swapped [] a b e hold h = tt
  swapped (Has n v ∷ ts) a b e hold h = let k = and_parts (has_text b.texts n v) (texts_hold ts b.texts) hold in (k.0, swapped ts a b e k.1 h.1)
  swapped (t ∷ ts) a b e hold h = (subst (λ z. TestHolds t (record { at = b.at; shape = z; texts = b.texts })) e h.0, swapped ts a b e hold h.1)

  -- the part of the feature that has the texts for which tests ask
  pub asked_part : (part : Part) → some ≡ flat_map pair_of query.tests → texts_hold query.tests texts ≡ true → IsPart query (g ∷ []) part → IsPart query (f ∷ []) part
  asked_part part e new =
      let old = ap (texts_hold query.tests) e ∙ pairs_hold query.tests query.tests (λ n v k. k) in
      part_of_both f g refl query (λ e. refl) (swapped query.tests g f refl new) (swapped query.tests f g refl old) part

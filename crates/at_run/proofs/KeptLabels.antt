-- Of a feature whose label is kept only where a test asks for it the same is kept as of the feature with its label.
-- For `join_into`.
use Rattle.std.proofs.Common.{◌≡◌, ℕ, ◌%◌, ◌^◌, inl, inr, Bool, true, false, ◌&&◌, ◌||◌, if◌then◌else◌, bytes_eq, List, [], ◌∷◌, ◌++◌, Some, refl, sym, ◌∙◌, ap, subst, true≢false, length-append}
use Rattle.std.specs.Prelude.{flat_map}
use Rattle.std.proofs.lemmas.List.{map-append}
use Rattle.std.proofs.lemmas.Grind.{flat_map-append}
use Rattle.std.specs.List.{AllByRecursion, list_any}
use Rattle.std.proofs.lemmas.List.Concat.{flat_map-cons}
use Rattle.std.proofs.lemmas.Bool.{or_parts}
use Rattle.at_lex.specs.Strings.{Character, units_of}
use Rattle.at_geom.specs.declared.shapes.Shape.{Shape}
use Rattle.at_geom.specs.Shapes.{positions, extent_of}
use Rattle.at_query.specs.declared.query.queries.Query.{Query}
use Rattle.at_query.specs.declared.query.queries.Test.{Test}
use Rattle.at_query.specs.declared.query.queries.Test.TheVariants.{Has}
use Rattle.at_query.specs.declared.query.queries.Verb.{Verb}
use Rattle.at_query.specs.declared.query.queries.Verb.TheVariants as verbs
use Rattle.at_query.specs.declared.features.Feature.{Feature}
use Rattle.at_query.specs.declared.features.TextPair.{TextPair}
use Rattle.at_query.specs.declared.answer.parts.Part.{Part}
use Rattle.at_query.specs.declared.answer.parts.Part.TheVariants.{Offsets, Count, Area, Spread, Entries}
use Rattle.at_query.specs.declared.answer.accumulators.Accumulator.{Accumulator}
use Rattle.at_query.specs.declared.answer.accumulators.Accumulator.TheVariants.{Part as APart, Hull as AHull}
use Rattle.at_query.specs.Holding.{TestHolds, Holds}
use Rattle.at_query.specs.Parts.{entry_of, wrapped_sum, IsHullInRange, IsKeptOf}
use Rattle.at_query.specs.Accumulators.{IsKeptIn, IsAccumulated}
use Rattle.at_query.specs.Results.{Keeps, all_positions}
use Rattle.at_query.proofs.TextCounts.{same_eq}
use Rattle.at_query.proofs.Accumulating.{same_hull}
use Rattle.at_query.proofs.KeptLists.{keeps-append, keeps_parts, keeps_one, drops_one}
use Rattle.at_run.specs.Labels.{label_name, texts_of}
use Rattle.at_run.specs.Labelling.{asks_label}

-- what is listed of features, where the last one is another
all_of_last : {Y : Type 0} (f : Feature → List Y) (before : List Feature) (a b : Feature) → f a ≡ f b → flat_map f (before ++ a ∷ []) ≡ flat_map f (before ++ b ∷ [])
all_of_last f before a b e =
    let last = flat_map-cons f a [] ∙ (ap (λ z. z ++ flat_map f []) e ∙ sym (flat_map-cons f b [])) in
    flat_map-append f before (a ∷ []) ∙ ap (λ z. flat_map f before ++ z) last ∙ sym (flat_map-append f before (b ∷ []))

module _ (query : Query) (at : ℕ) (shape : Shape) (cs : List Character) where
  abbrev full : Feature
  full = record { at = at; shape = shape; texts = texts_of (Some cs) }

  abbrev bare : Feature
  bare = record { at = at; shape = shape; texts = [] }

  -- a test that doesn't ask for labels holds of both or of neither
  one_test : (t : Test) → asks_label t ≡ false → (TestHolds t full → TestHolds t bare) × (TestHolds t bare → TestHolds t full)
  one_test (Has name value) h =
      let no = same_eq label_name name ∙ h in (λ k. absurd (true≢false (sym (ap (λ b. (b && bytes_eq (units_of cs) value) || false) (sym no) ∙ k))), λ k. absurd (true≢false (sym k)))
  one_test _ h = (λ k. k, λ k. k)

  all_tests : (ts : List Test) → list_any asks_label ts ≡ false
      → (AllByRecursion (λ t. TestHolds t full) ts → AllByRecursion (λ t. TestHolds t bare) ts) × (AllByRecursion (λ t. TestHolds t bare) ts → AllByRecursion (λ t. TestHolds t full) ts)
  all_tests [] h = (λ k. k, λ k. k)
  all_tests (t ∷ ts) h =
      let (a, b) = or_parts (asks_label t) (list_any asks_label ts) h in
      let one = one_test t a in let more = all_tests ts b in
      (λ k. (one.0 k.0, more.0 k.1), λ k. (one.1 k.0, more.1 k.1))

  module _ (before : List Feature) where
    same_positions : all_positions (before ++ bare ∷ []) ≡ all_positions (before ++ full ∷ [])
    same_positions = all_of_last (λ (x : Feature). positions x.shape) before bare full refl

    last_kept : (v : Verb) (part : Part) → IsKeptOf v (before ++ bare ∷ []) part → IsKeptOf v (before ++ full ∷ []) part
    last_kept verbs.Select part p = p ∙ ap Offsets (map-append (λ (x : Feature). x.at) before (bare ∷ []) ∙ sym (map-append (λ (x : Feature). x.at) before (full ∷ [])))
    last_kept verbs.Count part p = p ∙ ap (λ n. Count (n % 2 ^ 64)) (length-append before (bare ∷ []) ∙ sym (length-append before (full ∷ [])))
    last_kept verbs.Area part p = p ∙ ap (λ z. Area (wrapped_sum z)) (all_of_last (λ (x : Feature). x.shape.polygons) before bare full refl)
    last_kept verbs.Extent part p = p ∙ ap (λ z. Spread (extent_of z)) same_positions
    last_kept verbs.Hull part (hull, e, k) = (hull, e, subst (λ z. IsHullInRange z hull) same_positions k)
    last_kept verbs.Join part p = p ∙ ap Entries (map-append entry_of before (bare ∷ []) ∙ sym (map-append entry_of before (full ∷ [])))

    last_accumulated : (v : Verb) (kept : Accumulator) → IsKeptIn v (before ++ bare ∷ []) kept → IsKeptIn v (before ++ full ∷ []) kept
    last_accumulated v (APart part) (n, is) = (n, last_kept v part is)
    last_accumulated v (AHull growth) is = same_hull v (before ++ bare ∷ []) (before ++ full ∷ []) growth same_positions is

  without_label : (before : List Feature) (kept : Accumulator) → list_any asks_label query.tests ≡ false → IsAccumulated query (before ++ bare ∷ []) kept → IsAccumulated query (before ++ full ∷ []) kept
  without_label before kept h (left, keeps, is) =
      let (xs, ys, same, here, last) = keeps_parts (Holds query) before (bare ∷ []) left keeps in
      of_last xs ys here last (rw same at is) where
        of_last : (xs ys : List Feature) → Keeps (Holds query) before xs → Keeps (Holds query) (bare ∷ []) ys → IsKeptIn query.verb (xs ++ ys) kept → IsAccumulated query (before ++ full ∷ []) kept
        of_last xs ys here (inl (p, (zs, e, k))) is = (
          xs ++ full ∷ [],
          keeps-append (Holds query) before (full ∷ []) xs (full ∷ []) here (keeps_one (Holds query) full ((all_tests query.tests h).1 p)),
          last_accumulated xs query.verb kept (rw (e, k) at is),
        )
        of_last xs ys here (inr (n, k)) is =
            (xs ++ [], keeps-append (Holds query) before (full ∷ []) xs [] here (drops_one (Holds query) full (λ p. n ((all_tests query.tests h).0 p))), rw k at is)

  pub kept_label : (before : List Feature) (texts : List TextPair) (kept : Accumulator) → texts ≡ (if list_any asks_label query.tests then texts_of (Some cs) else [])
      → IsAccumulated query (before ++ record { at = at; shape = shape; texts = texts } ∷ []) kept → IsAccumulated query (before ++ full ∷ []) kept
  kept_label before texts kept e h = go (list_any asks_label query.tests) refl (subst (λ z. IsAccumulated query (before ++ record { at = at; shape = shape; texts = z } ∷ []) kept) e h) where
    go : (b : Bool) → list_any asks_label query.tests ≡ b → IsAccumulated query (before ++ record { at = at; shape = shape; texts = if b then texts_of (Some cs) else [] } ∷ []) kept → IsAccumulated query (before ++ full ∷ []) kept
    go true e k = k
    go false e k = without_label before kept e k

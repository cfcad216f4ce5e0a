-- How many tests on texts the texts of an object meet: so many of each member's are counted as it is read. For `value`.
use Rattle.std.proofs.Common.{◌≡◌, ℕ, ◌+◌, Bool, true, false, ◌&&◌, ◌||◌, if◌then◌else◌, bytes_eq, List, [], ◌∷◌, ◌++◌, Option, Some, None, refl, sym, ◌∙◌, ap, append_assoc}
use Rattle.std.specs.List.{count_by}
use Rattle.std.proofs.Math.Bool.{or-false}
use Rattle.std.proofs.lemmas.Bool.{true≢false, and_parts}
use Rattle.std.proofs.lemmas.Slice.Eq.{bytes_eq-Decides}
use Rattle.at_nest.specs.declared.algebra.Member.{Member}
use Rattle.at_query.specs.declared.query.queries.Test.{Test}
use Rattle.at_query.specs.declared.query.queries.Test.TheVariants.{Has}
use Rattle.at_query.specs.declared.features.TextPair.{TextPair}
use Rattle.at_query.specs.Holding.{has_text}
use Rattle.at_query.specs.Keeping.{wants_pair, asks_value, asks_pair}
use Rattle.at_query.specs.TextTests.{met_of, is_met, met_by}
use Rattle.at_query.proofs.QueryFacts.{no_value}
use Rattle.at_query.proofs.TextCounts.{neither, same_eq, count_none, count_same, count_both, none_met, pair_meets, met_both}
use Rattle.at_geojson.specs.declared.atoms.atom.GeoAtom.{GeoAtom}
use Rattle.at_geojson.specs.Atoms.{as_text, asked_units}
use Rattle.at_geojson.specs.Gathering.{is_among}
use Rattle.at_geojson.specs.Objects.{kept_texts, pair_kept}

-- no text of the name is among those of members that have other names
pair_named : (tests : List Test) (own : List ℕ) (o : Option (List ℕ)) (rest : List TextPair) (name value : List ℕ) → bytes_eq name own ≡ false → has_text rest name value ≡ false → has_text (pair_kept tests own o rest) name value ≡ false
pair_named tests own None rest name value f h = h
pair_named tests own (Some v) rest name value f h = go (asks_pair tests own v) where
  go : (b : Bool) → has_text (if b then record { name = own; value = v } ∷ rest else rest) name value ≡ false
  go false = h
  go true = ap (λ d. (d && bytes_eq v value) || has_text rest name value) (same_eq own name ∙ f) ∙ h

none_named : (tests : List Test) (ms : List (Member GeoAtom)) (name value : List ℕ) → is_among ms name ≡ false → has_text (kept_texts tests ms) name value ≡ false
none_named tests [] name value e = refl
none_named tests (m ∷ ms) name value e =
    let k = neither (bytes_eq name m.name) (is_among ms name) e in
    pair_named tests m.name (as_text m.value) (kept_texts tests ms) name value k.0 (none_named tests ms name value k.1)

module _ (tests : List Test) (name : List ℕ) where
  -- the text that is kept of a member meets as many tests as ask for it
  one_met : (o : Option (List ℕ)) → met_by tests (pair_kept tests name o []) ≡ met_of tests name o
  one_met None = none_met tests
  one_met (Some value) = go (asks_pair tests name value) refl where
    go : (b : Bool) → asks_pair tests name value ≡ b → met_by tests (pair_kept tests name (Some value) []) ≡ count_by (wants_pair name value) tests
    go true e = ap (λ d. met_by tests (if d then record { name = name; value = value } ∷ [] else [])) e ∙ count_same (is_met (record { name = name; value = value } ∷ [])) (wants_pair name value) (pair_meets name value) tests
    go false e = ap (λ d. met_by tests (if d then record { name = name; value = value } ∷ [] else [])) e ∙ (none_met tests ∙ sym (count_none (wants_pair name value) tests e))

pair_behind : (tests : List Test) (name : List ℕ) (o : Option (List ℕ)) (rest : List TextPair) → pair_kept tests name o rest ≡ pair_kept tests name o [] ++ rest
pair_behind tests name None rest = refl
pair_behind tests name (Some value) rest = go (asks_pair tests name value) where
  go : (b : Bool) → (if b then record { name = name; value = value } ∷ rest else rest) ≡ (if b then record { name = name; value = value } ∷ [] else []) ++ rest
  go true = refl
  go false = refl

pub texts_behind : (tests : List Test) (ms : List (Member GeoAtom)) (m : Member GeoAtom) → kept_texts tests (ms ++ m ∷ []) ≡ kept_texts tests ms ++ pair_kept tests m.name (as_text m.value) []
texts_behind tests [] m = refl
texts_behind tests (x ∷ ms) m =
    pair_behind tests x.name (as_text x.value) (kept_texts tests (ms ++ m ∷ []))
    ∙ (ap (λ z. pair_kept tests x.name (as_text x.value) [] ++ z) (texts_behind tests ms m)
    ∙ (sym (append_assoc (pair_kept tests x.name (as_text x.value) []) (kept_texts tests ms) (pair_kept tests m.name (as_text m.value) []))
    ∙ ap (λ z. z ++ pair_kept tests m.name (as_text m.value) []) (sym (pair_behind tests x.name (as_text x.value) (kept_texts tests ms)))))

-- a test that the text of a member meets has its name
met_name : (tests : List Test) (name : List ℕ) (o : Option (List ℕ)) (n v : List ℕ) → has_text (pair_kept tests name o []) n v ≡ true → name ≡ n
met_name tests name None n v e = absurd (true≢false (sym e))
met_name tests name (Some value) n v e = go (asks_pair tests name value) e where
  go : (b : Bool) → has_text (if b then record { name = name; value = value } ∷ [] else []) n v ≡ true → name ≡ n
  go true h = (bytes_eq-Decides name n).0 (and_parts (bytes_eq name n) (bytes_eq value v) (sym (or-false (bytes_eq name n && bytes_eq value v)) ∙ h)).0
  go false h = absurd (true≢false (sym h))

-- one member more, of a name that no member before has
pub met_more : (tests : List Test) (ms : List (Member GeoAtom)) (m : Member GeoAtom) → is_among ms m.name ≡ false
    → met_by tests (kept_texts tests (ms ++ m ∷ [])) ≡ met_by tests (kept_texts tests ms) + met_of tests m.name (as_text m.value)
met_more tests ms m new =
    let more = pair_kept tests m.name (as_text m.value) [] in
    ap (met_by tests) (texts_behind tests ms m)
    ∙ (count_both (is_met (kept_texts tests ms)) (is_met more) (is_met (kept_texts tests ms ++ more)) (met_both (kept_texts tests ms) more) apart tests
    ∙ ap (λ z. met_by tests (kept_texts tests ms) + z) (one_met tests m.name (as_text m.value))) where
      apart : (t : Test) → is_met (pair_kept tests m.name (as_text m.value) []) t ≡ true → is_met (kept_texts tests ms) t ≡ false
      apart (Has n v) h = none_named tests ms n v (ap (is_among ms) (sym (met_name tests m.name (as_text m.value) n v h)) ∙ new)
      apart _ h = refl

-- of a text for which a test may ask
pub met_asked : (tests : List Test) (name value : List ℕ) → met_of tests name (asked_units tests value) ≡ count_by (wants_pair name value) tests
met_asked tests name value = go (asks_value tests value) refl where
  go : (b : Bool) → asks_value tests value ≡ b → met_of tests name (asked_units tests value) ≡ count_by (wants_pair name value) tests
  go true e = ap (λ c. met_of tests name (if c then Some value else None)) e
  go false e = ap (λ c. met_of tests name (if c then Some value else None)) e ∙ sym (count_none (wants_pair name value) tests (no_value name value tests e))

-- the same of what is known by equations
pub met_is : (tests ts : List Test) (name n value : List ℕ) (met : ℕ) (o : Option (List ℕ)) → ts ≡ tests → n ≡ name → met ≡ count_by (wants_pair n value) ts → o ≡ asked_units tests value → met ≡ met_of tests name o
met_is tests ts name n value met o et en e eo =
    e ∙ (ap (λ z. count_by (wants_pair n value) z) et ∙ (ap (λ z. count_by (wants_pair z value) tests) en ∙ (sym (met_asked tests name value) ∙ ap (met_of tests name) (sym eo))))

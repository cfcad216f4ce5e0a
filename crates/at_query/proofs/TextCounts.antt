-- How many tests on texts hold of texts, and how many ask for a text of a name and a value.
-- For `value` of at_geojson.
use Rattle.std.proofs.Common.{◌≡◌, ℕ, suc, ◌+◌, ◌≤◌, ◌==◌, Bool, true, false, not, ◌&&◌, ◌||◌, cond, bytes_eq, List, [], ◌∷◌, ◌++◌, length, Option, Some, None, refl, sym, ◌∙◌, ap, arith}
use Rattle.std.specs.List.{list_any, count_by}
use Rattle.std.proofs.Math.Bool.{or-false}
use Rattle.std.proofs.lemmas.Bool.{true≢false, not-true}
use Rattle.std.proofs.lemmas.List.Folds.{list_any-append}
use Rattle.std.proofs.lemmas.List.Sums.{sum_by-cons, count_by-le-length}
use Rattle.std.proofs.lemmas.Slice.Eq.{bytes_eq-Decides}
use Rattle.at_query.specs.declared.query.queries.Test.{Test}
use Rattle.at_query.specs.declared.query.queries.Test.TheVariants.{InBox, Has}
use Rattle.at_query.specs.declared.features.TextPair.{TextPair}
use Rattle.at_query.specs.Holding.{has_text}
use Rattle.at_query.specs.Keeping.{looks_at_texts, text_tests, wants_pair}
use Rattle.at_query.specs.TextTests.{wants_name, met_of, is_met, met_by, holds_if_text, texts_hold}

-- ---- counts

pub neither : (b c : Bool) → (b || c) ≡ false → (b ≡ false) × (c ≡ false)
neither true c e = absurd (true≢false e)
neither false c e = (refl, e)

abbrev one_if : Bool → ℕ
one_if b = cond b 1 0

module _ {X : Type 0} (p : X → Bool) where
  head : (x : X) (xs : List X) → count_by p (x ∷ xs) ≡ one_if (p x) + count_by p xs
  head x xs = sum_by-cons (λ y. one_if (p y)) x xs

  count_yes : (x : X) (xs : List X) → p x ≡ true → count_by p (x ∷ xs) ≡ suc (count_by p xs)
  count_yes x xs e = let one : one_if (p x) ≡ 1 = ap one_if e in omega (arith, head x xs, one)

  count_no : (x : X) (xs : List X) → p x ≡ false → count_by p (x ∷ xs) ≡ count_by p xs
  count_no x xs e = let none : one_if (p x) ≡ 0 = ap one_if e in omega (arith, head x xs, none)

  pub count_none : (xs : List X) → list_any p xs ≡ false → count_by p xs ≡ 0
  count_none [] e = refl
  count_none (x ∷ xs) e = let k = neither (p x) (list_any p xs) e in count_no x xs k.0 ∙ count_none xs k.1

pub count_same : {X : Type 0} (p q : X → Bool) → ((x : X) → p x ≡ q x) → (xs : List X) → count_by p xs ≡ count_by q xs
count_same p q h [] = refl
count_same p q h (x ∷ xs) = head p x xs ∙ (ap (λ b. one_if b + count_by p xs) (h x) ∙ (ap (λ n. one_if (q x) + n) (count_same p q h xs) ∙ sym (head q x xs)))

-- of two tests of which no element passes both
one_of_both : (b c : Bool) → (c ≡ true → b ≡ false) → one_if (b || c) ≡ one_if b + one_if c
one_of_both true true apart = absurd (true≢false (apart refl))
one_of_both true false apart = refl
one_of_both false c apart = omega arith

pub count_both : {X : Type 0} (p q r : X → Bool) → ((x : X) → r x ≡ (p x || q x)) → ((x : X) → q x ≡ true → p x ≡ false) → (xs : List X) → count_by r xs ≡ count_by p xs + count_by q xs
count_both p q r or apart [] = refl
count_both p q r or apart (x ∷ xs) =
    let e = ap one_if (or x) ∙ one_of_both (p x) (q x) (apart x) in
    omega (arith, e, head p x xs, head q x xs, head r x xs, count_both p q r or apart xs)

-- ---- texts and tests

pub same_eq : (a b : List ℕ) → bytes_eq a b ≡ bytes_eq b a
same_eq a b = go (bytes_eq a b) (bytes_eq b a) refl refl where
  go : (c d : Bool) → bytes_eq a b ≡ c → bytes_eq b a ≡ d → bytes_eq a b ≡ bytes_eq b a
  go true false e f = absurd (true≢false (sym ((bytes_eq-Decides b a).1 (sym ((bytes_eq-Decides a b).0 e))) ∙ f))
  go false true e f = absurd (true≢false (sym ((bytes_eq-Decides a b).1 (sym ((bytes_eq-Decides b a).0 f))) ∙ e))
  go _ _ e f = e ∙ sym f

nothing_met : (t : Test) → is_met [] t ≡ false
nothing_met (InBox e) = refl
nothing_met _ = refl

-- no text meets none
pub none_met : (ts : List Test) → met_by ts [] ≡ 0
none_met [] = refl
none_met (t ∷ ts) = count_no (is_met []) t ts (nothing_met t) ∙ none_met ts

-- a test that the pair meets asks for it
pub pair_meets : (name value : List ℕ) (t : Test) → is_met (record { name = name; value = value } ∷ []) t ≡ wants_pair name value t
pair_meets name value (Has n v) = or-false (bytes_eq name n && bytes_eq value v) ∙ (ap (λ b. b && bytes_eq value v) (same_eq name n) ∙ ap (λ b. bytes_eq n name && b) (same_eq value v))
pair_meets name value _ = refl

pub met_both : (texts more : List TextPair) (t : Test) → is_met (texts ++ more) t ≡ (is_met texts t || is_met more t)
met_both texts more (Has n v) = list_any-append (λ (p : TextPair). bytes_eq p.name n && bytes_eq p.value v) texts more
met_both texts more _ = refl

-- of a name for which no test asks
name_only : (name value : List ℕ) (t : Test) → wants_name name t ≡ false → wants_pair name value t ≡ false
name_only name value (Has n v) h = ap (λ b. b && bytes_eq v value) h
name_only name value _ h = refl

no_pairs : (name value : List ℕ) (ts : List Test) → list_any (wants_name name) ts ≡ false → list_any (wants_pair name value) ts ≡ false
no_pairs name value [] h = refl
no_pairs name value (t ∷ ts) h =
    let k = neither (wants_name name t) (list_any (wants_name name) ts) h in
    ap (λ b. b || list_any (wants_pair name value) ts) (name_only name value t k.0) ∙ no_pairs name value ts k.1

none_of : (tests : List Test) (name : List ℕ) (o : Option (List ℕ)) → list_any (wants_name name) tests ≡ false → met_of tests name o ≡ 0
none_of tests name None e = refl
none_of tests name (Some value) e = count_none (wants_pair name value) tests (no_pairs name value tests e)

-- a test on texts that doesn't hold of these
abbrev is_missed : List TextPair → Test → Bool
is_missed texts t = not (holds_if_text texts t)

some : (m n : ℕ) → m ≡ suc n → (m == 0) ≡ false
some m n e = grind (arith, e)

module _ (texts : List TextPair) where
  met_or_missed : (t : Test) → looks_at_texts t ≡ (is_met texts t || is_missed texts t)
  met_or_missed (Has n v) = go (has_text texts n v) where
    go : (b : Bool) → true ≡ (b || not b)
    go true = refl
    go false = refl
  met_or_missed _ = refl

  no_both : (t : Test) → is_missed texts t ≡ true → is_met texts t ≡ false
  no_both (Has n v) h = not-true (has_text texts n v) h
  no_both _ h = refl

  hold_is : (tests : List Test) → texts_hold tests texts ≡ (count_by (is_missed texts) tests == 0)
  hold_is [] = refl
  hold_is (t ∷ ts) = go (holds_if_text texts t) refl (hold_is ts) where
    go : (b : Bool) → holds_if_text texts t ≡ b → texts_hold ts texts ≡ (count_by (is_missed texts) ts == 0) → texts_hold (t ∷ ts) texts ≡ (count_by (is_missed texts) (t ∷ ts) == 0)
    go true e more = ap (λ z. z && texts_hold ts texts) e ∙ (more ∙ ap (λ n. n == 0) (sym (count_no (is_missed texts) t ts (ap not e))))
    go false e more = ap (λ z. z && texts_hold ts texts) e ∙ sym (some (count_by (is_missed texts) (t ∷ ts)) (count_by (is_missed texts) ts) (count_yes (is_missed texts) t ts (ap not e)))

pub all_met_is : (tests : List Test) (texts : List TextPair) (met : ℕ) → met ≡ met_by tests texts → (met == text_tests tests) ≡ texts_hold tests texts
all_met_is tests texts met e = rw (count_both (is_met texts) (is_missed texts) looks_at_texts (met_or_missed texts) (no_both texts) tests, hold_is texts tests, e) (same (met_by tests texts) (count_by (is_missed texts) tests)) where
  same : (m n : ℕ) → (m == m + n) ≡ (n == 0)
  same m n = grind arith

pub met_few : (tests : List Test) (texts : List TextPair) → met_by tests texts ≤ length tests
met_few tests texts = count_by-le-length (is_met texts) tests

-- the same of what is known by equations
pub met_by_is : (tests ts : List Test) (name n : List ℕ) (met : ℕ) (o : Option (List ℕ)) → ts ≡ tests → n ≡ name → met ≡ met_of ts n o → met ≡ met_of tests name o
met_by_is tests ts name n met o et en e = e ∙ (ap (λ z. met_of z n o) et ∙ ap (λ z. met_of tests z o) en)

-- the same of a name for which no test asks
pub none_met_of : (tests ts : List Test) (name n : List ℕ) (b : Bool) (o : Option (List ℕ)) → ts ≡ tests → n ≡ name → b ≡ list_any (wants_name n) ts → b ≡ false → met_of tests name o ≡ 0
none_met_of tests ts name n b o et en e f = none_of tests name o (sym (e ∙ (ap (λ z. list_any (wants_name n) z) et ∙ ap (λ z. list_any (wants_name z) tests) en)) ∙ f)

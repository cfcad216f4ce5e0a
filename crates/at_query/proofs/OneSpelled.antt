-- A text spells at most one query line, so it is one query, or has one fault: laws of the definitions, which no function's contract is needed for.
-- For the crates above.
use Rattle.std.proofs.Common.{◌≡◌, ℕ, ◌+◌, false, ◌==◌, if◌then◌else◌, List, [], ◌∷◌, ◌++◌, length, get_or, codes, Some, None, refl, sym, ◌∙◌, ap, subst, arith}
use Rattle.std.proofs.lemmas.Bool.{not-true}
use Rattle.std.proofs.lemmas.List.{append_cancel_left}
use Rattle.at_text.specs.Parts.{Exactly, ◌▸◌}
use Rattle.at_fixed.specs.declared.rounding.Coords.{Coords}
use Rattle.at_wkt.proofs.Agreement.{Agree, agree_then, agree_map, agree_exactly}
use Rattle.at_wkt.proofs.NumberSteps.{in_number}
use Rattle.at_wkt.proofs.OneBody.{one_number}
use Rattle.at_wkt.proofs.OneGeometry.{one_geometry}
use Rattle.at_lex.proofs.Unique.{head_same}
use Rattle.at_query.specs.declared.query.queries.Verb.{Verb}
use Rattle.at_query.specs.Spelling.{Placed, SpelledBox, Spelled, in_box, meets_box, meets, has, SpelledQuery, verb_text, SpellsPlaced, SpellsBox, SpellsTest, SpellsTests, IsSpelled}
use Rattle.at_query.specs.Queries.{query_of, spelled_fault, IsQueryOf, IsWrongAt}
pub use Rattle.at_query.proofs.StringParts.{one_string}
use Rattle.at_query.proofs.GeometryParts.{geometry_letter}
use Rattle.at_query.proofs.QueryParts.{letter_of, same_verb, verb_front}

-- ---- boxes

-- behind a word
agree_behind : {E : Type 0} (word : List ℕ) (A B : ℕ → List ℕ → Type 0) → Agree A B E → Agree (Exactly word ▸ A) (Exactly word ▸ B) E
agree_behind word A B h = agree_map (Exactly word ▸ A) (Exactly word ▸ B) (λ p. p.1) (agree_then (Exactly word) A (Exactly word) B (agree_exactly word) h)

placed_same : (n m : Placed) → n.number ≡ m.number → n.at ≡ m.at → n ≡ m
placed_same n m e f = let same : ◌≡◌ {A = Placed} (record { number = n.number; at = n.at }) (record { number = m.number; at = m.at }) = cc in same

one_placed : (n m : Placed) (b : ℕ) (t : List ℕ) → in_number b ≡ false → Agree (SpellsPlaced n (b ∷ t)) (SpellsPlaced m (b ∷ t)) (n ≡ m)
one_placed n m b t h = agree_map (SpellsPlaced n (b ∷ t)) (SpellsPlaced m (b ∷ t)) (λ p. placed_same n m p.0.0 p.0.1)
    (one_number n.number m.number n.at m.at (Exactly (b ∷ t)) (Exactly (b ∷ t)) (λ at v e. (b, t, e, h)) (λ at v e. (b, t, e, h)) (agree_exactly (b ∷ t)))

box_same : (b c : SpelledBox) → b.at ≡ c.at → b.low_x ≡ c.low_x → b.low_y ≡ c.low_y → b.high_x ≡ c.high_x → b.high_y ≡ c.high_y → b ≡ c
box_same b c e f g h k =
    let same : ◌≡◌ {A = SpelledBox} (record { at = b.at; low_x = b.low_x; low_y = b.low_y; high_x = b.high_x; high_y = b.high_y }) (record { at = c.at; low_x = c.low_x; low_y = c.low_y; high_x = c.high_x; high_y = c.high_y }) = cc in same

pub one_box : (b c : SpelledBox) → Agree (SpellsBox b) (SpellsBox c) (b ≡ c)
one_box b c at v w r s (eb, p) (ec, q) line =
    let ((x, (y, (z, o))), text) = agree_behind (codes "box(") _ _ (agree_then _ _ _ _ (one_placed b.low_x c.low_x 0x20 [] refl) (agree_then _ _ _ _ (one_placed b.low_y c.low_y 0x2C [] refl)
    (agree_then _ _ _ _ (one_placed b.high_x c.high_x 0x20 [] refl) (one_placed b.high_y c.high_y 0x29 [] refl)))) at v w r s p q line in
    (box_same b c (eb ∙ sym ec) x y z o, text)

-- ---- tests

abbrev kind_of : Spelled → ℕ
kind_of (in_box b) = 0
kind_of (has name value) = 1
kind_of (meets_box b) = 2
kind_of (meets g) = 3

-- the kind of a test is told by its first letter, and by the first letter behind `meets `
abbrev kind_by : List ℕ → ℕ
kind_by w = if get_or w 0 0 == 0x69 then 0 else (if get_or w 0 0 == 0x68 then 1 else (if get_or w 6 0 == 0x62 then 2 else 3))

kind_told : (t : Spelled) (at : ℕ) (v r : List ℕ) → SpellsTest t at v → kind_by (v ++ r) ≡ kind_of t
kind_told (in_box b) at v r (v1, v2, ev, word, s) = ap (λ z. kind_by (z ++ r)) (ev ∙ ap (λ z. z ++ v2) word)
kind_told (has name value) at v r (v1, v2, ev, word, s) = ap (λ z. kind_by (z ++ r)) (ev ∙ ap (λ z. z ++ v2) word)
kind_told (meets_box b) at v r (v1, v2, ev, word, (eb, (u1, u2, eu, box, s))) =
    ap (λ z. kind_by (z ++ r)) (ev ∙ (ap (λ z. z ++ v2) word ∙ ap (λ z. codes "meets " ++ z) (eu ∙ ap (λ z. z ++ u2) box)))
kind_told (meets g) at v r (v1, v2, ev, word, s) =
    let (b, t, e, h) = geometry_letter g (at + length v1) v2 s in
    ap (λ z. kind_by (z ++ r)) (ev ∙ (ap (λ z. z ++ v2) word ∙ ap (λ z. codes "meets " ++ z) e)) ∙ rw (not-true (b == 0x62) h) refl

pub one_test : (t u : Spelled) → Agree (SpellsTest t) (SpellsTest u) (t ≡ u)
one_test (in_box b) (in_box c) = agree_map _ _ (λ e. ap in_box e) (agree_behind (codes "in ") _ _ (one_box b c))
one_test (meets_box b) (meets_box c) = agree_map _ _ (λ e. ap meets_box e) (agree_behind (codes "meets ") _ _ (one_box b c))
one_test (meets g) (meets h) = agree_map _ _ (λ e. ap meets e) (agree_behind (codes "meets ") _ _ (one_geometry g h))
one_test (has n v) (has m u) =
    agree_map _ _ (λ p. let same : has n v ≡ has m u = ap (λ z. has z v) p.0 ∙ ap (λ z. has m z) p.1 in same)
    (agree_behind (codes "has ") _ _ (agree_then _ _ _ _ (one_string n m) (agree_behind (codes " = ") _ _ (one_string v u))))
one_test t u = λ at v w r s p q line. absurd (let e : kind_of t ≡ kind_of u = sym (kind_told t at v r p) ∙ (ap kind_by line ∙ kind_told u at w s q) in omega (arith, e))

-- ---- a query line, which is the whole text

some_word : (b : ℕ) (t v r : List ℕ) → [] ≡ v ++ r → v ≡ b ∷ t → ⊥
some_word b t v r e f = let line : [] ≡ b ∷ (t ++ r) = e ∙ ap (λ z. z ++ r) f in cc

-- behind parts that agree, what ends the text
one_rest : {E F : Type 0} (A B C D : ℕ → List ℕ → Type 0) → Agree A C E → ((at : ℕ) (w : List ℕ) → B at w → D at w → F) → (at : ℕ) (w : List ℕ) → (A ▸ B) at w → (C ▸ D) at w → E × F
one_rest A B C D one two at w (a, b, e, p, q) (c, d, f, m, n) =
    let (x, same) = one at a c b d p m (sym e ∙ f) in
    let rest : b ≡ d = append_cancel_left c b d (ap (λ z. z ++ b) (sym same) ∙ (sym e ∙ f)) in
    (x, two (at + length c) d (subst (B (at + length c)) rest (subst (λ z. B (at + length z) b) same q)) n)

pub one_tests : (b : ℕ) (t : List ℕ) (ts us : List Spelled) (at : ℕ) (w : List ℕ) → SpellsTests (b ∷ t) ts at w → SpellsTests (b ∷ t) us at w → ts ≡ us
one_tests b t [] [] at w h k = refl
one_tests b t [] (u ∷ us) at w h (v, r, e, p, q) = absurd (some_word b t v r (sym h ∙ e) p)
one_tests b t (s ∷ ts) [] at w (v, r, e, p, q) k = absurd (some_word b t v r (sym k ∙ e) p)
one_tests b t (s ∷ ts) (u ∷ us) at w h k =
    let A = SpellsTests (codes " and ") ts in let B = SpellsTests (codes " and ") us in
    let (first, (same, more)) = one_rest (Exactly (b ∷ t)) (SpellsTest s ▸ A) (Exactly (b ∷ t)) (SpellsTest u ▸ B) (agree_exactly (b ∷ t)) (one_rest (SpellsTest s) A (SpellsTest u) B (one_test s u) (λ i v p q. one_tests 0x20 (codes "and ") ts us i v p q)) at w h k in
    ap (λ z. z ∷ ts) same ∙ ap (λ z. u ∷ z) more

agree_verb : (x y : Verb) → Agree (Exactly (verb_text x)) (Exactly (verb_text y)) (x ≡ y)
agree_verb x y at v w r s h k line =
    let first = ap (λ z. z ++ r) (sym (h ∙ verb_front x)) ∙ (line ∙ ap (λ z. z ++ s) (k ∙ verb_front y)) in
    let same = same_verb x y (head_same (letter_of x) (letter_of y) _ _ first) in
    (same, h ∙ (ap verb_text same ∙ sym k))

-- a text spells at most one query line
pub one_spelled : (text : List ℕ) (p q : SpelledQuery) → IsSpelled text p → IsSpelled text q → p ≡ q
one_spelled text p q h k =
    let (verb, tests) = one_rest (Exactly (verb_text p.verb)) (SpellsTests (codes " where ") p.tests) (Exactly (verb_text q.verb)) (SpellsTests (codes " where ") q.tests) (agree_verb p.verb q.verb) (one_tests 0x20 (codes "where ") p.tests q.tests) 0 text h k in
    let same : ◌≡◌ {A = SpelledQuery} (record { verb = p.verb; tests = p.tests }) (record { verb = q.verb; tests = q.tests }) = cc in same

-- ---- what follows of queries and of faults

module _ (digits : ℕ) (how : Coords) (text : List ℕ) (line : SpelledQuery) (spelled : IsSpelled text line) where
  -- so what a reader says of a line follows from the line's spelling alone
  pub query_by : spelled_fault digits how line ≡ None → IsQueryOf digits how text (query_of digits how line)
  query_by none = record {
    line = line;
    spelled = spelled;
    faultless = none;
    query_is = refl;
    only = λ other h. let same = one_spelled text other line h spelled in (ap (spelled_fault digits how) same ∙ none, ap (query_of digits how) same);
  }

  pub wrong_by : (at : ℕ) → spelled_fault digits how line ≡ Some at → IsWrongAt digits how text at
  wrong_by at some = record {
    line = line;
    spelled = spelled;
    least = some;
    only = λ other h. ap (spelled_fault digits how) (one_spelled text other line h spelled) ∙ some;
  }

-- The word EMPTY, the words of the kinds with their letters, and parts that are EMPTY or in brackets.
-- For `read_line`, `read_geometry` and `Room::check_line`: the words of a geometry.
use Rattle.std.proofs.Common.{◌≡◌, ℕ, ◌+◌, ◌-◌, ◌<◌, ◌≤◌, ◌⊎◌, inl, inr, Bool, true, false, if◌then◌else◌, Option, Some, None, ◌&&◌, ◌==◌, List, [], ◌∷◌, ◌++◌, length, take, drop, slice_index, refl, sym, ◌∙◌, ap, arith, append-nil, append_assoc, length-append, take-append-drop}
use Rattle.std.specs.Str.{str_to_ascii_uppercase}
use Rattle.std.specs.Char.{to_ascii_uppercase}
use Rattle.std.proofs.lemmas.List.{length-map, map-append, drop-map}
use Rattle.std.proofs.lemmas.Option.{same_Some}
use Rattle.std.proofs.Math.Seq.{get_or-append_seam}
use Rattle.at_wkt.proofs.Names.{AnyCase, Dimension, Kind, Point, LineString, Polygon, MultiPoint, MultiLineString, MultiPolygon, GeometryCollection, is_blank, between, next, Allows, Spelt, Stuck, KeywordStands, KeywordBreaks, word_of, KindBreaks, opens}
use Rattle.at_fixed.proofs.DigitParts.{part-none, part-length, part-part}
use Rattle.at_wkt.proofs.Leads.{part-cons, Ahead, ahead_stuck, append_cases, same_length, same_or_less}
use Rattle.at_wkt.proofs.Steps.{no_blank}

abbrev capitals : List ℕ → List ℕ
capitals w = str_to_ascii_uppercase w

capitals-length : (v : List ℕ) → length (capitals v) ≡ length v
capitals-length v = length-map v to_ascii_uppercase

capitals-append : (a b : List ℕ) → capitals (a ++ b) ≡ capitals a ++ capitals b
capitals-append a b = map-append to_ascii_uppercase a b

-- ---- words

-- the word in any case, which stands for one value
abbrev pub Word : {X : Type 0} → List ℕ → X → ℕ → X → ℕ → List ℕ → Type 0
Word word x d y at w = (y ≡ x) × AnyCase word at w

pub word_spelt : {X : Type 0} (word : List ℕ) (x : X) (base : ℕ) (w : List ℕ) (i j : ℕ) (c : Dimension) → KeywordStands w i j word → (d : ℕ) × Allows c d → Spelt (Word word x) base w i c j c x
word_spelt word x base w i j c h some = record {
  order = h.order;
  within = h.within;
  some = some;
  narrows = λ d a. a;
  sound = λ d a. (refl, h.text);
  only = λ d y v r s a (ey, ev) e.
      let long : length v ≡ length (between w i j) = sym (capitals-length v) ∙ (ap length (ev ∙ sym h.text) ∙ capitals-length (between w i j)) in
      (ey, same_length v r (between w i j) s long e, a);
}

-- a word that agrees with letters that stand has none that differs
pub word_dead : (word : List ℕ) (w : List ℕ) (i n m : ℕ) (v r s : List ℕ) → KeywordBreaks w i n word → n ≤ m → m ≤ length w → capitals v ≡ word → v ++ r ≡ between w i m ++ (next w m ∷ s) → ⊥
word_dead word w i n m v r s h low high ev e =
    let (t, et) = ahead_stuck w n m s low high (same_or_less n m low) in
    let line : v ++ r ≡ between w i n ++ (next w n ∷ t) = e ∙ (ap (λ z. z ++ (next w m ∷ s)) (part-part w i n m h.order low high) ∙ (append_assoc (between w i n) (between w n m) (next w m ∷ s) ∙ ap (λ z. between w i n ++ z) et)) in
    let count : length (between w i n) ≡ n - i = omega (arith, part-length w i n h.order h.within) in
    elim (append_cases v r (between w i n) (next w n ∷ t) line) [
      | inl (same, rest) ↦ omega (arith, h.short, ap length same, capitals-length v, ap length ev)
      | inr (inl (x, xs, f, g)) ↦ omega (arith, h.short, ap length f, length-append v (x ∷ xs), capitals-length v, ap length ev)
      | inr (inr (x, xs, f, g)) ↦ (
          let first : next w n ≡ x = cc in
          let letters : word ≡ capitals (between w i n) ++ (to_ascii_uppercase x ∷ capitals xs) = sym ev ∙ (ap capitals f ∙ capitals-append (between w i n) (x ∷ xs)) in
          let place : n - i ≡ length (capitals (between w i n)) = sym (capitals-length (between w i n) ∙ count) in
          let here : slice_index word (n - i) ≡ to_ascii_uppercase x = ap (λ z. slice_index z (n - i)) letters ∙ (ap (slice_index (capitals (between w i n) ++ (to_ascii_uppercase x ∷ capitals xs))) place
          ∙ get_or-append_seam (capitals (between w i n)) (to_ascii_uppercase x) (capitals xs) 0) in
          h.differs (ap to_ascii_uppercase first ∙ sym here))
    ]

-- letters of a word that stand go on to the word
pub word_viable : (word u : List ℕ) (n : ℕ) → capitals word ≡ word → capitals u ≡ take n word → capitals (u ++ drop n word) ≡ word
word_viable word u n whole e = capitals-append u (drop n word) ∙ (ap (λ z. z ++ capitals (drop n word)) e ∙ (ap (λ z. take n word ++ z) (sym (drop-map to_ascii_uppercase n word) ∙ ap (drop n) whole) ∙ take-append-drop n word))

pub word_stuck : {X : Type 0} (word : List ℕ) (x : X) (base : ℕ) (w : List ℕ) (i n : ℕ) (c : Dimension) → capitals word ≡ word → KeywordBreaks w i n word → (d : ℕ) × Allows c d → Stuck (Word word x) base w i c n
word_stuck word x base w i n c whole h (d0, a0) = record {
  order = h.order;
  within = h.within;
  viable = (d0, x, drop (n - i) word, a0, (refl, word_viable word (between w i n) (n - i) whole h.text));
  dead = λ d y v r s a (ey, ev) e. word_dead word w i n n v r s h (omega arith) h.within ev e;
}

-- ---- kinds

abbrev begins_with : List ℕ → List ℕ → Bool
begins_with [] w = true
begins_with (b ∷ v) [] = false
begins_with (b ∷ v) (c ∷ w) = (b == c) && begins_with v w

-- the kind whose word begins the text
kind_by : List ℕ → Option Kind
kind_by w =
    if begins_with (word_of Point) w then Some Point
    else if begins_with (word_of LineString) w then Some LineString
    else if begins_with (word_of Polygon) w then Some Polygon
    else if begins_with (word_of MultiPoint) w then Some MultiPoint
    else if begins_with (word_of MultiLineString) w then Some MultiLineString
    else if begins_with (word_of MultiPolygon) w then Some MultiPolygon
    else if begins_with (word_of GeometryCollection) w then Some GeometryCollection
    else None

kind_of_word : (k : Kind) (w : List ℕ) → kind_by (word_of k ++ w) ≡ Some k
unfolding kind_by
kind_of_word Point w = refl
kind_of_word _ w = refl

-- no kind's word is the beginning of another's
kind_from : (k m : Kind) (w : List ℕ) → word_of m ≡ word_of k ++ w → k ≡ m
kind_from k m w e = same_Some k m (sym (kind_of_word k w) ∙ (ap kind_by (sym e) ∙ (ap kind_by (sym (append-nil (word_of m))) ∙ kind_of_word m [])))

kind_capitals : (k : Kind) → capitals (word_of k) ≡ word_of k
kind_capitals Point = refl
kind_capitals _ = refl

-- the word of a kind, in any case
abbrev pub KindWord : ℕ → Kind → ℕ → List ℕ → Type 0
KindWord d k = AnyCase (word_of k)

no_longer : (k m : Kind) (x : ℕ) (xs : List ℕ) → word_of k ≡ word_of m ++ (x ∷ xs) → ⊥
no_longer k m x xs e = omega (arith, ap length e, length-append (word_of m) (x ∷ xs), ap (λ z. length (word_of z)) (kind_from m k (x ∷ xs) e))

pub kind_only : (k m : Kind) (v u r s : List ℕ) → capitals u ≡ word_of k → capitals v ≡ word_of m → v ++ r ≡ u ++ s → (m ≡ k) × (v ≡ u)
kind_only k m v u r s eu ev e = elim (append_cases v r u s e) [
  | inl (same, rest) ↦ (sym (kind_from k m [] (sym ev ∙ (ap capitals same ∙ (eu ∙ sym (append-nil (word_of k)))))), same)
  | inr (inl (x, xs, f, g)) ↦ absurd (no_longer k m (to_ascii_uppercase x) (capitals xs) (sym eu ∙ (ap capitals f ∙ (capitals-append v (x ∷ xs) ∙ ap (λ z. z ++ capitals (x ∷ xs)) ev))))
  | inr (inr (x, xs, f, g)) ↦ absurd (no_longer m k (to_ascii_uppercase x) (capitals xs) (sym ev ∙ (ap capitals f ∙ (capitals-append u (x ∷ xs) ∙ ap (λ z. z ++ capitals (x ∷ xs)) eu))))
]

pub kind_spelt : (k : Kind) (base : ℕ) (w : List ℕ) (i j : ℕ) (c : Dimension) → KeywordStands w i j (word_of k) → (d : ℕ) × Allows c d → Spelt KindWord base w i c j c k
kind_spelt k base w i j c h some = record {
  order = h.order;
  within = h.within;
  some = some;
  narrows = λ d a. a;
  sound = λ d a. h.text;
  only = λ d m v r s a ev e. let (em, same) = kind_only k m v (between w i j) r s h.text ev e in (em, same, a);
}

pub kind_stuck : (base : ℕ) (w : List ℕ) (i n : ℕ) (c : Dimension) → KindBreaks w i n → (d : ℕ) × Allows c d → Stuck KindWord base w i c n
kind_stuck base w i n c h (d0, a0) = record {
  order = h.order;
  within = h.within;
  viable = (d0, h.kind, drop (n - i) (word_of h.kind), a0, word_viable (word_of h.kind) (between w i n) (n - i) (kind_capitals h.kind) h.text);
  dead = λ d m v r s a ev e. let (q, low, breaks) = h.breaks m in word_dead (word_of m) w i q n v r s breaks low h.within ev e;
}

-- ---- letters

pub opens_no_blank : (b : ℕ) → opens b ≡ true → no_blank b ≡ true
opens_no_blank b h = grind (arith, h)

pub letter_no_blank : (b : ℕ) → (to_ascii_uppercase b ≡ 0x5A) ⊎ (to_ascii_uppercase b ≡ 0x4D) → no_blank b ≡ true
letter_no_blank b (inl h) = grind (arith, h)
letter_no_blank b (inr h) = grind (arith, h)

pub opens_no_letter : (b : ℕ) → opens b ≡ true → (to_ascii_uppercase b ≡ 0x5A) ⊎ (to_ascii_uppercase b ≡ 0x4D) → ⊥
opens_no_letter b h (inl k) = grind (arith, h, k)
opens_no_letter b h (inr k) = grind (arith, h, k)

pub blank_no_letter : (b : ℕ) → is_blank b ≡ true → to_ascii_uppercase b ≡ 0x4D → ⊥
blank_no_letter b h k = grind (arith, h, k)

-- the text from a place on begins with its byte
pub stream : (w : List ℕ) (i j : ℕ) (s : List ℕ) → i ≤ j → j ≤ length w → Ahead w j s → (t : List ℕ) × (between w i j ++ s ≡ next w i ∷ t) × (i < j → t ≡ between w (i + 1) j ++ s)
stream w i j s low high (t, e) = elim (same_or_less i j low) [
  | inl same ↦ (t, ap (λ z. between w i z ++ s) (sym same) ∙ (ap (λ z. z ++ s) (part-none w i (omega (arith, same))) ∙ (e ∙ ap (λ z. next w z ∷ t) (sym same))), (λ less. absurd (omega (arith, same, less))))
  | inr less ↦ (between w (i + 1) j ++ s, ap (λ z. z ++ s) (part-cons w i j less high), (λ l. refl))
]

-- what the letter and what stands behind it is: a word of one, two or no letters
pub one_letter : (l word : List ℕ) (z : ℕ) → capitals l ≡ z ∷ [] → (b : ℕ) × (l ≡ b ∷ []) × (to_ascii_uppercase b ≡ z)
one_letter [] word z e = absurd (omega (arith, ap length e))
one_letter (b ∷ []) word z e = (b, refl, cc)
one_letter (b ∷ c ∷ l) word z e = absurd (omega (arith, ap length e))

pub two_letters : (l : List ℕ) (y z : ℕ) → capitals l ≡ y ∷ (z ∷ []) → (b c : ℕ) × (l ≡ b ∷ (c ∷ [])) × (to_ascii_uppercase b ≡ y) × (to_ascii_uppercase c ≡ z)
two_letters [] y z e = absurd (omega (arith, ap length e))
two_letters (b ∷ []) y z e = absurd (omega (arith, ap length e))
two_letters (b ∷ c ∷ []) y z e = (b, c, refl, cc, cc)
two_letters (b ∷ c ∷ d ∷ l) y z e = absurd (omega (arith, ap length e))

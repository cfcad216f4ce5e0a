-- The verbs, and a whole query line: what it says, what is wrong with it, and that its coordinates are in range.
-- For `read_query`.
use Rattle.std.proofs.Common.{◌≡◌, ℕ, ◌+◌, ◌≤◌, ◌==◌, ◌||◌, ◌&&◌, nat_lt, nat_le, ◌⊎◌, inl, inr, Bool, true, false, not, min, if◌then◌else◌, is_none, List, [], ◌∷◌, ◌++◌, length, take, drop, map, flat_map, codes, Option, Some, None, option_map, option_to_list, Result, Ok, Err, ℤ, refl, sym, ◌∙◌, ap, subst, arith}
use Rattle.std.specs.Option.{IfSome}
use Rattle.std.specs.List.{AllByRecursion, All}
use Rattle.at_text.specs.declared.faults.Fault.{Fault}
use Rattle.at_text.specs.declared.faults.FaultKind.{FaultKind}
use Rattle.at_text.specs.declared.faults.FaultKind.TheVariants.{Short, Ring}
use Rattle.at_text.specs.declared.halts.Halt.{Halt}
use Rattle.at_text.specs.Halts.{IfStopped}
use Rattle.at_text.proofs.Exits.{answers_by}
use Rattle.at_text.specs.Faults.{tier_of, number_of, comes_first, first_fault, first_of}
use Rattle.at_fixed.specs.declared.rounding.Coords.{Coords}
use Rattle.at_fixed.specs.declared.rounding.FixedFault.{FixedFault}
use Rattle.at_fixed.specs.declared.rounding.FixedFault.TheVariants.{Scale, Range}
use Rattle.at_fixed.specs.Fixed.{fixed_of}
use Rattle.at_geom.specs.Shapes.{line_fault, ring_fault, ArePathsInRange, IsShapeInRange}
use Rattle.at_wkt.specs.Positions.{Position, Positions, faults_in, number_fault, position_faults, items_faults, faults_of_line, faults_of_ring, is_closed}
use Rattle.at_wkt.specs.Geometry.{Geometry, Geometries, point, line_string, polygon, multi_point, multi_line_string, multi_polygon, collection, no_geometries, geometry_and}
use Rattle.at_geom.specs.Shapes.{empty_shape}
use Rattle.at_wkt.specs.Meaning.{shape_of, present, faults_of_area, faults_of, faults_of_all}
use Rattle.at_query.specs.declared.query.queries.Verb.{Verb}
use Rattle.at_query.specs.declared.query.queries.Verb.TheVariants.{Select, Count, Area, Extent, Hull, Join}
use Rattle.at_query.specs.declared.query.queries.Test.{Test}
use Rattle.at_query.specs.declared.query.queries.Test.TheVariants.{MeetsShape}
use Rattle.at_query.specs.Spelling.{Spelled, meets, SpelledQuery, IsSpelled, verb_text, meets_box, SpelledBox}
use Rattle.at_query.specs.Queries.{ats_of, lesser, least_of, test_faults, test_of, spelled_fault, query_of, IsQueryOf, IsWrongAt, IsNoQuery, box_shape, ring_of, extent_of_box, HasQueryFault, IfFaultAt}
use Rattle.at_fixed.specs.NumberSoFar.{between}
use Rattle.at_wkt.specs.Readers.{next}
use Rattle.at_query.specs.Readers.{Ends, past, Stops, Breaks, WordStands, WordBreaks, Word, Then, VerbPart, TestMeaning, test_meaning, Tests, tests_of, fault_of, QueryCovers, TestsCover}
use Rattle.at_query.proofs.Parted.{Lives, When, rest_onward, when_ends, when_stops, none_stops, word_ends, word_stops, then_covers}
use Rattle.at_query.proofs.BoxParts.{least_of-append}
use Rattle.std.proofs.lemmas.Bool.{eqb-true, eq-eqb}
use Rattle.std.specs.Result.{MatchResult, IfOk}
use Rattle.std.proofs.lemmas.List.Elements.{All-nil, All-cons, All-from_recursion}
use Rattle.at_geom.specs.declared.shapes.Polygon.{Polygon}
use Rattle.at_geom.specs.Segments.{IsInRange}
use Rattle.at_query.specs.declared.query.queries.Query.{Query}
use Rattle.at_query.specs.declared.query.reading.QueryEnd.{QueryEnd}
use Rattle.at_query.specs.declared.query.reading.QueryEnd.TheVariants.{Fault as FaultAt, Memory as NoMemory}
use Rattle.at_query.specs.declared.query.reading.QueryRead.{QueryRead}
use Rattle.at_query.specs.declared.query.reading.VerbRead.{VerbRead}
use Rattle.at_query.specs.Ranges.{IsTestInRange, IsQueryInRange}
use Rattle.at_query.proofs.ShapeRanges.{all_each, polygons_in, value_small, shape_in}

-- ---- verbs

abbrev pub letter_of : Verb → ℕ
letter_of Select = 0x73
letter_of Count = 0x63
letter_of Area = 0x61
letter_of Extent = 0x65
letter_of Hull = 0x68
letter_of Join = 0x6a

abbrev pub is_letter : Verb → ℕ → Bool
is_letter x b = b == letter_of x

abbrev One : Verb → Unit {0} → ℕ → List ℕ → Type 0
One x = Word (verb_text x)

-- the verb whose word begins with the letter
verb_of : ℕ → Verb
verb_of b = if b == 0x73 then Select else (if b == 0x63 then Count else (if b == 0x61 then Area else (if b == 0x65 then Extent else (if b == 0x68 then Hull else Join))))

verb_told : (x : Verb) → verb_of (letter_of x) ≡ x
unfolding verb_of
verb_told Select = refl
verb_told _ = refl

pub same_verb : (x y : Verb) → letter_of x ≡ letter_of y → x ≡ y
same_verb x y e = sym (verb_told x) ∙ (ap verb_of e ∙ verb_told y)

pub verb_front : (x : Verb) → verb_text x ≡ letter_of x ∷ drop 1 (verb_text x)
verb_front Select = refl
verb_front _ = refl

verb_from : (x y : Verb) (at : ℕ) (v : List ℕ) → VerbPart y at v → (b : Bool) → is_letter x (letter_of y) ≡ b → ((u : Unit {0}) × (y ≡ x) × One x u at v) ⊎ ((b : ℕ) × (t : List ℕ) × (v ≡ b ∷ t) × (is_letter x b ≡ false))
verb_from x y at v e true f = let same = same_verb y x (eqb-true (letter_of y) (letter_of x) f) in inl (tt, same, e ∙ ap verb_text same)
verb_from x y at v e false f = inr (letter_of y, drop 1 (verb_text y), e ∙ verb_front y, f)

when_verb : (x : Verb) → When VerbPart (One x) (λ u. x) (is_letter x)
when_verb x = record {
  to = λ u at v h. h;
  from = λ y at v h. verb_from x y at v h (is_letter x (letter_of y)) refl;
  begins = λ u at v e. (letter_of x, drop 1 (verb_text x), e ∙ verb_front x, eq-eqb (letter_of x) (letter_of x) refl);
}

abbrev is_verb_letter : ℕ → Bool
is_verb_letter b = (b == 0x73) || ((b == 0x63) || ((b == 0x61) || ((b == 0x65) || ((b == 0x68) || (b == 0x6A)))))

some_letter : (x : Verb) → is_verb_letter (letter_of x) ≡ true
some_letter Select = refl
some_letter _ = refl

verb_lives : Lives VerbPart
verb_lives at = (Join, codes "join", refl)

no_letter : (b : ℕ) → (b == 0x73) ≡ false → (b == 0x63) ≡ false → (b == 0x61) ≡ false → (b == 0x65) ≡ false → (b == 0x68) ≡ false → (b == 0x6A) ≡ false → is_verb_letter b ≡ false
no_letter b e f g h i k = grind (arith, e, f, g, h, i, k)

pub word_read : (x : Verb) (w : List ℕ) (r : Result VerbRead Halt) → is_letter x (next w 0) ≡ true → MatchResult r (λ read. (read.verb ≡ x) × WordStands w 0 read.end (verb_text x)) (λ halt. IfStopped halt (λ n. WordBreaks w 0 n (verb_text x)))
    → MatchResult r (λ read. Ends VerbPart w 0 read.end read.verb) (λ halt. IfStopped halt (Stops VerbPart w 0))
word_read x w r here h = answers_by r _ _ _ _ h (λ read (e, s). subst (Ends VerbPart w 0 read.end) (sym e) (when_ends (when_verb x) here (word_ends s))) (λ n s. when_stops (when_verb x) here (word_stops s))

pub no_verb : (w : List ℕ) → (next w 0 == 0x73) ≡ false → (next w 0 == 0x63) ≡ false → (next w 0 == 0x61) ≡ false → (next w 0 == 0x65) ≡ false → (next w 0 == 0x68) ≡ false → (next w 0 == 0x6A) ≡ false → Stops VerbPart w 0 0
no_verb w e f g h i k =
    none_stops is_verb_letter w 0 (λ x at v e. (letter_of x, drop 1 (verb_text x), e ∙ verb_front x, some_letter x)) verb_lives (omega arith) (no_letter (next w 0) e f g h i k)

-- ---- the faults of a geometry are of one tier, so the first of them has the least offset

abbrev pub Fourth : Fault → Type 0
Fourth f = tier_of f.kind ≡ 4

abbrev pub AreFourth : List Fault → Type 0
AreFourth fs = AllByRecursion Fourth fs

pub fourth_append : (fs gs : List Fault) → AreFourth fs → AreFourth gs → AreFourth (fs ++ gs)
fourth_append [] gs h k = k
fourth_append (f ∷ fs) gs (h, hs) k = (h, fourth_append fs gs hs k)

pub fourth_each : {X : Type 0} (f : X → List Fault) → ((x : X) → AreFourth (f x)) → (xs : List X) → AreFourth (flat_map f xs)
fourth_each f h [] = tt
fourth_each f h (x ∷ xs) = fourth_append (f x) (flat_map f xs) (h x) (fourth_each f h xs)

fourth_in : (r : Result ℤ FixedFault) (at : ℕ) → AreFourth (faults_in r at)
fourth_in (Ok z) at = tt
fourth_in (Err Scale) at = (refl, tt)
fourth_in (Err Range) at = (refl, tt)

fourth_if : (k : FaultKind) → tier_of k ≡ 4 → (b : Bool) (at : ℕ) → AreFourth (option_to_list (if b then Some (record { kind = k; at = at }) else None))
fourth_if k h true at = (h, tt)
fourth_if k h false at = tt

module _ (digits : ℕ) (how : Coords) where
  fourth_position : (p : Position) → AreFourth (position_faults digits how p)
  fourth_position p = fourth_append (number_fault digits how p.x p.x_at) (number_fault digits how p.y p.y_at) (fourth_in (fixed_of p.x digits how) p.x_at) (fourth_in (fixed_of p.y digits how) p.y_at)

  fourth_items : (ps : List Position) → AreFourth (items_faults digits how ps)
  fourth_items ps = fourth_each (position_faults digits how) fourth_position ps

  fourth_of_line : (ps : Positions) → AreFourth (faults_of_line digits how ps)
  fourth_of_line ps = fourth_append (option_to_list (line_fault (length ps.items) ps.at)) (items_faults digits how ps.items) (fourth_if Short refl (nat_lt (length ps.items) 2) ps.at) (fourth_items ps.items)

  fourth_of_ring : (ps : Positions) → AreFourth (faults_of_ring digits how ps)
  fourth_of_ring ps = fourth_append (option_to_list (ring_fault (length ps.items) (is_closed digits how ps.items) ps.at)) (items_faults digits how ps.items)
      (fourth_if Ring refl (nat_lt (length ps.items) 4 || not (is_closed digits how ps.items)) ps.at) (fourth_items ps.items)

  fourth_of_area : (rings : List Positions) → AreFourth (faults_of_area digits how rings)
  fourth_of_area rings = fourth_each (faults_of_ring digits how) fourth_of_ring rings

  mutual
    pub fourth_of : (g : Geometry) → AreFourth (faults_of digits how g)
    fourth_of (point p) = fourth_each (position_faults digits how) fourth_position (option_to_list p)
    fourth_of (line_string ps) = fourth_each (faults_of_line digits how) fourth_of_line (option_to_list ps)
    fourth_of (polygon rings) = fourth_of_area rings
    fourth_of (multi_point ps) = fourth_each (position_faults digits how) fourth_position (present ps)
    fourth_of (multi_line_string ls) = fourth_each (faults_of_line digits how) fourth_of_line (present ls)
    fourth_of (multi_polygon areas) = fourth_each (faults_of_area digits how) fourth_of_area areas
    fourth_of (collection gs) = fourth_of_all gs

    fourth_of_all : (gs : Geometries) → AreFourth (faults_of_all digits how gs)
    fourth_of_all no_geometries = tt
    fourth_of_all (geometry_and g gs) = fourth_append (faults_of digits how g) (faults_of_all digits how gs) (fourth_of g) (fourth_of_all gs)

abbrev before : ℕ → ℕ → ℕ → ℕ → ℕ → ℕ → Bool
before t u a b n m = nat_lt t u || ((t == u) && (nat_lt a b || ((a == b) && nat_le n m)))

no_later : (t u a b n m : ℕ) → t ≡ 4 → u ≡ 4 → before t u a b n m ≡ true → a ≤ b
no_later t u a b n m e f h = grind (arith, e, f, h)

no_earlier : (t u a b n m : ℕ) → t ≡ 4 → u ≡ 4 → before t u a b n m ≡ false → b ≤ a
no_earlier t u a b n m e f h = grind (arith, e, f, h)

abbrev at_of : Option Fault → Option ℕ
at_of o = option_map (λ (f : Fault). f.at) o

least_two : (f g : Fault) (b : Bool) → comes_first f g ≡ b → Fourth f → Fourth g
    → (at_of (if b then Some f else Some g) ≡ Some (min f.at g.at)) × IfSome (if b then Some f else Some g) Fourth
least_two f g true e h k =
    let low : f.at ≤ g.at = no_later (tier_of f.kind) (tier_of g.kind) f.at g.at (number_of f.kind) (number_of g.kind) h k e in
    let same : f.at ≡ min f.at g.at = omega (arith, low) in (ap (λ n. Some n) same, h)
least_two f g false e h k =
    let low : g.at ≤ f.at = no_earlier (tier_of f.kind) (tier_of g.kind) f.at g.at (number_of f.kind) (number_of g.kind) h k e in
    let same : g.at ≡ min f.at g.at = omega (arith, low) in (ap (λ n. Some n) same, k)

least_more : (f : Fault) (o : Option Fault) → Fourth f → IfSome o Fourth → (at_of (first_fault (Some f) o) ≡ lesser (Some f.at) (at_of o)) × IfSome (first_fault (Some f) o) Fourth
least_more f None h k = (refl, h)
least_more f (Some g) h k = least_two f g (comes_first f g) refl h k

first_least : (fs : List Fault) → AreFourth fs → (at_of (first_of fs) ≡ least_of (ats_of fs)) × IfSome (first_of fs) Fourth
first_least [] h = (refl, tt)
first_least (f ∷ fs) (h, hs) =
    let (e, k) = first_least fs hs in
    let (e2, k2) = least_more f (first_of fs) h k in
    (e2 ∙ ap (lesser (Some f.at)) e, k2)

no_lesser : (a b : Option ℕ) → lesser a b ≡ None → (a ≡ None) × (b ≡ None)
no_lesser None b h = (refl, h)
no_lesser (Some a) None h = absurd (cc)
no_lesser (Some a) (Some b) h = absurd (cc)

none_there : (o : Option Fault) → at_of o ≡ None → o ≡ None
none_there None h = refl
none_there (Some f) h = absurd (cc)

-- ---- what the tests say

module _ (digits : ℕ) (how : Coords) where
  fault_is : (t : Spelled) → least_of (test_faults digits how t) ≡ (test_meaning digits how t).fault
  fault_is (meets g) = sym (first_least (faults_of digits how g) (fourth_of digits how g)).0
  fault_is _ = refl

  faults_are : (ts : List Spelled) → least_of (flat_map (test_faults digits how) ts) ≡ fault_of (map (test_meaning digits how) ts)
  faults_are [] = refl
  faults_are (t ∷ ts) =
      least_of-append (test_faults digits how t) (flat_map (test_faults digits how) ts) ∙ (ap (λ z. lesser z (least_of (flat_map (test_faults digits how) ts))) (fault_is t)
      ∙ ap (lesser (test_meaning digits how t).fault) (faults_are ts))

  test_is : (t : Spelled) → (test_meaning digits how t).fault ≡ None → (test_meaning digits how t).test ≡ test_of digits how t
  test_is (meets g) h = ap (λ z. MeetsShape (if is_none z then shape_of digits how g else empty_shape)) (none_there (first_of (faults_of digits how g)) h)
  test_is _ h = refl

  tests_are : (ts : List Spelled) → fault_of (map (test_meaning digits how) ts) ≡ None → tests_of (map (test_meaning digits how) ts) ≡ map (test_of digits how) ts
  tests_are [] h = refl
  tests_are (t ∷ ts) h =
      let (one, rest) = no_lesser (test_meaning digits how t).fault (fault_of (map (test_meaning digits how) ts)) h in
      ap (λ z. z ∷ tests_of (map (test_meaning digits how) ts)) (test_is t one) ∙ ap (λ z. test_of digits how t ∷ z) (tests_are ts rest)

  -- ---- the whole line

  abbrev Where : List TestMeaning → ℕ → List ℕ → Type 0
  Where = Tests digits how (codes " where ")

  abbrev Whole : Verb × List TestMeaning → ℕ → List ℕ → Type 0
  Whole = Then VerbPart Where

  abbrev meant_by : SpelledQuery → Verb × List TestMeaning
  meant_by q = (q.verb, map (test_meaning digits how) q.tests)

  line_of : (p : Verb × List TestMeaning) (v : List ℕ) → Whole p 0 v → (q : SpelledQuery) × IsSpelled v q × (p ≡ meant_by q)
  line_of p v (v1, v2, ev, hv, (ts, em, s)) = (record { verb = p.0; tests = ts }, (v1, v2, ev, hv, s), ap (λ z. (p.0, z)) em)

  whole_of : (q : SpelledQuery) (v : List ℕ) → IsSpelled v q → Whole (meant_by q) 0 v
  whole_of q v (v1, v2, ev, hv, s) = (v1, v2, ev, hv, (q.tests, refl, s))

  module _ (w : List ℕ) where
    pub query_breaks : (n : ℕ) → Breaks Whole w 0 n → IsNoQuery digits how w n
    query_breaks n h = record {
      no_query = λ (q, s). h.dead (meant_by q) w (whole_of q w s) (rest_onward w 0 n h.order h.within);
      longest = record {
        fits = h.within;
        front = (let (p, more, s) = h.viable in let (q, t, e) = line_of p (between w 0 n ++ more) s in (more, (q, t)));
        longest = λ below (more, (q, s)). h.dead (meant_by q) (take (n + 1) w ++ more) (whole_of q (take (n + 1) w ++ more) s) (past below more refl);
      };
    }

    module _ (verb : Verb) (items : List Test) (fault : Option ℕ) (h : QueryCovers digits how w verb items fault) where
      same_line : (q : SpelledQuery) → IsSpelled w q → meant_by q ≡ (verb, h.meanings)
      same_line q s = h.covers.only (meant_by q) (whole_of q w s)

      line_fault_is : (q : SpelledQuery) → meant_by q ≡ (verb, h.meanings) → spelled_fault digits how q ≡ fault
      line_fault_is q e = faults_are q.tests ∙ (ap (λ (z : Verb × List TestMeaning). fault_of z.1) e ∙ sym h.fault_is)

      line_query_is : (q : SpelledQuery) → meant_by q ≡ (verb, h.meanings) → fault ≡ None → query_of digits how q ≡ record { verb = verb; tests = items }
      line_query_is q e f =
          let none : fault_of (map (test_meaning digits how) q.tests) ≡ None = sym (faults_are q.tests) ∙ (line_fault_is q e ∙ f) in
          let tests : map (test_of digits how) q.tests ≡ items = sym (tests_are q.tests none) ∙ (ap (λ (z : Verb × List TestMeaning). tests_of z.1) e ∙ sym h.items_are) in
          ap (λ z. record { verb = q.verb; tests = z }) tests ∙ ap (λ (z : Verb × List TestMeaning). record { verb = z.0; tests = items }) e

      pub query_answer : fault ≡ None → IsQueryOf digits how w (record { verb = verb; tests = items })
      query_answer f =
          let (q, s, e) = line_of (verb, h.meanings) w h.covers.sound in
          record {
            line = q;
            spelled = s;
            faultless = line_fault_is q (sym e) ∙ f;
            query_is = sym (line_query_is q (sym e) f);
            only = λ other t. (line_fault_is other (same_line other t) ∙ f, line_query_is other (same_line other t) f);
          }

      pub query_wrong : (at : ℕ) → fault ≡ Some at → IsWrongAt digits how w at
      query_wrong at f =
          let (q, s, e) = line_of (verb, h.meanings) w h.covers.sound in
          record { line = q; spelled = s; least = line_fault_is q (sym e) ∙ f; only = λ other t. line_fault_is other (same_line other t) ∙ f }

pub whole_covers : (digits : ℕ) (how : Coords) (w : List ℕ) (j : ℕ) (verb : Verb) → Ends VerbPart w 0 j verb → (items : List Test) (fault : Option ℕ) → TestsCover digits how w j items fault → QueryCovers digits how w verb items fault
whole_covers digits how w j verb h items fault t = record { meanings = t.meanings; covers = then_covers h t.covers; items_are = t.items_are; fault_is = t.fault_is }

-- ---- coordinates in range

module _ (digits : ℕ) (how : Coords) where
  box_in : (b : SpelledBox) → IsShapeInRange (box_shape (extent_of_box digits how b))
  box_in b =
      let x = value_small digits how b.low_x.number in
      let y = value_small digits how b.low_y.number in
      let u = value_small digits how b.high_x.number in
      let v = value_small digits how b.high_y.number in
      let ring : All IsInRange (ring_of (extent_of_box digits how b)) = All-from_recursion IsInRange (ring_of (extent_of_box digits how b)) ((x, y), ((u, y), ((u, v), ((x, v), ((x, y), tt))))) in
      polygons_in (record { rings = ring_of (extent_of_box digits how b) ∷ [] } ∷ [])
      (All-cons (λ (p : Polygon). ArePathsInRange p.rings) (record { rings = ring_of (extent_of_box digits how b) ∷ [] }) [] (All-cons (All IsInRange) (ring_of (extent_of_box digits how b)) [] ring (All-nil (All IsInRange))) (All-nil (λ (p : Polygon). ArePathsInRange p.rings)))

  test_in : (t : Spelled) → IsTestInRange (test_of digits how t)
  test_in (meets_box b) = box_in b
  test_in (meets g) = shape_in digits how g
  test_in _ = tt

  pub query_in_range : (text : List ℕ) (query : Query) → IsQueryOf digits how text query → IsQueryInRange query
  query_in_range text query h = subst IsQueryInRange (sym h.query_is) (all_each IsTestInRange (test_of digits how) test_in h.line.tests)

  -- ---- the answer

  abbrev Answered : List ℕ → Result Query QueryEnd → Type 0
  Answered text answer = MatchResult answer (IsQueryOf digits how text) (λ end. IfFaultAt end (HasQueryFault digits how text))

  pub query_answers : (text : List ℕ) (read : QueryRead) (answer : Result Query QueryEnd) → QueryCovers digits how text read.query.verb read.query.tests read.fault
      → MatchResult answer (λ query. (query ≡ read.query) × (read.fault ≡ None)) (λ end. IfFaultAt end (λ at. read.fault ≡ Some at)) → Answered text answer
  query_answers text read (Ok query) h (e, f) = subst (IsQueryOf digits how text) (sym e) (query_answer digits how text read.query.verb read.query.tests read.fault h f)
  query_answers text read (Err (FaultAt at)) h f = inr (query_wrong digits how text read.query.verb read.query.tests read.fault h at f)
  query_answers text read (Err NoMemory) h f = tt

  pub answers_in_range : (text : List ℕ) (answer : Result Query QueryEnd) → Answered text answer → IfOk answer IsQueryInRange
  answers_in_range text (Ok query) h = query_in_range text query h
  answers_in_range text (Err e) h = tt

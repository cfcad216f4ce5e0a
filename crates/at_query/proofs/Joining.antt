-- The part of joined lists, from the parts of both; with few features and positions, what a part holds is the answer itself.
-- For `add`, `add_lent`, `answer_of`, `from_part`, `join`, `part_merge` and `part_of`.
use Rattle.std.proofs.Common.{◌≡◌, ℕ, ◌+◌, ◌%◌, ◌^◌, ℤ, ◌+ℤ◌, List, ◌++◌, All, length, Option, arith, refl, sym, ap, subst, length-append, pos, ◌<◌, ◌≤◌, [], ◌∷◌, ◌∙◌}
use Rattle.std.specs.Int.{w128, int_wrap}
use Rattle.std.proofs.lemmas.List.{map-append}
use Rattle.std.proofs.lemmas.Grind.{flat_map-append}
use Rattle.at_geom.specs.declared.positions.Pos.{Pos}
use Rattle.at_geom.specs.Segments.{IsInRange}
use Rattle.at_hull.specs.Hulls.{IsHull}
use Rattle.at_hull.proofs.Laws.{hull_of_hull}
use Rattle.at_geom.specs.declared.rectangles.Extent.{Extent}
use Rattle.at_geom.specs.Shapes.{positions, joined, positions_of_polygons, ArePathsInRange, ArePolygonsInRange}
use Rattle.at_query.specs.declared.query.queries.Verb.{Verb}
use Rattle.at_query.specs.declared.query.queries.Verb.TheVariants as verbs
use Rattle.at_query.specs.declared.query.queries.Query.{Query}
use Rattle.at_query.specs.declared.features.Feature.{Feature}
use Rattle.at_query.specs.declared.answer.parts.Entry.{Entry}
use Rattle.at_query.specs.declared.answer.parts.Part.{Part}
use Rattle.at_query.specs.declared.answer.parts.Part.TheVariants.{Offsets, Count, Area, Spread, Entries, Hull}
use Rattle.at_query.specs.Holding.{Holds}
use Rattle.at_query.specs.Results.{all_positions, all_polygons, Keeps, IsAskedOf, IsResult}
use Rattle.at_query.specs.Parts.{entry_of, IsHullInRange, IsKeptOf, wrapped_sum, IsPart, IsProper, AreAlike, JoinsParts, AreFew}
use Rattle.at_query.specs.Joined.{around_both, JoinsHulls}
use Rattle.at_query.proofs.KeptLists.{keeps-append, kept_all, kept_weight, kept_length}
use Rattle.at_query.proofs.Spreads.{extent_of-append}
use Rattle.at_query.proofs.Areas.{wrapped_sum-append, wrapped_sum_is}
use Rattle.std.specs.List.{AllByRecursion}
use Rattle.std.proofs.lemmas.List.Elements.{recursion_from_All, All-append}
use Rattle.at_geom.specs.declared.shapes.Polygon.{Polygon}
use Rattle.at_query.specs.declared.answer.answers.Answer.TheVariants as answers
use Rattle.at_query.specs.Ranges.{IsFeatureInRange, AreFeaturesInRange}

-- the verb that keeps the part
abbrev pub verb_of : Part → Verb
verb_of (Offsets a) = verbs.Select
verb_of (Count n) = verbs.Count
verb_of (Area z) = verbs.Area
verb_of (Spread e) = verbs.Extent
verb_of (Entries es) = verbs.Join
verb_of (Hull h) = verbs.Hull

pub kept_verb : (verb : Verb) (fs : List Feature) (part : Part) → IsKeptOf verb fs part → verb ≡ verb_of part
kept_verb verbs.Hull fs part (h, e, k) = sym (ap verb_of e)
kept_verb _ fs part e = sym (ap verb_of e)

-- a part of which the value of joined lists is known
joins_by : (left right part : Part) → ((xs ys : List Feature) → IsKeptOf (verb_of left) xs left → IsKeptOf (verb_of left) ys right → IsKeptOf (verb_of left) (xs ++ ys) part) → JoinsParts left right part
joins_by left right part value query fs gs (xs, h, e) (ys, k, f) =
    let verb = kept_verb query.verb xs left e in
    let both = value xs ys (subst (λ v. IsKeptOf v xs left) verb e) (subst (λ v. IsKeptOf v ys right) verb f) in
    (xs ++ ys, keeps-append (Holds query) fs gs xs ys h k, subst (λ v. IsKeptOf v (xs ++ ys) part) (sym verb) both)

pub joins_offsets : (left right : Part) (a b c : List ℕ) → left ≡ Offsets a → right ≡ Offsets b → c ≡ a ++ b → JoinsParts left right (Offsets c)
joins_offsets left right a b c p q r = rw (p, q, r) (joins_by (Offsets a) (Offsets b) (Offsets (a ++ b)) (λ xs ys e f. cc (e, f, map-append (λ (x : Feature). x.at) xs ys)))

pub joins_counts : (left right : Part) (a b c : ℕ) → left ≡ Count a → right ≡ Count b → c ≡ (a + b) % 2 ^ 64 → JoinsParts left right (Count c)
joins_counts left right a b c p q r = rw (p, q, r) (joins_by (Count a) (Count b) (Count ((a + b) % 2 ^ 64)) (λ xs ys e f.
    let sum : (length xs % 2 ^ 64 + length ys % 2 ^ 64) % 2 ^ 64 ≡ length (xs ++ ys) % 2 ^ 64 = omega (arith, length-append xs ys) in cc (e, f)))

pub joins_areas : (left right : Part) (a b c : ℤ) → left ≡ Area a → right ≡ Area b → c ≡ int_wrap w128 (a +ℤ b) → JoinsParts left right (Area c)
joins_areas left right a b c p q r = rw (p, q, r) (joins_by (Area a) (Area b) (Area (int_wrap w128 (a +ℤ b))) (λ xs ys e f.
    cc (e, f, wrapped_sum-append (all_polygons xs) (all_polygons ys), flat_map-append (λ (x : Feature). x.shape.polygons) xs ys)))

pub joins_spreads : (left right : Part) (a b c : Option Extent) → left ≡ Spread a → right ≡ Spread b → c ≡ around_both a b → JoinsParts left right (Spread c)
joins_spreads left right a b c p q r = rw (p, q, r) (joins_by (Spread a) (Spread b) (Spread (around_both a b)) (λ xs ys e f.
    cc (e, f, extent_of-append (all_positions xs) (all_positions ys), flat_map-append (λ (x : Feature). positions x.shape) xs ys)))

pub joins_entries : (left right : Part) (a b c : List Entry) → left ≡ Entries a → right ≡ Entries b → c ≡ a ++ b → JoinsParts left right (Entries c)
joins_entries left right a b c p q r = rw (p, q, r) (joins_by (Entries a) (Entries b) (Entries (a ++ b)) (λ xs ys e f. cc (e, f, map-append entry_of xs ys)))

pub joins_hulls : (left right : Part) (a b c : List Pos) → left ≡ Hull a → right ≡ Hull b → JoinsHulls a b c → All IsInRange c → JoinsParts left right (Hull c)
joins_hulls left right a b c p q joins range = rw (p, q) (joins_by (Hull a) (Hull b) (Hull c) (λ xs ys (h, e, k) (g, f, l).
    let left_hull : h ≡ a = cc (e) in
    let right_hull : g ≡ b = cc (f) in
    let both = joins (all_positions xs) (all_positions ys) (subst (λ z. IsHull (all_positions xs) z) left_hull k.0) (subst (λ z. IsHull (all_positions ys) z) right_hull l.0) in
    (c, refl, (subst (λ z. IsHull z c) (sym (flat_map-append (λ (x : Feature). positions x.shape) xs ys)) both, range))))

-- ---- which parts can be joined

proper_hull : (ps h : List Pos) → IsHullInRange ps h → IsHullInRange h h
proper_hull ps h (k, range) = (hull_of_hull ps h k, range)

pub kept_is_proper : (verb : Verb) (xs : List Feature) (part : Part) → IsKeptOf verb xs part → IsProper part
kept_is_proper verbs.Hull xs part (h, e, k) = rw (e) (proper_hull (all_positions xs) h k)
kept_is_proper _ xs part e = rw (e) tt

pub part_is_proper : (query : Query) (fs : List Feature) (part : Part) → IsPart query fs part → IsProper part
part_is_proper query fs part (xs, h, e) = kept_is_proper query.verb xs part e

alike : (verb : Verb) (xs ys : List Feature) (left right : Part) → IsKeptOf verb xs left → IsKeptOf verb ys right → AreAlike left right
alike verbs.Hull xs ys left right (h, e, k) (g, f, l) = rw (e, f) (proper_hull (all_positions xs) h k, proper_hull (all_positions ys) g l)
alike _ xs ys left right e f = rw (e, f) tt

-- the parts of any lists for one query
pub parts_are_alike : (query : Query) (fs gs : List Feature) (left right : Part) → IsPart query fs left → IsPart query gs right → AreAlike left right
parts_are_alike query fs gs left right (xs, h, e) (ys, k, f) = alike query.verb xs ys left right e f

-- ---- the answer that a part is

polygons_in_range : (fs : List Feature) → AllByRecursion IsFeatureInRange fs → ArePolygonsInRange (all_polygons fs)
polygons_in_range [] h = λ k d lt. absurd (omega arith)
polygons_in_range (f ∷ fs) h = All-append (λ (polygon : Polygon). ArePathsInRange polygon.rings) f.shape.polygons (all_polygons fs) h.0.polygons (polygons_in_range fs h.1)

fewer_positions : (fs : List Feature) → length (positions_of_polygons (all_polygons fs)) ≤ length (all_positions fs)
fewer_positions [] = omega arith
fewer_positions (f ∷ fs) = omega (
  arith,
  ap length (flat_map-append (λ (polygon : Polygon). joined polygon.rings) f.shape.polygons (all_polygons fs)),
  length-append (positions_of_polygons f.shape.polygons) (positions_of_polygons (all_polygons fs)),
  length-append (positions f.shape) (all_positions fs),
  length-append (f.shape.points ++ joined f.shape.lines) (positions_of_polygons f.shape.polygons),
  fewer_positions fs,
)

-- the features that are left are as few, and in range
pub record AreLeft (kept : List Feature) : Type 0 where
  pub features : length kept < 2 ^ 64
  pub polygons : ArePolygonsInRange (all_polygons kept)
  pub positions : length (positions_of_polygons (all_polygons kept)) < 2 ^ 26

are_left : (query : Query) (fs kept : List Feature) → Keeps (Holds query) fs kept → AreFeaturesInRange fs → AreFew fs → AreLeft kept
are_left query fs kept h range few = record {
  features = omega (arith, kept_length (Holds query) fs kept h, few.features);
  polygons = polygons_in_range kept (kept_all (Holds query) IsFeatureInRange fs kept h (recursion_from_All IsFeatureInRange fs range));
  positions = omega (arith, fewer_positions kept, kept_weight (Holds query) (λ (f : Feature). positions f.shape) fs kept h, few.positions);
}

pub count_is_exact : (part : Part) (n m : ℕ) → part ≡ Count n → m ≡ n → (query : Query) (fs : List Feature) → IsPart query fs part → AreFeaturesInRange fs → AreFew fs → IsResult query fs (answers.Number (pos m))
count_is_exact part n m p q query fs (kept, h, e) range few =
    let left = are_left query fs kept h range few in
    let verb : query.verb ≡ verbs.Count = kept_verb query.verb kept part e ∙ ap verb_of p in
    let count : n ≡ length kept % 2 ^ 64 = cc (subst (λ v. IsKeptOf v kept part) verb e) in
    (kept, h, subst (λ v. IsAskedOf v kept (answers.Number (pos m))) (sym verb) (ap (λ k. answers.Number (pos k)) (omega (arith, count, q, left.features))))

pub area_is_exact : (part : Part) (z : ℤ) → part ≡ Area z → (query : Query) (fs : List Feature) → IsPart query fs part → AreFeaturesInRange fs → AreFew fs → IsResult query fs (answers.Number z)
area_is_exact part z p query fs (kept, h, e) range few =
    let left = are_left query fs kept h range few in
    let verb : query.verb ≡ verbs.Area = kept_verb query.verb kept part e ∙ ap verb_of p in
    let sum : z ≡ wrapped_sum (all_polygons kept) = cc (subst (λ v. IsKeptOf v kept part) verb e) in
    (kept, h, subst (λ v. IsAskedOf v kept (answers.Number z)) (sym verb) (ap answers.Number (sum ∙ wrapped_sum_is (all_polygons kept) left.polygons left.positions)))

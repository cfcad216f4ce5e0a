-- The answer over features that are told from another place in the file.
-- For `answers_move`.
use Rattle.std.proofs.Common.{◌≡◌, ℕ, ◌+◌, List, [], ◌∷◌, length, map, refl, sym, ap, ◌∙◌, subst, inl, inr}
use Rattle.std.specs.Prelude.{pos}
use Rattle.std.specs.List.{AllByRecursion}
use Rattle.std.proofs.lemmas.List.{length-map}
use Rattle.at_geom.specs.declared.positions.Pos.{Pos}
use Rattle.at_geom.specs.declared.shapes.Polygon.{Polygon}
use Rattle.at_geom.specs.Regions.{doubled_area, sum_of}
use Rattle.at_geom.specs.Shapes.{positions, extent_of}
use Rattle.at_hull.specs.Hulls.{IsHull}
use Rattle.at_query.specs.declared.query.queries.Verb.{Verb}
use Rattle.at_query.specs.declared.query.queries.Verb.TheVariants as verbs
use Rattle.at_query.specs.declared.query.queries.Query.{Query}
use Rattle.at_query.specs.declared.query.queries.Test.{Test}
use Rattle.at_query.specs.declared.query.queries.Test.TheVariants.{InBox}
use Rattle.at_query.specs.declared.features.Feature.{Feature}
use Rattle.at_query.specs.declared.answer.answers.Answer.{Answer}
use Rattle.at_query.specs.declared.answer.answers.Answer.TheVariants.{Offsets, Number, Spread, Hull}
use Rattle.at_query.specs.Holding.{TestHolds, Holds}
use Rattle.at_query.specs.Results.{Keeps, all_positions, all_polygons, IsAskedOf}
use Rattle.at_parts.specs.Moved.{feature_moved}
use Rattle.at_parts.proofs.MovedGeometries.{flat_map_same}
use Rattle.at_parts.specs.Sums.{IsAnswerMoved, AnswersMove}

-- no test looks at the offset
test_moves : (from to : ℕ) (f : Feature) (t : Test) → TestHolds t (feature_moved from f) → TestHolds t (feature_moved to f)
test_moves from to f (InBox e) h = h
test_moves from to f _ h = h

tests_move : (from to : ℕ) (f : Feature) (ts : List Test) → AllByRecursion (λ t. TestHolds t (feature_moved from f)) ts → AllByRecursion (λ t. TestHolds t (feature_moved to f)) ts
tests_move from to f [] h = tt
tests_move from to f (t ∷ ts) h = (test_moves from to f t h.0, tests_move from to f ts h.1)

holds_moves : (query : Query) (from to : ℕ) (f : Feature) → Holds query (feature_moved from f) → Holds query (feature_moved to f)
holds_moves query from to f h = tests_move from to f query.tests h

-- what is kept of moved features is some of the features, moved
keeps_moves : (query : Query) (from to : ℕ) (fs kept : List Feature) → Keeps (Holds query) (map (feature_moved from) fs) kept
    → (alone : List Feature) × (kept ≡ map (feature_moved from) alone) × Keeps (Holds query) (map (feature_moved to) fs) (map (feature_moved to) alone)
keeps_moves query from to [] kept h = ([], h, refl)
keeps_moves query from to (f ∷ fs) kept (inl (p, (rest, e, h))) =
    let (alone, same, k) = keeps_moves query from to fs rest h in
    (f ∷ alone, e ∙ ap (λ l. feature_moved from f ∷ l) same, inl (holds_moves query from to f p, (map (feature_moved to) alone, refl, k)))
keeps_moves query from to (f ∷ fs) kept (inr (n, h)) =
    let (alone, same, k) = keeps_moves query from to fs kept h in
    (alone, same, inr (λ p. n (holds_moves query to from f p), k))

positions_stay : (by : ℕ) (fs : List Feature) → all_positions (map (feature_moved by) fs) ≡ all_positions fs
positions_stay by fs = flat_map_same (λ (f : Feature). positions f.shape) (feature_moved by) (λ f. refl) fs

polygons_stay : (by : ℕ) (fs : List Feature) → all_polygons (map (feature_moved by) fs) ≡ all_polygons fs
polygons_stay by fs = flat_map_same (λ (f : Feature). f.shape.polygons) (feature_moved by) (λ f. refl) fs

offsets_move : (by : ℕ) (fs : List Feature) → map (λ (f : Feature). f.at) (map (feature_moved by) fs) ≡ map (λ n. by + n) (map (λ (f : Feature). f.at) fs)
offsets_move by [] = refl
offsets_move by (f ∷ fs) = ap (λ l. (by + f.at) ∷ l) (offsets_move by fs)

-- what is answered but offsets is answered of moved features too
stays : (from to : ℕ) (a x : Answer) → IsAnswerMoved from to x x → a ≡ x → IsAnswerMoved from to a x
stays from to a x h e = subst (λ z. IsAnswerMoved from to z x) (sym e) h

asked_moves : (verb : Verb) (from to : ℕ) (fs : List Feature) (a : Answer) → IsAskedOf verb (map (feature_moved from) fs) a
    → (b : Answer) × IsAnswerMoved from to a b × IsAskedOf verb (map (feature_moved to) fs) b
asked_moves verbs.Select from to fs a e =
    let at : List ℕ = map (λ (f : Feature). f.at) fs in
    let b : Answer = Offsets (map (λ n. to + n) at) in
    (b, subst (λ z. IsAnswerMoved from to z b) (sym (e ∙ ap Offsets (offsets_move from fs))) (at, refl, refl), ap Offsets (sym (offsets_move to fs)))
asked_moves verbs.Count from to fs a e =
    let b : Answer = Number (pos (length fs)) in
    (b, stays from to a b refl (e ∙ ap (λ n. Number (pos n)) (length-map fs (feature_moved from))), ap (λ n. Number (pos n)) (sym (length-map fs (feature_moved to))))
asked_moves verbs.Area from to fs a e =
    let of : List Polygon → Answer = λ ps. Number (sum_of (map doubled_area ps)) in
    (of (all_polygons fs), stays from to a (of (all_polygons fs)) refl (e ∙ ap of (polygons_stay from fs)), ap of (sym (polygons_stay to fs)))
asked_moves verbs.Extent from to fs a e =
    let of : List Pos → Answer = λ ps. Spread (extent_of ps) in
    (of (all_positions fs), stays from to a (of (all_positions fs)) refl (e ∙ ap of (positions_stay from fs)), ap of (sym (positions_stay to fs)))
asked_moves verbs.Hull from to fs a (h, e, k) =
    (Hull h, stays from to a (Hull h) refl e, (h, refl, subst (λ ps. IsHull ps h) (positions_stay from fs ∙ sym (positions_stay to fs)) k))
asked_moves verbs.Join from to fs a e = absurd e

pub moves : AnswersMove
moves query from to fs gs a (alone, e, f) (kept, h, asked) =
    let (left, same, keeps) = keeps_moves query from to alone kept (subst (λ l. Keeps (Holds query) l kept) e h) in
    let (b, moved, is) = asked_moves query.verb from to left a (subst (λ l. IsAskedOf query.verb l a) same asked) in
    (b, moved, (map (feature_moved to) left, subst (λ l. Keeps (Holds query) l (map (feature_moved to) left)) (sym f) keeps, is))

-- The answer over two lists of features, from the answers over each.
-- For `answers_sum_up`.
use Rattle.std.proofs.Common.{◌≡◌, List, ◌++◌, map, Option, Some, None, arith, refl, sym, ap, ◌∙◌, length-append}
use Rattle.std.proofs.lemmas.Int.{ints}
use Rattle.std.proofs.lemmas.List.{map-append}
use Rattle.std.proofs.lemmas.Grind.{flat_map-append}
use Rattle.at_geom.specs.declared.rectangles.Extent.{Extent}
use Rattle.at_geom.specs.Regions.{doubled_area, sum_of}
use Rattle.at_geom.specs.Shapes.{positions, extent_of}
use Rattle.at_hull.proofs.Laws.{hull_of_both}
use Rattle.at_query.specs.declared.query.queries.Verb.{Verb}
use Rattle.at_query.specs.declared.query.queries.Verb.TheVariants as verbs
use Rattle.at_query.specs.declared.features.Feature.{Feature}
use Rattle.at_query.specs.declared.answer.answers.Answer.{Answer}
use Rattle.at_query.specs.declared.answer.answers.Answer.TheVariants.{Offsets, Number, Spread}
use Rattle.at_query.specs.Holding.{Holds}
use Rattle.at_query.specs.Joined.{around_both}
use Rattle.at_query.specs.Results.{all_positions, all_polygons, IsAskedOf}
use Rattle.at_query.proofs.KeptLists.{keeps-append}
use Rattle.at_query.proofs.Spreads.{extent_of-append}
use Rattle.at_query.proofs.Areas.{sum_of-append}
use Rattle.at_parts.specs.Sums.{extent_of_both, IsOfBoth, AnswersSumUp}

same_extent : (d e : Option Extent) → extent_of_both d e ≡ around_both d e
same_extent None e = refl
same_extent (Some d) None = refl
same_extent (Some d) (Some e) = refl

asked_of_both : (verb : Verb) (xs ys : List Feature) (a b both : Answer) → IsAskedOf verb xs a → IsAskedOf verb ys b → IsOfBoth a b both → IsAskedOf verb (xs ++ ys) both
asked_of_both verbs.Select xs ys a b both e f h = (rw (e, f) at h) ∙ ap Offsets (sym (map-append (λ (f : Feature). f.at) xs ys))
asked_of_both verbs.Count xs ys a b both e f h = (rw (e, f) at h) ∙ ap Number (omega (arith, ints, length-append xs ys))
asked_of_both verbs.Area xs ys a b both e f h =
    (rw (e, f) at h) ∙ ap Number (sym (sum_of-append (map doubled_area (all_polygons xs)) (map doubled_area (all_polygons ys))) ∙ ap sum_of (sym (map-append doubled_area (all_polygons xs) (all_polygons ys)))
    ∙ ap (λ l. sum_of (map doubled_area l)) (sym (flat_map-append (λ (f : Feature). f.shape.polygons) xs ys)))
asked_of_both verbs.Extent xs ys a b both e f h =
    (rw (e, f) at h) ∙ ap Spread (same_extent (extent_of (all_positions xs)) (extent_of (all_positions ys)) ∙ sym (extent_of-append (all_positions xs) (all_positions ys))
    ∙ ap extent_of (sym (flat_map-append (λ (f : Feature). positions f.shape) xs ys)))
asked_of_both verbs.Hull xs ys a b both (k, e, u) (l, f, v) h =
    let (m, same, hull) = rw (e, f) at h in
    (m, same, rw (flat_map-append (λ (f : Feature). positions f.shape) xs ys) (hull_of_both (all_positions xs) (all_positions ys) k l m u v hull))
asked_of_both verbs.Join xs ys a b both e f h = absurd e

pub sums_up : AnswersSumUp
sums_up query fs gs a b both (xs, h, e) (ys, k, f) is =
    (xs ++ ys, keeps-append (Holds query) fs gs xs ys h k, asked_of_both query.verb xs ys a b both e f is)

-- What is kept of features that are added one by one.
-- For `add`, `add_lent`, `from_part`, `join` and `part_of`.
use Rattle.std.proofs.Common.{◌≡◌, ◌≢◌, List, [], ◌∷◌, ◌++◌, refl, sym, ◌∙◌, ap, subst}
use Rattle.std.proofs.lemmas.List.{append-nil}
use Rattle.std.proofs.lemmas.Grind.{flat_map-append}
use Rattle.at_geom.specs.declared.positions.Pos.{Pos}
use Rattle.at_geom.specs.Shapes.{positions}
use Rattle.at_hull.specs.Hulls.{IsHull}
use Rattle.at_hull.specs.Growth.{HaveOneHull, Growth, held}
use Rattle.at_hull.proofs.OneHull.{one_hull_both, one_hull_own, one_hull_grown, one_hull_trans}
use Rattle.at_query.specs.declared.query.queries.Verb.{Verb}
use Rattle.at_query.specs.declared.query.queries.Verb.TheVariants as verbs
use Rattle.at_query.specs.declared.query.queries.Query.{Query}
use Rattle.at_query.specs.declared.features.Feature.{Feature}
use Rattle.at_query.specs.declared.answer.parts.Part.{Part}
use Rattle.at_query.specs.declared.answer.parts.Part.TheVariants as parts
use Rattle.at_query.specs.declared.answer.accumulators.Accumulator.{Accumulator}
use Rattle.at_query.specs.declared.answer.accumulators.Accumulator.TheVariants.{Part as APart, Hull}
use Rattle.at_query.specs.Holding.{Holds}
use Rattle.at_query.specs.Results.{Keeps, all_positions, all_polygons}
use Rattle.at_query.specs.Parts.{IsHullInRange, IsKeptOf, IsPart, JoinsParts}
use Rattle.at_query.specs.Accumulators.{IsKeptIn, IsAccumulated, AreOfOneVerb, JoinsAccumulators, IsNoHull, KeepsNoShape, added_by}
use Rattle.at_query.proofs.KeptLists.{keeps-append, keeps_one, drops_one}
use Rattle.at_query.proofs.Joining.{verb_of, kept_verb, parts_are_alike}

-- ---- what a part becomes

pub from_hull : (part : Part) (h : List Pos) (growth : Growth) → part ≡ parts.Hull h → IsHull h h → held growth ≡ h
    → (query : Query) (fs : List Feature) → IsPart query fs part → IsAccumulated query fs (Hull growth)
from_hull part h growth p own e query fs (kept, keeps, is) =
    let verb : query.verb ≡ verbs.Hull = kept_verb query.verb kept part is ∙ ap verb_of p in
    let (g, same, k) = subst (λ v. IsKeptOf v kept part) verb is in
    let equal : g ≡ h = cc in
    (kept, keeps, (verb, subst (λ z. HaveOneHull (all_positions kept) z) (sym e) (one_hull_own (all_positions kept) h (subst (IsHull (all_positions kept)) equal k.0) own)))

-- ---- and back

pub into_hull : (kept : Accumulator) (growth : Growth) (h : List Pos) → kept ≡ Hull growth → IsHull (held growth) h → IsHullInRange h h
    → (query : Query) (fs : List Feature) → IsAccumulated query fs kept → IsPart query fs (parts.Hull h)
into_hull kept growth h e hull own query fs is =
    let P : Accumulator → Type 0 = IsAccumulated query fs in
    let (left, keeps, k) = subst P e is in
    let V : Verb → Type 0 = λ verb. IsKeptOf verb left (parts.Hull h) in
    (left, keeps, subst V (sym k.0) (h, refl, (k.1.back h hull, own.1)))

-- ---- joined

pub parts_joined : (a b c : Part) → JoinsParts a b c → JoinsAccumulators (APart a) (APart b) (APart c)
parts_joined a b c joins query fs gs (kf, hf, (n, pf)) (kg, hg, (m, pg)) =
    let (kept, keeps, is) = joins query fs gs (kf, hf, pf) (kg, hg, pg) in
    (kept, keeps, (n, is))

pub hulls_joined : (a b c : Growth) → HaveOneHull (held a ++ held b) (held c) → JoinsAccumulators (Hull a) (Hull b) (Hull c)
hulls_joined a b c both query fs gs (kf, hf, (v, of)) (kg, hg, (w, og)) = (
  kf ++ kg,
  keeps-append (Holds query) fs gs kf kg hf hg,
  (
    v,
    one_hull_trans (all_positions (kf ++ kg)) (held a ++ held b) (held c)
        (subst (λ z. HaveOneHull z (held a ++ held b)) (sym (flat_map-append (λ (f : Feature). positions f.shape) kf kg)) (one_hull_both (all_positions kf) (all_positions kg) (held a) (held b) of og))
        both,
  ),
)

-- of features with the same positions the same is kept for a hull
pub same_hull : (verb : Verb) (xs ys : List Feature) (growth : Growth) → all_positions xs ≡ all_positions ys → IsKeptIn verb xs (Hull growth) → IsKeptIn verb ys (Hull growth)
same_hull verb xs ys growth e (v, one) = (v, subst (λ z. HaveOneHull z (held growth)) e one)

-- what is kept for one query is of one verb
pub are_of_one_verb : (query : Query) (fs gs : List Feature) (left right : Accumulator) → IsAccumulated query fs left → IsAccumulated query gs right → AreOfOneVerb left right
are_of_one_verb query fs gs (APart a) (APart b) (kf, hf, (n, pf)) (kg, hg, (m, pg)) = parts_are_alike query fs gs a b (kf, hf, pf) (kg, hg, pg)
are_of_one_verb query fs gs (APart a) (Hull b) (kf, hf, (n, pf)) (kg, hg, (w, og)) = absurd (n w)
are_of_one_verb query fs gs (Hull a) (APart b) (kf, hf, (v, of)) (kg, hg, (m, pg)) = absurd (m v)
are_of_one_verb query fs gs (Hull a) (Hull b) left right = tt

-- ---- one feature more

-- that the query doesn't hold of
pub not_added : (query : Query) (f : Feature) (kept : Accumulator) → (¬ Holds query f) → (fs : List Feature) → IsAccumulated query fs kept → IsAccumulated query (fs ++ f ∷ []) kept
not_added query f kept n fs (left, keeps, is) =
    (left, subst (Keeps (Holds query) (fs ++ f ∷ [])) (append-nil left) (keeps-append (Holds query) fs (f ∷ []) left [] keeps (drops_one (Holds query) f n)), is)

one_positions : (f : Feature) → all_positions (f ∷ []) ≡ positions f.shape
one_positions f = append-nil (positions f.shape)

one_polygons : (f : Feature) → all_polygons (f ∷ []) ≡ f.shape.polygons
one_polygons f = append-nil f.shape.polygons

kept_of_one : (f : Feature) (verb : Verb) (xs : List Feature) (old : Part) → verb ≢ verbs.Hull → IsKeptOf verb xs old → IsKeptOf verb (f ∷ []) (added_by f old)
kept_of_one f verbs.Area xs old n e = rw (e, one_polygons f) refl
kept_of_one f verbs.Extent xs old n e = rw (e, one_positions f) refl
kept_of_one f verbs.Hull xs old n e = absurd (n refl)
kept_of_one f _ xs old n e = rw (e) refl

pub added_part : (query : Query) (f : Feature) (kept : Accumulator) (old new : Part) → Holds query f → kept ≡ APart old → JoinsParts old (added_by f old) new
    → (fs : List Feature) → IsAccumulated query fs kept → IsAccumulated query (fs ++ f ∷ []) (APart new)
added_part query f kept old new holds e joins fs is =
    let P : Accumulator → Type 0 = IsAccumulated query fs in
    let (left, keeps, k) = subst P e is in
    let (both, more, now) = joins query fs (f ∷ []) (left, keeps, k.1) (f ∷ [], keeps_one (Holds query) f holds, kept_of_one f query.verb left old k.0 k.1) in
    (both, more, (k.0, now))

pub added_hull : (query : Query) (f : Feature) (kept : Accumulator) (old new : Growth) → Holds query f → kept ≡ Hull old → HaveOneHull (held old ++ positions f.shape) (held new)
    → (fs : List Feature) → IsAccumulated query fs kept → IsAccumulated query (fs ++ f ∷ []) (Hull new)
added_hull query f kept old new holds e grown fs is =
    let P : Accumulator → Type 0 = IsAccumulated query fs in
    let (left, keeps, k) = subst P e is in
    let all : all_positions (left ++ f ∷ []) ≡ all_positions left ++ positions f.shape = flat_map-append (λ (x : Feature). positions x.shape) left (f ∷ []) ∙ ap (λ z. all_positions left ++ z) (one_positions f) in (
      left ++ f ∷ [],
      keeps-append (Holds query) fs (f ∷ []) left (f ∷ []) keeps (keeps_one (Holds query) f holds),
      (k.0, subst (λ z. HaveOneHull z (held new)) (sym all) (one_hull_grown (all_positions left) (held old) (positions f.shape) (held new) k.1 grown)),
    )

-- what is kept in place of a part is of another verb than a hull
not_hull : (query : Query) (fs : List Feature) (kept : Accumulator) (part : Part) → kept ≡ APart part → IsAccumulated query fs kept → (query.verb ≡ verb_of part) × (verb_of part ≢ verbs.Hull)
not_hull query fs kept part e is =
    let P : Accumulator → Type 0 = IsAccumulated query fs in
    let (left, keeps, k) = subst P e is in
    let verb = kept_verb query.verb left part k.1 in
    (verb, λ f. k.0 (verb ∙ f))

pub accumulated_no_hull : (query : Query) (fs : List Feature) (kept : Accumulator) (part : Part) → kept ≡ APart part → IsAccumulated query fs kept → IsNoHull part
accumulated_no_hull query fs kept part e is = of_part part (not_hull query fs kept part e is).1 where
  of_part : (part : Part) → verb_of part ≢ verbs.Hull → IsNoHull part
  of_part (parts.Hull h) n = n refl
  of_part _ n = tt

-- and for a verb other than join it is no list of entries
pub accumulated_no_shape : (query : Query) (fs : List Feature) (kept : Accumulator) (part : Part) → query.verb ≢ verbs.Join → kept ≡ APart part → IsAccumulated query fs kept → KeepsNoShape part
accumulated_no_shape query fs kept part m e is = let (verb, n) = not_hull query fs kept part e is in of_part part (λ f. m (verb ∙ f)) n where
  of_part : (part : Part) → verb_of part ≢ verbs.Join → verb_of part ≢ verbs.Hull → KeepsNoShape part
  of_part (parts.Hull h) m n = n refl
  of_part (parts.Entries es) m n = m refl
  of_part _ m n = tt

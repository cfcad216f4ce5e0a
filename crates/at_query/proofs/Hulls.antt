-- The hull of a shape's positions, and of two hulls, has coordinates in range; and positions that are added to those of a hull, part by part.
-- For `add`, `add_lent`, `join`, `part_merge` and `part_of`.
use Rattle.std.proofs.Common.{◌≡◌, ◌<◌, List, [], ◌∷◌, ◌++◌, All, length, arith, refl, ℕ, ◌+◌, take, get_or, Option, Some, None, sym, ◌∙◌, ap, subst, append_assoc}
use Rattle.std.specs.Prelude.{Result, Ok, Err, IfOk, All, flat_map, IfSome}
use Rattle.std.specs.List.{AllByRecursion}
use Rattle.std.proofs.lemmas.List.Elements.{recursion_from_All, All-append, All-nil, All-from_recursion}
use Rattle.at_text.specs.declared.memory.Memory.{Memory}
use Rattle.at_geom.specs.declared.positions.Pos.{Pos}
use Rattle.at_geom.specs.declared.positions.Path.{Path}
use Rattle.at_geom.specs.declared.shapes.Polygon.{Polygon}
use Rattle.at_geom.specs.declared.shapes.Shape.{Shape}
use Rattle.at_geom.specs.Segments.{IsInRange}
use Rattle.at_geom.specs.Shapes.{positions, joined, positions_of_polygons, IsShapeInRange, widened, extent_of}
use Rattle.at_hull.specs.Hulls.{IsHull}
use Rattle.at_hull.proofs.Laws.{hull_of_hull, hull_elements}
use Rattle.at_hull.proofs.Members.{all_of_fewer}
use Rattle.at_query.specs.Parts.{IsHullInRange}
use Rattle.at_query.specs.Joined.{JoinsHulls}
use Rattle.std.specs.Option.{IfNone}
use Rattle.std.proofs.lemmas.Int.{ints, clamps}
use Rattle.std.proofs.lemmas.List.{append-nil, take_more}
use Rattle.std.proofs.lemmas.List.Folds.{length-flat_map-take}
use Rattle.std.proofs.lemmas.Grind.{flat_map-append}
use Rattle.at_geom.specs.declared.rectangles.Extent.{Extent}
use Rattle.at_hull.specs.Growth.{HaveOneHull}
use Rattle.at_hull.proofs.OneHull.{one_hull_refl, one_hull_grown}

all_joined : (paths : List (List Pos)) → AllByRecursion (All IsInRange) paths → All IsInRange (joined paths)
all_joined [] h = All-nil IsInRange
all_joined (path ∷ paths) h = All-append IsInRange path (joined paths) h.0 (all_joined paths h.1)

all_polygons : (polygons : List Polygon) → AllByRecursion (λ (polygon : Polygon). All (All IsInRange) polygon.rings) polygons → All IsInRange (positions_of_polygons polygons)
all_polygons [] h = All-nil IsInRange
all_polygons (polygon ∷ polygons) h = All-append IsInRange (joined polygon.rings) (positions_of_polygons polygons) (all_joined polygon.rings (recursion_from_All (All IsInRange) polygon.rings h.0)) (all_polygons polygons h.1)

pub positions_in_range : (s : Shape) → IsShapeInRange s → All IsInRange (positions s)
positions_in_range s r =
    All-append IsInRange (s.points ++ joined s.lines) (positions_of_polygons s.polygons)
    (All-append IsInRange s.points (joined s.lines) r.points (all_joined s.lines (recursion_from_All (All IsInRange) s.lines r.lines)))
    (all_polygons s.polygons (recursion_from_All (λ (polygon : Polygon). All (All IsInRange) polygon.rings) s.polygons r.polygons))

pub hull_in_range : (ps h : List Pos) → All IsInRange ps → IsHull ps h → IsHullInRange ps h
hull_in_range ps h range k = (k, all_of_fewer IsInRange h ps (hull_elements ps h k) range)

-- nothing, and a position alone
pub short_hull : (ps : List Pos) → All IsInRange ps → length ps < 2 → IsHullInRange ps ps
short_hull [] range n = (refl, range)
short_hull (a ∷ []) range n = (((0, omega arith, refl), All-from_recursion (λ p. p ≡ a) (a ∷ []) (refl, tt)), range)
short_hull (a ∷ b ∷ r) range n = absurd (omega (arith, n))

-- a hull that joins two is one of its own
pub own_of_joined : (a b h : List Pos) → IsHullInRange a a → IsHullInRange b b → IsHull (a ++ b) h → IsHullInRange h h
own_of_joined a b h k l m =
    let range = (hull_in_range (a ++ b) h (All-append IsInRange a b k.1 l.1) m).1 in
    (hull_of_hull (a ++ b) h m, range)

pub joins_if_ok : (a b : List Pos) (r : Result Path Memory) → ((ps qs : List Pos) → IsHull ps a → IsHull qs b → IfOk r (λ h. IsHull (ps ++ qs) h)) → IfOk r (JoinsHulls a b)
joins_if_ok a b (Ok h) f = f
joins_if_ok a b (Err e) f = tt

pub own_if_ok : (a b : List Pos) (r : Result Path Memory) → IsHullInRange a a → IsHullInRange b b → ((ps qs : List Pos) → IsHull ps a → IsHull qs b → IfOk r (λ h. IsHull (ps ++ qs) h)) → IfOk r (λ h. IsHullInRange h h)
own_if_ok a b (Ok h) k l f = own_of_joined a b h k l (f a b k.0 l.0)
own_if_ok a b (Err e) k l f = tt

-- ---- positions that are added

-- those of one element more
pub more_taken : {X : Type 0} (f : X → List Pos) (first old new : List Pos) (xs : List X) (x : X) → HaveOneHull (first ++ flat_map f xs) old → HaveOneHull (old ++ f x) new
    → HaveOneHull (first ++ flat_map f (xs ++ x ∷ [])) new
more_taken f first old new xs x before grown =
    let all : (first ++ flat_map f xs) ++ f x ≡ first ++ flat_map f (xs ++ x ∷ []) =
    append_assoc first (flat_map f xs) (f x) ∙ ap (λ z. first ++ z) (sym (flat_map-append f xs (x ∷ []) ∙ ap (λ z. flat_map f xs ++ z) (append-nil (f x)))) in
    subst (λ z. HaveOneHull z new) all (one_hull_grown (first ++ flat_map f xs) old (f x) new before grown)

pub more_grown : {X : Type 0} (f : X → List Pos) (first old new : List Pos) (xs : List X) (i : ℕ) (x : X) → i < length xs
    → HaveOneHull (first ++ flat_map f (take i xs)) old → HaveOneHull (old ++ f (get_or xs i x)) new → HaveOneHull (first ++ flat_map f (take (i + 1) xs)) new
more_grown {X} f first old new xs i x lt before grown =
    subst (λ (l : List X). HaveOneHull (first ++ flat_map f l) new) (sym (take_more xs i x lt)) (more_taken f first old new (take i xs) (get_or xs i x) before grown)

-- the next element has more positions than there is room for
pub no_room : {X : Type 0} (f : X → List Pos) (xs : List X) (i room left : ℕ) (x : X) (r : Option ℕ) → i < length xs → left + length (flat_map f (take i xs)) ≡ room
    → left < length (f (get_or xs i x)) → IfNone r (room < length (flat_map f xs))
no_room f xs i room left x None lt e l = let n = length-flat_map-take f xs i x lt in omega (arith, n, e, l)
no_room f xs i room left x (Some k) lt e l = tt

-- the hull of what is held is that of the positions that it has one hull with
pub hull_if_ok : (ps kept : List Pos) (r : Result Path Memory) → HaveOneHull ps kept → IfOk r (λ h. IsHull kept h) → IfOk r (λ h. All IsInRange h) → IfOk r (IsHullInRange ps)
hull_if_ok ps kept (Ok h) one k range = (one.back h k, range)
hull_if_ok ps kept (Err e) one k range = tt

-- the points, the lines and the polygons of a shape
pub shape_grown : (s : Shape) (a b c d : List Pos) → HaveOneHull (a ++ s.points) b → HaveOneHull (b ++ joined s.lines) c → HaveOneHull (c ++ positions_of_polygons s.polygons) d
    → HaveOneHull (a ++ positions s) d
shape_grown s a b c d points lines polygons =
    let ls = joined s.lines in
    let rs = positions_of_polygons s.polygons in
    let all : ((a ++ s.points) ++ ls) ++ rs ≡ a ++ ((s.points ++ ls) ++ rs) =
    ap (λ z. z ++ rs) (append_assoc a s.points ls) ∙ append_assoc a (s.points ++ ls) rs in
    subst (λ z. HaveOneHull z d) all (one_hull_grown ((a ++ s.points) ++ ls) c rs d (one_hull_grown (a ++ s.points) b ls c points lines) polygons)

-- ---- the extent of positions with coordinates in range

widened_in_range : (p : Pos) (e : Option Extent) → IsInRange p → IfSome e (λ x. IsInRange x.low × IsInRange x.high) → IsInRange (widened p e).low × IsInRange (widened p e).high
widened_in_range p None h k = (h, h)
widened_in_range p (Some e) h (low, high) = (
  (omega (arith, ints, clamps, h.0, low.0), omega (arith, ints, clamps, h.1, low.1)),
  (omega (arith, ints, clamps, h.0, high.0), omega (arith, ints, clamps, h.1, high.1)),
)

all_in_range : (ps : List Pos) → AllByRecursion IsInRange ps → IfSome (extent_of ps) (λ x. IsInRange x.low × IsInRange x.high)
all_in_range [] h = tt
all_in_range (p ∷ ps) h = widened_in_range p (extent_of ps) h.0 (all_in_range ps h.1)

pub extent_in_range : (s : Shape) (e : Extent) → IsShapeInRange s → Some e ≡ extent_of (positions s) → IsInRange e.low × IsInRange e.high
extent_in_range s e range is =
    let P : Option Extent → Type 0 = λ o. IfSome o (λ x. IsInRange x.low × IsInRange x.high) in
    subst P (sym is) (all_in_range (positions s) (recursion_from_All IsInRange (positions s) (positions_in_range s range)))

-- a shape without an extent has no position, and adds nothing
pub no_position : (s : Shape) (old : List Pos) → None ≡ extent_of (positions s) → HaveOneHull (old ++ positions s) old
no_position s old e = of_none (positions s) (sym e) where
  of_none : (ps : List Pos) → extent_of ps ≡ None → HaveOneHull (old ++ ps) old
  of_none [] e = subst (λ z. HaveOneHull z old) (sym (append-nil old)) (one_hull_refl old)
  of_none (p ∷ ps) e = absurd (cc)

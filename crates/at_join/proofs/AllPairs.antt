-- The pairs of all cells, put in order, are all pairs that meet.
-- For `pairs_grid`.
use Rattle.std.proofs.Common.{◌≡◌, ℕ, zero, suc, ◌+◌, ◌<◌, ◌≤◌, ◌==◌, Bool, true, false, cond, List, [], ◌∷◌, ◌++◌, get_or, Option, Some, None, map, inl, inr, ◌⊎◌, arith, refl, sym, ap, subst, ◌∙◌}
use Rattle.std.specs.Prelude.{All, filter}
use Rattle.std.specs.List.{AllByRecursion}
use Rattle.std.specs.List.Sorted.{IsPermutation, IsNonDecreasingBy}
use Rattle.std.proofs.lemmas.Bool.{cases_lt, eqb-true, eq-eqb}
use Rattle.std.proofs.lemmas.Int.{ints, clamps}
use Rattle.std.proofs.lemmas.List.Sorted.{sum_by-IsPermutation, All-permutation}
use Rattle.std.proofs.lemmas.List.Elements.{recursion_from_All, All-head, All-tail}
use Rattle.std.proofs.ByRecursion.{All-append}
use Rattle.at_geom.specs.declared.positions.Pos.{Pos}
use Rattle.at_geom.specs.declared.shapes.Polygon.{Polygon}
use Rattle.at_geom.specs.declared.rectangles.Extent.{Extent}
use Rattle.at_geom.specs.Closed.{IsClosed, HasClosedFirst, HasClosedExterior}
use Rattle.at_geom.specs.Shapes.{Meet}
use Rattle.at_geom.proofs.ApartShapes.{empty_first, empty_second, meet_touches}
use Rattle.at_geom.proofs.Found.{both_true}
use Rattle.at_query.specs.declared.answer.parts.Entry.{Entry}
use Rattle.at_query.specs.declared.answer.answers.Pair.{Pair}
use Rattle.at_query.specs.Joined.{upper}
use Rattle.at_query.specs.Parts.{IsProperEntry, AreProper}
use Rattle.at_query.specs.Results.{Keeps, pairs_of}
use Rattle.at_query.proofs.KeptLists.{kept_all}
use Rattle.at_geom.proofs.ClosedRings.{clash}
use Rattle.at_join.specs.Boxes.{touch_of}
use Rattle.at_join.specs.Meetings.{Meeting, at_entries, IsAllPairs}
use Rattle.at_join.specs.Cells.{cell_of, spread_of, is_pair_of, InCells, is_pair, times, ListsEach}
use Rattle.at_join.specs.Parts.{rank_of}
use Rattle.at_join.proofs.Extents.{from_touching, reference_inside, shape_span}
use Rattle.at_join.proofs.CellRects.{cell_below}
use Rattle.at_join.proofs.Offsets.{In, Rises, in_from, contains_from, of_all, one_entry, above, rest_rises, entry_once, pair_times}
use Rattle.at_join.proofs.CellPairs.{gone, spread_round, pair_is, kept_times, same_pair, keeps_have, both_all, all_mapped, each_weaker, all_pairs_of}
use Rattle.at_join.proofs.PartLists.{times_none, times_cons}
use Rattle.at_geom.proofs.Elements.{some_left, some_right}

-- ---- entries that meet belong to a cell

closed_first : (rings : List (List Pos)) → AllByRecursion IsClosed rings → HasClosedFirst rings
closed_first [] h = tt
closed_first (ring ∷ rings) h = h.0

closed_all : (polygons : List Polygon) → AllByRecursion (λ (polygon : Polygon). AllByRecursion IsClosed polygon.rings) polygons → AllByRecursion HasClosedExterior polygons
closed_all [] h = tt
closed_all (polygon ∷ polygons) h = (closed_first polygon.rings h.0, closed_all polygons h.1)

some_cell : (a b : List Entry) (e f : Entry) (x y : Extent) (o : Option Extent) → In e a → In f b → IsProperEntry e → IsProperEntry f → Meet e.shape f.shape → e.extent ≡ Some x → f.extent ≡ Some y → spread_of (a ++ b) ≡ o
    → (cell : ℕ) × (cell < 64) × (is_pair_of o (Some x) (Some y) cell ≡ true)
some_cell a b e f x y None he hf pe pf meet ex fy joint = absurd (gone (a ++ b) e x joint (some_left (λ (z : Entry). z ≡ e) a b he) ex)
some_cell a b e f x y (Some j) he hf pe pf meet ex fy joint =
    let sx = shape_span e.shape x pe.in_range (sym pe.extent ∙ ex) in
    let sy = shape_span f.shape y pf.in_range (sym pf.extent ∙ fy) in
    let t = meet_touches e.shape f.shape x y (sym pe.extent ∙ ex) (sym pf.extent ∙ fy) (closed_all e.shape.polygons pe.closed) (closed_all f.shape.polygons pf.closed) meet in
    let touches = from_touching x y (record {
      left = omega (arith, ints, clamps, t.left, sy.wide.along_x);
      right = omega (arith, ints, clamps, t.right, sy.wide.along_x);
      below = omega (arith, ints, clamps, t.below, sy.wide.along_y);
      above = omega (arith, ints, clamps, t.above, sy.wide.along_y);
    }) in
    let round_x = spread_round (a ++ b) j x e joint (some_left (λ (z : Entry). z ≡ e) a b he) ex in
    let round_y = spread_round (a ++ b) j y f joint (some_right (λ (z : Entry). z ≡ f) a b hf) fy in
    let cell = cell_of j (upper x.low y.low) in
    (cell, cell_below j (upper x.low y.low) (reference_inside j x y sx.wide sy.wide round_x round_y), both_true (touch_of x y) (cell == cell) touches (eq-eqb cell cell refl))

with_extents : (a b : List Entry) (e f : Entry) (o t : Option Extent) → In e a → In f b → IsProperEntry e → IsProperEntry f → Meet e.shape f.shape → e.extent ≡ o → f.extent ≡ t → InCells a b 0 64 (at_entries (e, f))
with_extents a b e f None t he hf pe pf meet ex fy = absurd (empty_first e.shape f.shape (sym pe.extent ∙ ex) meet)
with_extents a b e f (Some x) None he hf pe pf meet ex fy = absurd (empty_second e.shape f.shape (sym pf.extent ∙ fy) meet)
with_extents a b e f (Some x) (Some y) he hf pe pf meet ex fy =
    let (cell, few, is) = some_cell a b e f x y (spread_of (a ++ b)) he hf pe pf meet ex fy refl in
    record {
      first = e;
      second = f;
      of_first = contains_from a e he;
      of_second = contains_from b f hf;
      is = refl;
      meet = meet;
      cell = cell;
      at_least = omega (arith);
      below = few;
      here = ap (λ o. is_pair_of (spread_of (a ++ b)) o f.extent cell) ex ∙ ap (λ o. is_pair_of (spread_of (a ++ b)) (Some x) o cell) fy ∙ is;
    }

meets_in : (a b : List Entry) (e f : Entry) → AreProper a → AreProper b → In e a → In f b → Meet e.shape f.shape → InCells a b 0 64 (at_entries (e, f))
meets_in a b e f pa pb he hf meet = with_extents a b e f e.extent f.extent he hf (of_all IsProperEntry a e pa.entries he) (of_all IsProperEntry b f pb.entries hf) meet refl refl

-- two entries with the offsets of a pair of a cell meet
in_meets : (a b : List Entry) (e f : Entry) (p : Pair) → AreProper a → AreProper b → In e a → In f b → at_entries (e, f) ≡ p → InCells a b 0 64 p → Meet e.shape f.shape
in_meets a b e f p pa pb he hf same w =
    let first = one_entry a e w.first pa.rising he (in_from a w.first w.of_first) (ap (λ (z : Pair). z.first) (same ∙ w.is)) in
    let second = one_entry b f w.second pb.rising hf (in_from b w.second w.of_second) (ap (λ (z : Pair). z.second) (same ∙ w.is)) in
    subst (λ (z : Entry). Meet z.shape f.shape) (sym first) (subst (λ (z : Entry). Meet w.first.shape z.shape) (sym second) w.meet)

-- ---- what is kept of all pairs

filter_by : {X : Type 0} (P : X → Type 0) (x : X) (xs ks : List X) (b : Bool) → (b ≡ true → P x) → (P x → b ≡ true) → Keeps P xs ks → Keeps P (x ∷ xs) (cond b (x ∷ ks) ks)
filter_by P x xs ks true to from k = inl (to refl, (ks, refl, k))
filter_by P x xs ks false to from k = inr ((λ p. clash false (from p) refl), k)

keeps_filter : {X : Type 0} (P : X → Type 0) (test : X → Bool) (xs : List X) → AllByRecursion (λ (x : X). (test x ≡ true → P x) × (P x → test x ≡ true)) xs → Keeps P xs (filter test xs)
keeps_filter P test [] h = refl
keeps_filter P test (x ∷ xs) h = filter_by P x xs (filter test xs) (test x) h.0.0 h.0.1 (keeps_filter P test xs h.1)

-- both are entries of the lists
abbrev AreIn : List Entry → List Entry → Entry × Entry → Type 0
AreIn a b (e, f) = In e a × In f b

in_itself : {X : Type 0} (xs : List X) → AllByRecursion (λ (x : X). In x xs) xs
in_itself [] = tt
in_itself {X} (x ∷ xs) = (inl refl, each_weaker (λ (y : X). In y xs) (λ (y : X). In y (x ∷ xs)) (λ y k. inr k) xs (in_itself xs))

-- ---- order

-- not behind, by the first and then the second
abbrev Before : Pair → Pair → Type 0
Before p q = (p.first < q.first) ⊎ ((p.first ≡ q.first) × (p.second ≤ q.second))

-- what f makes of the elements is in order
abbrev Ascends : {X : Type 0} → (X → Pair) → List X → Type 0
Ascends f [] = Unit {0}
Ascends {X} f (x ∷ xs) = AllByRecursion (λ (y : X). Before (f x) (f y)) xs × Ascends f xs

both_before : (p q : Pair) → Before p q → Before q p → p ≡ q
both_before p q (inl a) (inl b) = absurd (omega (arith, a, b))
both_before p q (inl a) (inr b) = absurd (omega (arith, a, b.0))
both_before p q (inr a) (inl b) = absurd (omega (arith, a.0, b))
both_before p q (inr a) (inr b) = same_pair p.first p.second q.first q.second a.0 (omega (arith, a.1, b.1))

-- what stands in a list has what all have
has_by : (Q : Pair → Type 0) (p q : Pair) (n : ℕ) (b : Bool) → is_pair p q ≡ b → 0 < cond b 1 0 + n → Q q → (0 < n → Q p) → Q p
has_by Q p q n true e h here rest = subst Q (pair_is p q e) here
has_by Q p q n false e h here rest = rest (omega (arith, h))

times_has : (Q : Pair → Type 0) (p : Pair) (ps : List Pair) → 0 < times p ps → AllByRecursion Q ps → Q p
times_has Q p [] h all = absurd (omega (arith, h))
times_has Q p (q ∷ ps) h all = has_by Q p q (times p ps) (is_pair p q) refl (omega (arith, h, times_cons p q ps)) all.0 (λ more. times_has Q p ps more all.1)

itself : (p : Pair) → is_pair p p ≡ true
itself p = both_true (p.first == p.first) (p.second == p.second) (eq-eqb p.first p.first refl) (eq-eqb p.second p.second refl)

one_here : (p : Pair) (ps : List Pair) → times p (p ∷ ps) ≡ 1 + times p ps
one_here p ps = let e = ap {B = ℕ} (λ b. cond b 1 0) (itself p) in omega (arith, times_cons p p ps, e)

-- the first of a list is before or equal to what the list has
first_before : (p q : Pair) (qs : List Pair) → AllByRecursion (Before q) qs → 0 < times p (q ∷ qs) → Before q p
first_before p q qs all h = has_by (Before q) p q (times p qs) (is_pair p q) refl (omega (arith, h, times_cons p q qs)) (inr (refl, omega (arith))) (λ more. times_has (Before q) p qs more all)

-- two lists in order that have the same pairs as often are one
same_lists : {X : Type 0} (f : X → Pair) (ps : List Pair) (xs : List X) → Ascends (λ q. q) ps → Ascends f xs → ((p : Pair) → times p ps ≡ times p (map f xs)) → ps ≡ map f xs
same_lists f [] [] a b same = refl
same_lists f [] (x ∷ xs) a b same = absurd (let e = same (f x) in omega (arith, e, one_here (f x) (map f xs)))
same_lists f (p ∷ ps) [] a b same = absurd (let e = same p in omega (arith, e, one_here p ps))
same_lists {X} f (p ∷ ps) (x ∷ xs) a b same =
    let qs = map f xs in
    let e_p = same p in
    let e_q = same (f x) in
    let to = first_before p (f x) qs (all_mapped (λ (y : X). Before (f x) (f y)) (Before (f x)) f (λ y h. h) xs b.0) (omega (arith, e_p, one_here p ps)) in
    let from = first_before (f x) p ps a.0 (omega (arith, e_q, one_here (f x) qs)) in
    let head = both_before p (f x) from to in
    let rest = same_lists f ps xs a.1 b.1 (λ r. let e = same r in let g = ap {B = ℕ} (λ (z : Pair). cond (is_pair r z) 1 0) head in omega (arith, e, times_cons r p ps, times_cons r (f x) qs, g)) in
    ap (λ z. z ∷ ps) head ∙ ap (λ l. f x ∷ l) rest

-- ---- all pairs of rising offsets are in order

ascends_row : (e : Entry) (fs : List Entry) → Rises fs → Ascends at_entries (map (λ (f : Entry). (e, f)) fs)
ascends_row e [] r = tt
ascends_row e (f ∷ fs) r = (
  all_mapped (λ (g : Entry). f.at < g.at) (λ (z : Entry × Entry). Before (at_entries (e, f)) (at_entries z)) (λ (g : Entry). (e, g)) (λ g lt. inr (refl, omega (arith, lt))) fs (above f fs r),
  ascends_row e fs (rest_rises f fs r),
)

ascends_both : {X : Type 0} (f : X → Pair) (xs ys : List X) → Ascends f xs → Ascends f ys → AllByRecursion (λ (x : X). AllByRecursion (λ (y : X). Before (f x) (f y)) ys) xs → Ascends f (xs ++ ys)
ascends_both f [] ys a b h = b
ascends_both {X} f (x ∷ xs) ys a b h = (All-append (λ (y : X). Before (f x) (f y)) xs ys a.0 h.0, ascends_both f xs ys a.1 b h.1)

-- a row has the offset of its entry first, and the later rows have greater ones
ascends_rows : (es fs : List Entry) → Rises es → Rises fs → Ascends at_entries (pairs_of es fs)
ascends_rows [] fs r s = tt
ascends_rows (e ∷ es) fs r s =
    let row : List (Entry × Entry) = map (λ (f : Entry). (e, f)) fs in
    let later = all_pairs_of (λ (x : Entry). e.at < x.at) (λ (y : Entry). In y fs) (λ (z : Entry × Entry). e.at < z.0.at) (λ x y lt h. lt) es fs (above e es r) (in_itself fs) in
    let before = all_mapped (λ (y : Entry). In y fs) (λ (z : Entry × Entry). AllByRecursion (λ (x : Entry × Entry). Before (at_entries z) (at_entries x)) (pairs_of es fs)) (λ (f : Entry). (e, f))
    (λ f h. each_weaker (λ (z : Entry × Entry). e.at < z.0.at) (λ (x : Entry × Entry). Before (at_entries (e, f)) (at_entries x)) (λ x lt. inl lt) (pairs_of es fs) later) fs (in_itself fs) in
    ascends_both at_entries row (pairs_of es fs) (ascends_row e fs s) (ascends_rows es fs (rest_rises e es r) s) before

-- what is kept of a list in order is in order
ascends_kept : {X : Type 0} (P : X → Type 0) (f : X → Pair) (xs ks : List X) → Keeps P xs ks → Ascends f xs → Ascends f ks
ascends_kept P f [] ks e h = subst (Ascends f) (sym e) tt
ascends_kept {X} P f (x ∷ xs) ks (inl (p, (zs, e, k))) h = subst (Ascends f) (sym e) (kept_all P (λ (y : X). Before (f x) (f y)) xs zs k h.0, ascends_kept P f xs zs k h.1)
ascends_kept P f (x ∷ xs) ks (inr (n, k)) h = ascends_kept P f xs ks k h.1

-- ---- a list that is sorted by rank is in order

rank_before : (p q : Pair) → p.second < 4294967296 → q.second < 4294967296 → rank_of p ≤ rank_of q → Before p q
rank_before p q hp hq h = elim (cases_lt p.first q.first) [
  | inl lt ↦ inl lt
  | inr ge ↦ elim (cases_lt q.first p.first) [
    | inl lt ↦ absurd (omega (arith, hp, hq, h, lt))
    | inr le ↦ inr (omega (arith, ge, le), omega (arith, h, ge, le))
  ]
]

abbrev pub Fits : Pair → Type 0
Fits p = p.second < 4294967296

sorted_rest : (q : Pair) (qs : List Pair) → IsNonDecreasingBy rank_of (q ∷ qs) → IsNonDecreasingBy rank_of qs
sorted_rest q qs h = λ i j d le lt. h (suc i) (suc j) d (omega (arith, le)) (omega (arith, lt))

sorted_first : (q : Pair) (qs : List Pair) → IsNonDecreasingBy rank_of (q ∷ qs) → Fits q → All Fits qs → All (Before q) qs
sorted_first q qs h f all = λ k d lt. rank_before q (get_or qs k d) f (all k d lt) (h 0 (suc k) d (omega (arith)) (omega (arith, lt)))

sorted_ascends : (qs : List Pair) → IsNonDecreasingBy rank_of qs → All Fits qs → Ascends (λ q. q) qs
sorted_ascends [] h all = tt
sorted_ascends (q ∷ qs) h all =
    let rest = All-tail Fits q qs all in
    (recursion_from_All (Before q) qs (sorted_first q qs h (All-head Fits q qs all) rest), sorted_ascends qs (sorted_rest q qs h) rest)

-- ---- the whole

-- a pair stands in both lists as often
times_by : (a b : List Entry) (p : Pair) (qs : List Pair) (X kept : List (Entry × Entry)) → X ≡ pairs_of a b → AreProper a → AreProper b → Keeps Meeting X kept → AllByRecursion (AreIn a b) X → AllByRecursion (InCells a b 0 64) qs
    → AllByRecursion (InCells a b 0 64) (map at_entries kept) → ((p : Pair) → InCells a b 0 64 p → times p qs ≡ 1) → (n : ℕ) → times p qs ≡ n → times p qs ≡ times p (map at_entries kept)
times_by a b p qs X kept eX pa pb keeps inside all all_kept once zero is =
    is ∙ sym (times_none (InCells a b 0 64) p (map at_entries kept) all_kept (λ w. let e = once p w in omega (arith, e, is)))
times_by a b p qs X kept eX pa pb keeps inside all all_kept once (suc n) is =
    let w = times_has (InCells a b 0 64) p qs (omega (arith, is)) all in
    let meets = each_weaker (AreIn a b) (λ (z : Entry × Entry). at_entries z ≡ p → Meeting z) (λ z k same. in_meets a b z.0 z.1 p pa pb k.0 k.1 same w) X inside in
    let one_b = entry_once p.second b w.second pb.rising (in_from b w.second w.of_second) (sym (ap (λ (z : Pair). z.second) w.is)) in
    let one_a = entry_once p.first a w.first pa.rising (in_from a w.first w.of_first) (sym (ap (λ (z : Pair). z.first) w.is)) in
    once p w ∙ sym (kept_times Meeting at_entries p X kept keeps meets ∙ ap (λ l. times p (map at_entries l)) eX ∙ pair_times (λ (e : Entry). e.at) at_entries (λ x y. refl) p a b one_b ∙ one_a)

pub all_pairs : (a b : List Entry) (ps qs : List Pair) → AreProper a → AreProper b → ListsEach (InCells a b 0 64) ps → IsPermutation ps qs → IsNonDecreasingBy rank_of qs → All Fits qs → IsAllPairs a b qs
all_pairs a b ps qs pa pb each moved sorted fits =
    let W = InCells a b 0 64 in
    let X = pairs_of a b in
    let test : Entry × Entry → Bool = λ z. times (at_entries z) qs == 1 in
    let once : (p : Pair) → W p → times p qs ≡ 1 = λ p w. sum_by-IsPermutation (λ q. cond (is_pair p q) 1 0) ps qs moved ∙ each.once p w in
    let all = recursion_from_All W qs (All-permutation W ps qs moved each.no_other) in
    let inside = all_pairs_of (λ (e : Entry). In e a) (λ (f : Entry). In f b) (AreIn a b) (λ e f h k. (h, k)) a b (in_itself a) (in_itself b) in
    let known : AllByRecursion (λ (z : Entry × Entry). (test z ≡ true → Meeting z) × (Meeting z → test z ≡ true)) X =
    each_weaker (AreIn a b) (λ (z : Entry × Entry). (test z ≡ true → Meeting z) × (Meeting z → test z ≡ true))
    (λ z k. (
      λ t. in_meets a b z.0 z.1 (at_entries z) pa pb k.0 k.1 refl (times_has W (at_entries z) qs (let n = eqb-true (times (at_entries z) qs) 1 t in omega (arith, n)) all),
      λ m. eq-eqb (times (at_entries z) qs) 1 (once (at_entries z) (meets_in a b z.0 z.1 pa pb k.0 k.1 m)),
    )) X inside in
    let kept = filter test X in
    let keeps = keeps_filter Meeting test X known in
    let in_kept = kept_all Meeting (AreIn a b) X kept keeps inside in
    let all_kept = both_all (AreIn a b) Meeting W at_entries (λ z k m. meets_in a b z.0 z.1 pa pb k.0 k.1 m) kept in_kept (keeps_have Meeting X kept keeps) in
    let same = λ (p : Pair). times_by a b p qs X kept refl pa pb keeps inside all all_kept once (times p qs) refl in
    (kept, keeps, same_lists at_entries qs kept (sorted_ascends qs sorted fits) (ascends_kept Meeting at_entries X kept keeps (ascends_rows a b pa.rising pb.rising)) same)

-- what stands where a list has no pair
abbrev pub no_pair : Pair
no_pair = record { first = 0; second = 0 }

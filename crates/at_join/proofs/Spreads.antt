-- The extent round all entries, and how many pairs belong to a cell.
-- For `cell_pairs`, `merge`, `new`, `pairs_grid`, `pairs_plain` and `run`.
use Rattle.std.proofs.Common.{◌≡◌, ℕ, ◌+◌, ◌<◌, ◌≤◌, Bool, cond, List, [], ◌∷◌, ◌++◌, length, get_or, drop, map, Option, Some, None, inl, inr, arith, refl, sym, ap, subst, ◌∙◌}
use Rattle.std.specs.Prelude.{count_by, sum_by}
use Rattle.std.specs.List.{AllByRecursion}
use Rattle.std.proofs.lemmas.List.{drop_more}
use Rattle.std.proofs.lemmas.List.Sums.{sum_by-append, sum_by-cons}
use Rattle.std.proofs.lemmas.List.Sorted.{sum_by-IsPermutation}
use Rattle.std.proofs.ByRecursion.{All-append}
use Rattle.at_geom.specs.declared.rectangles.Extent.{Extent}
use Rattle.at_query.specs.declared.answer.parts.Entry.{Entry}
use Rattle.at_query.specs.Joined.{around, around_both}
use Rattle.at_query.specs.Parts.{IsProperEntry}
use Rattle.at_join.specs.declared.outlines.Outline.{Outline}
use Rattle.at_join.specs.declared.sides.Side.{Side}
use Rattle.at_join.specs.Boxes.{is_here_of, IsSpan}
use Rattle.at_query.specs.Results.{pairs_of}
use Rattle.at_join.specs.Cells.{rect_of, spread_of, belongs}
use Rattle.at_join.specs.Sides.{IsGrid, outlined, spread_onto, is_cell_here}
use Rattle.at_join.proofs.Extents.{around_span, shape_span}
use Rattle.at_join.proofs.FoundLists.{count_mapped}
use Rattle.at_join.proofs.Offsets.{In, optional, outlined_sum}
use Rattle.at_join.proofs.CellPairs.{entries_here}

pub onto_last : (start : Option Extent) (es : List Entry) (i : ℕ) (d : Entry) → i < length es → spread_onto start (drop i es) ≡ around_both (get_or es i d).extent (spread_onto start (drop (i + 1) es))
onto_last start es i d lt = ap (spread_onto start) (drop_more es i d lt)

onto_none : (es : List Entry) → spread_onto None es ≡ spread_of es
onto_none [] = refl
onto_none (e ∷ es) = ap (around_both e.extent) (onto_none es)

onto_joined : (a b : List Entry) → spread_onto (spread_onto None b) a ≡ spread_of (a ++ b)
onto_joined [] b = onto_none b
onto_joined (e ∷ a) b = ap (around_both e.extent) (onto_joined a b)

pub joint_is : (a b : List Entry) (x y : Option Extent) → y ≡ spread_onto None b → x ≡ spread_onto y a → x ≡ spread_of (a ++ b)
joint_is a b x y e f = f ∙ ap (λ o. spread_onto o a) e ∙ onto_joined a b

-- ---- it has a position, and its corners are in range

both_span : (o t : Option Extent) (j : Extent) → ((x : Extent) → o ≡ Some x → IsSpan x) → ((x : Extent) → t ≡ Some x → IsSpan x) → around_both o t ≡ Some j → IsSpan j
both_span None t j h k e = k j e
both_span (Some x) None j h k e = h j e
both_span (Some x) (Some y) j h k e = let s : around x y ≡ j = cc in subst IsSpan s (around_span x y (h x refl) (k y refl))

spread_span : (es : List Entry) (j : Extent) → AllByRecursion IsProperEntry es → spread_of es ≡ Some j → IsSpan j
spread_span [] j h e = absurd (cc)
spread_span (y ∷ es) j h e = both_span y.extent (spread_of es) j (λ x f. shape_span y.shape x h.0.in_range (sym h.0.extent ∙ f)) (λ x f. spread_span es x h.1 f) e

pub grid_span : (a b : Side) (j : Extent) (o : Option Extent) → IsGrid a b o → o ≡ Some j → IsSpan j
grid_span a b j o g e = spread_span (a.entries ++ b.entries) j (All-append IsProperEntry a.entries b.entries g.first.entries g.second.entries) (sym g.joint ∙ e)

-- ---- how many pairs of outlines are of a cell

same_optional : (n m : Extent → ℕ) → ((x : Extent) → n x ≡ m x) → (o : Option Extent) → optional n o ≡ optional m o
same_optional n m e None = refl
same_optional n m e (Some x) = e x

rows_sum : {X : Type 0} (p : X × X → Bool) (xs ys : List X) → count_by p (pairs_of xs ys) ≡ sum_by (λ (x : X). count_by (λ (y : X). p (x, y)) ys) xs
rows_sum p [] ys = refl
rows_sum {X} p (x ∷ xs) ys =
    let row : List (X × X) = map (λ (y : X). (x, y)) ys in
    let parts = sum_by-append (λ z. cond (p z) 1 0) row (pairs_of xs ys) in
    let first = count_mapped p (λ (y : X). (x, y)) ys in
    let rest = rows_sum p xs ys in
    let whole = sum_by-cons (λ (z : X). count_by (λ (y : X). p (z, y)) ys) x xs in
    omega (arith, parts, first, rest, whole)

sum_least : {X : Type 0} (f h : X → ℕ) (xs : List X) → ((x : X) → In x xs → f x ≤ h x) → sum_by f xs ≤ sum_by h xs
sum_least f h [] le = omega (arith)
sum_least f h (x ∷ xs) le =
    let one = le x (inl refl) in
    let rest = sum_least f h xs (λ y k. le y (inr k)) in
    omega (arith, one, rest, sum_by-cons f x xs, sum_by-cons h x xs)

-- a pair of entries counts as one of its rectangle only where it belongs to the cell
entry_counts : (a b : Side) (j : Extent) (cell : ℕ) (e f : Entry) (o t : Option Extent) → IsGrid a b (Some j) → In e a.entries → In f b.entries → e.extent ≡ o → f.extent ≡ t
    → optional (λ x. optional (λ y. cond (is_here_of (rect_of j cell) x y) 1 0) t) o ≤ cond (belongs a.entries b.entries cell (e, f)) 1 0
entry_counts a b j cell e f None t g h k ex fy = omega (arith)
entry_counts a b j cell e f (Some x) None g h k ex fy = omega (arith)
entry_counts a b j cell e f (Some x) (Some y) g h k ex fy =
    let same = ap {B = ℕ} (λ c. cond c 1 0) (entries_here a.entries b.entries j cell e f x y g.first.entries g.second.entries g.joint h k ex fy) in
    omega (arith, same)

row_counts : (a b : Side) (j : Extent) (cell : ℕ) (e : Entry) (o : Option Extent) → IsGrid a b (Some j) → In e a.entries → e.extent ≡ o
    → optional (λ x. sum_by (λ (f : Entry). optional (λ y. cond (is_here_of (rect_of j cell) x y) 1 0) f.extent) b.entries) o ≤ count_by (λ (f : Entry). belongs a.entries b.entries cell (e, f)) b.entries
row_counts a b j cell e None g h ex = omega (arith)
row_counts a b j cell e (Some x) g h ex =
    sum_least (λ (f : Entry). optional (λ y. cond (is_here_of (rect_of j cell) x y) 1 0) f.extent) (λ (f : Entry). cond (belongs a.entries b.entries cell (e, f)) 1 0) b.entries
    (λ f k. entry_counts a b j cell e f (Some x) f.extent g h k ex refl)

pub cell_steps : (a b : Side) (j : Extent) (cell : ℕ) → IsGrid a b (Some j)
    → count_by (is_cell_here (rect_of j cell)) (pairs_of a.outlines.items b.outlines.items) ≤ count_by (belongs a.entries b.entries cell) (pairs_of a.entries b.entries)
cell_steps a b j cell g =
    let rect = rect_of j cell in
    let row : Extent → ℕ = λ x. sum_by (λ (q : Outline). cond (is_here_of rect x q.extent) 1 0) b.outlines.items in
    let entry_row : Extent → ℕ = λ x. sum_by (λ (f : Entry). optional (λ y. cond (is_here_of rect x y) 1 0) f.extent) b.entries in
    let rows = rows_sum (is_cell_here rect) a.outlines.items b.outlines.items in
    let moved = sum_by-IsPermutation (λ (p : Outline). row p.extent) (outlined 0 a.entries) a.outlines.items g.of_first.outlines in
    let first = outlined_sum (λ at. row) 0 a.entries in
    let inner : (x : Extent) → row x ≡ entry_row x = λ x.
    sum_by-IsPermutation (λ (q : Outline). cond (is_here_of rect x q.extent) 1 0) (outlined 0 b.entries) b.outlines.items g.of_second.outlines ∙ outlined_sum (λ at y. cond (is_here_of rect x y) 1 0) 0 b.entries in
    let le = sum_least (λ (e : Entry). optional row e.extent) (λ (e : Entry). count_by (λ (f : Entry). belongs a.entries b.entries cell (e, f)) b.entries) a.entries
    (λ e h. let s = same_optional row entry_row inner e.extent in let n = row_counts a b j cell e e.extent g h refl in omega (arith, s, n)) in
    let whole = rows_sum (belongs a.entries b.entries cell) a.entries b.entries in
    omega (arith, rows, moved, first, le, whole)

pub cell_stepped : (a b : Side) (j : Extent) (cell : ℕ) (rect : Extent) (m n : ℕ) → IsGrid a b (Some j) → rect ≡ rect_of j cell
    → m ≤ n + count_by (is_cell_here rect) (pairs_of a.outlines.items b.outlines.items) → m ≤ n + count_by (belongs a.entries b.entries cell) (pairs_of a.entries b.entries)
cell_stepped a b j cell rect m n g e h =
    let most = cell_steps a b j cell g in
    let same = subst (λ r. m ≤ n + count_by (is_cell_here r) (pairs_of a.outlines.items b.outlines.items)) e h in
    omega (arith, most, same)

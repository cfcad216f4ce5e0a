-- What is found among the outlines of a grid's sides is what the contract of a cell tells.
-- For `cell_pairs`, `merge`, `new`, `pairs_grid`, `pairs_plain` and `run`.
use Rattle.std.proofs.Common.{◌≡◌, ℕ, ◌+◌, ◌==◌, true, ◌&&◌, cond, List, [], ◌∷◌, ◌++◌, map, Option, Some, None, inl, inr, arith, refl, sym, ap, subst, ◌∙◌}
use Rattle.std.specs.Prelude.{All}
use Rattle.std.specs.List.{AllByRecursion}
use Rattle.std.proofs.lemmas.Bool.{eqb-true, false_from_ne_true, and_parts}
use Rattle.std.proofs.lemmas.List.Sums.{sum_by-cons}
use Rattle.std.proofs.lemmas.List.Elements.{recursion_from_All, All-from_recursion}
use Rattle.std.proofs.ByRecursion.{All-append}
use Rattle.at_geom.specs.declared.rectangles.Extent.{Extent}
use Rattle.at_geom.specs.Shapes.{encloses, Meet}
use Rattle.at_geom.proofs.Elements.{some_left, some_right}
use Rattle.at_query.specs.declared.answer.parts.Entry.{Entry}
use Rattle.at_query.specs.declared.answer.answers.Pair.{Pair}
use Rattle.at_query.specs.Joined.{upper, around_both}
use Rattle.at_query.specs.Parts.{IsProperEntry}
use Rattle.at_query.specs.Results.{Keeps, pairs_of}
use Rattle.at_query.proofs.KeptLists.{kept_all}
use Rattle.at_join.specs.declared.outlines.Outline.{Outline}
use Rattle.at_join.specs.declared.sides.Side.{Side}
use Rattle.at_join.specs.Boxes.{touch_of, is_here_of, IsWide}
use Rattle.at_join.specs.Meetings.{Finds}
use Rattle.at_join.specs.Cells.{rect_of, spread_of, is_pair_of, belongs, InCells, is_pair, times, ListsEach}
use Rattle.at_join.specs.Sides.{IsAt, IsOutlineOf, IsGrid, CellHit, at_outlines}
use Rattle.at_join.proofs.Extents.{encloses_through, head_has, tail_has, reference_inside, shape_span}
use Rattle.at_join.proofs.CellRects.{rect_is_cell}
use Rattle.at_join.proofs.Rows.{one_at}
use Rattle.at_join.proofs.Offsets.{In, in_from, of_all, one_entry, outline_once, pair_times}

-- ---- the joint extent is round that of each entry

spread_has : (es : List Entry) (x : Extent) (e : Entry) → In e es → e.extent ≡ Some x → (j : Extent) × (spread_of es ≡ Some j) × (encloses j x ≡ true)
spread_has [] x e h ext = absurd h
spread_has (y ∷ es) x e (inl h) ext =
    let (j, is, round) = head_has x (spread_of es) in
    (j, ap (λ o. around_both o (spread_of es)) (ap (λ (z : Entry). z.extent) h ∙ ext) ∙ is, round)
spread_has (y ∷ es) x e (inr h) ext =
    let (k, is, round) = spread_has es x e h ext in
    let (j, joined, whole) = tail_has y.extent k in
    (j, ap (around_both y.extent) is ∙ joined, encloses_through j k x whole round)

pub gone : (es : List Entry) (e : Entry) (x : Extent) → spread_of es ≡ None → In e es → e.extent ≡ Some x → ⊥
gone es e x none h ext = let (j, is, round) = spread_has es x e h ext in cc

pub spread_round : (es : List Entry) (j x : Extent) (e : Entry) → spread_of es ≡ Some j → In e es → e.extent ≡ Some x → encloses j x ≡ true
spread_round es j x e is h ext =
    let (k, has, round) = spread_has es x e h ext in
    let same : k ≡ j = cc in
    subst (λ (z : Extent). encloses z x ≡ true) same round

-- ---- one pair of entries

-- an entry of a proper list has an extent with positions
wide_entry : (es : List Entry) (e : Entry) (x : Extent) → AllByRecursion IsProperEntry es → In e es → e.extent ≡ Some x → IsWide x
wide_entry es e x proper h ext = let p = of_all IsProperEntry es e proper h in (shape_span e.shape x p.in_range (sym p.extent ∙ ext)).wide

-- the code's test of two extents is the contract's
pub here_is : (j : Extent) (cell : ℕ) (x y : Extent) → IsWide x → IsWide y → encloses j x ≡ true → encloses j y ≡ true → is_here_of (rect_of j cell) x y ≡ is_pair_of (Some j) (Some x) (Some y) cell
here_is j cell x y v w h k = ap (λ b. touch_of x y && b) (rect_is_cell j cell (upper x.low y.low) (reference_inside j x y v w h k))

-- two entries with extents belong to the cell where their extents are one of its rectangle
pub entries_here : (a b : List Entry) (j : Extent) (cell : ℕ) (e f : Entry) (x y : Extent) → AllByRecursion IsProperEntry a → AllByRecursion IsProperEntry b → Some j ≡ spread_of (a ++ b)
    → In e a → In f b → e.extent ≡ Some x → f.extent ≡ Some y → is_here_of (rect_of j cell) x y ≡ belongs a b cell (e, f)
entries_here a b j cell e f x y pa pb joint h k ex fy =
    let round_x = spread_round (a ++ b) j x e (sym joint) (some_left (λ (z : Entry). z ≡ e) a b h) ex in
    let round_y = spread_round (a ++ b) j y f (sym joint) (some_right (λ (z : Entry). z ≡ f) a b k) fy in
    here_is j cell x y (wide_entry a e x pa h ex) (wide_entry b f y pb k fy) round_x round_y
    ∙ ap (λ o. is_pair_of o (Some x) (Some y) cell) joint
    ∙ ap (λ o. is_pair_of (spread_of (a ++ b)) o (Some y) cell) (sym ex)
    ∙ ap (λ o. is_pair_of (spread_of (a ++ b)) e.extent o cell) (sym fy)

in_at : (es : List Entry) (i : ℕ) (e : Entry) → IsAt es i e → In e es
in_at es i e at = in_from es e (i, at.0, at.1)

abbrev pub made : ℕ → ℕ → Pair
made m n = record { first = m; second = n }

pub same_pair : (m n k l : ℕ) → m ≡ k → n ≡ l → made m n ≡ made k l
same_pair m n k l e f = rw (e, f) refl

wanted_from_hit : (a b : Side) (j : Extent) (cell : ℕ) (p q : Outline) → IsGrid a b (Some j) → IsOutlineOf a.entries p → IsOutlineOf b.entries q
    → CellHit (rect_of j cell) a b (p, q) → InCells a.entries b.entries cell (cell + 1) (at_outlines (p, q))
wanted_from_hit a b j cell p q g (d, at_d, x_d, o_d) (c, at_c, x_c, o_c) (here, e, f, at_e, at_f, meet) =
    let same_e = one_at a.entries p.index d e at_d at_e in
    let same_f = one_at b.entries q.index c f at_c at_f in
    let x_e : e.extent ≡ Some p.extent = ap (λ (z : Entry). z.extent) (sym same_e) ∙ x_d in
    let x_f : f.extent ≡ Some q.extent = ap (λ (z : Entry). z.extent) (sym same_f) ∙ x_c in
    let o_e : e.at ≡ p.at = ap (λ (z : Entry). z.at) (sym same_e) ∙ o_d in
    let o_f : f.at ≡ q.at = ap (λ (z : Entry). z.at) (sym same_f) ∙ o_c in
    record {
      first = e;
      second = f;
      of_first = (p.index, at_e.0, at_e.1);
      of_second = (q.index, at_f.0, at_f.1);
      is = same_pair p.at q.at e.at f.at (sym o_e) (sym o_f);
      meet = meet;
      cell = cell;
      at_least = omega (arith);
      below = omega (arith);
      here = sym (entries_here a.entries b.entries j cell e f p.extent q.extent g.first.entries g.second.entries g.joint (in_at a.entries p.index e at_e) (in_at b.entries q.index f at_f) x_e x_f) ∙ here;
    }

hit_from_wanted : (a b : Side) (j : Extent) (cell : ℕ) (p q : Outline) (r : Pair) → IsGrid a b (Some j) → IsOutlineOf a.entries p → IsOutlineOf b.entries q
    → InCells a.entries b.entries cell (cell + 1) r → at_outlines (p, q) ≡ r → CellHit (rect_of j cell) a b (p, q)
hit_from_wanted a b j cell p q r g (d, at_d, x_d, o_d) (c, at_c, x_c, o_c) w same =
    let in_d = in_at a.entries p.index d at_d in
    let in_c = in_at b.entries q.index c at_c in
    let first : d.at ≡ w.first.at = o_d ∙ ap (λ (z : Pair). z.first) (same ∙ w.is) in
    let second : c.at ≡ w.second.at = o_c ∙ ap (λ (z : Pair). z.second) (same ∙ w.is) in
    let e_d = one_entry a.entries d w.first g.first.rising in_d (in_from a.entries w.first w.of_first) first in
    let e_c = one_entry b.entries c w.second g.second.rising in_c (in_from b.entries w.second w.of_second) second in
    let number : w.cell ≡ cell = omega (arith, w.at_least, w.below) in
    let here : belongs a.entries b.entries cell (d, c) ≡ true =
    ap (λ n. belongs a.entries b.entries n (d, c)) (sym number) ∙ ap (λ (z : Entry). belongs a.entries b.entries w.cell (z, c)) e_d ∙ ap (λ (z : Entry). belongs a.entries b.entries w.cell (w.first, z)) e_c ∙ w.here in
    let meet = subst (λ (z : Entry). Meet z.shape c.shape) (sym e_d) (subst (λ (z : Entry). Meet w.first.shape z.shape) (sym e_c) w.meet) in
    (entries_here a.entries b.entries j cell d c p.extent q.extent g.first.entries g.second.entries g.joint in_d in_c x_d x_c ∙ here, d, c, at_d, at_c, meet)

-- ---- all pairs

pub keeps_have : {X : Type 0} (P : X → Type 0) (xs ks : List X) → Keeps P xs ks → AllByRecursion P ks
keeps_have P [] ks e = subst (AllByRecursion P) (sym e) tt
keeps_have P (x ∷ xs) ks (inl (p, (zs, e, r))) = subst (AllByRecursion P) (sym e) (p, keeps_have P xs zs r)
keeps_have P (x ∷ xs) ks (inr (n, r)) = keeps_have P xs ks r

pub both_all : {X Y : Type 0} (P Q : X → Type 0) (R : Y → Type 0) (f : X → Y) → ((x : X) → P x → Q x → R (f x)) → (xs : List X) → AllByRecursion P xs → AllByRecursion Q xs → AllByRecursion R (map f xs)
both_all P Q R f to [] h k = tt
both_all P Q R f to (x ∷ xs) h k = (to x h.0 k.0, both_all P Q R f to xs h.1 k.1)

pub all_mapped : {X Y : Type 0} (P : X → Type 0) (R : Y → Type 0) (f : X → Y) → ((x : X) → P x → R (f x)) → (xs : List X) → AllByRecursion P xs → AllByRecursion R (map f xs)
all_mapped P R f to [] h = tt
all_mapped P R f to (x ∷ xs) h = (to x h.0, all_mapped P R f to xs h.1)

pub all_pairs_of : {X : Type 0} (P Q : X → Type 0) (R : X × X → Type 0) → ((x y : X) → P x → Q y → R (x, y)) → (xs ys : List X) → AllByRecursion P xs → AllByRecursion Q ys → AllByRecursion R (pairs_of xs ys)
all_pairs_of P Q R to [] ys h k = tt
all_pairs_of {X} P Q R to (x ∷ xs) ys h k =
    let row : List (X × X) = map (λ (y : X). (x, y)) ys in
    All-append R row (pairs_of xs ys) (all_mapped Q R (λ (y : X). (x, y)) (λ y q. to x y h.0 q) ys k) (all_pairs_of P Q R to xs ys h.1 k)

pub each_weaker : {X : Type 0} (P Q : X → Type 0) → ((x : X) → P x → Q x) → (xs : List X) → AllByRecursion P xs → AllByRecursion Q xs
each_weaker P Q to [] h = tt
each_weaker P Q to (x ∷ xs) h = (to x h.0, each_weaker P Q to xs h.1)

abbrev AreKnown : List Entry → List Entry → Outline × Outline → Type 0
AreKnown a b (p, q) = IsOutlineOf a p × IsOutlineOf b q

pub pair_is : (p q : Pair) → is_pair p q ≡ true → q ≡ p
pair_is p q h =
    let e = eqb-true q.first p.first (and_parts (q.first == p.first) (q.second == p.second) h).0 in
    let f = eqb-true q.second p.second (and_parts (q.first == p.first) (q.second == p.second) h).1 in
    same_pair q.first q.second p.first p.second e f

-- a pair whose outlines are all kept stands among the kept as often as among all
pub kept_times : {X : Type 0} (P : X → Type 0) (f : X → Pair) (r : Pair) (xs ks : List X) → Keeps P xs ks → AllByRecursion (λ (x : X). f x ≡ r → P x) xs → times r (map f ks) ≡ times r (map f xs)
kept_times P f r [] ks e all = ap (λ l. times r (map f l)) e
kept_times P f r (x ∷ xs) ks (inl (p, (zs, e, h))) all =
    ap (λ l. times r (map f l)) e ∙ sum_by-cons (λ q. cond (is_pair r q) 1 0) (f x) (map f zs)
    ∙ ap (λ n. cond (is_pair r (f x)) 1 0 + n) (kept_times P f r xs zs h all.1) ∙ sym (sum_by-cons (λ q. cond (is_pair r q) 1 0) (f x) (map f xs))
kept_times P f r (x ∷ xs) ks (inr (n, h)) all =
    let off = false_from_ne_true (is_pair r (f x)) (λ t. n (all.0 (pair_is r (f x) t))) in
    let none = ap {B = ℕ} (λ b. cond b 1 0) off in
    let more = sum_by-cons (λ q. cond (is_pair r q) 1 0) (f x) (map f xs) in
    let rest = kept_times P f r xs ks h all.1 in
    omega (arith, none, more, rest)

extents_of : (o x y : Option Extent) (cell : ℕ) → is_pair_of o x y cell ≡ true → ((z : Extent) × (x ≡ Some z)) × ((z : Extent) × (y ≡ Some z))
extents_of None x y cell h = absurd (cc)
extents_of (Some j) None y cell h = absurd (cc)
extents_of (Some j) (Some x) None cell h = absurd (cc)
extents_of (Some j) (Some x) (Some y) cell h = ((x, refl), (y, refl))

-- what is found among the outlines is each wanted pair once, and no other
pub cell_lists : (a b : Side) (j : Extent) (cell : ℕ) (ps : List Pair) → IsGrid a b (Some j)
    → Finds (CellHit (rect_of j cell) a b) at_outlines (pairs_of a.outlines.items b.outlines.items) [] ps → ListsEach (InCells a.entries b.entries cell (cell + 1)) ps
cell_lists a b j cell ps g (kept, h, e) =
    let P = CellHit (rect_of j cell) a b in
    let W = InCells a.entries b.entries cell (cell + 1) in
    let X = pairs_of a.outlines.items b.outlines.items in
    let known = all_pairs_of (IsOutlineOf a.entries) (IsOutlineOf b.entries) (AreKnown a.entries b.entries) (λ x y h k. (h, k)) a.outlines.items b.outlines.items (recursion_from_All (IsOutlineOf a.entries) a.outlines.items g.of_first.indices) (recursion_from_All (IsOutlineOf b.entries) b.outlines.items g.of_second.indices) in
    record {
      once = λ r w.
          let ext = extents_of (spread_of (a.entries ++ b.entries)) w.first.extent w.second.extent w.cell w.here in
          let first = ap (λ (z : Pair). z.first) w.is in
          let second = ap (λ (z : Pair). z.second) w.is in
          let one_b = outline_once r.second b.entries b.outlines.items w.second ext.1.0 g.of_second.outlines g.second.rising (in_from b.entries w.second w.of_second) (sym second) ext.1.1 in
          let one_a = outline_once r.first a.entries a.outlines.items w.first ext.0.0 g.of_first.outlines g.first.rising (in_from a.entries w.first w.of_first) (sym first) ext.0.1 in
          let hits = each_weaker (AreKnown a.entries b.entries) (λ (x : Outline × Outline). at_outlines x ≡ r → P x) (λ x k same. hit_from_wanted a b j cell x.0 x.1 r g k.0 k.1 w same) X known in
          ap (times r) e ∙ kept_times P at_outlines r X kept h hits ∙ pair_times (λ (q : Outline). q.at) at_outlines (λ x y. refl) r a.outlines.items b.outlines.items one_b ∙ one_a;
      no_other = subst (All W) (sym e) (All-from_recursion W (map at_outlines kept)
          (both_all (AreKnown a.entries b.entries) P W at_outlines (λ x k hit. wanted_from_hit a b j cell x.0 x.1 g k.0 k.1 hit) kept (kept_all P (AreKnown a.entries b.entries) X kept h known) (keeps_have P X kept h)));
    }

-- the same, as the code has it
pub cell_told : (a b : Side) (j : Extent) (cell : ℕ) (rect : Extent) (old new ps : List Pair) → IsGrid a b (Some j) → rect ≡ rect_of j cell → old ≡ [] → ps ≡ new
    → Finds (CellHit rect a b) at_outlines (pairs_of a.outlines.items b.outlines.items) old new → ListsEach (InCells a.entries b.entries cell (cell + 1)) ps
cell_told a b j cell rect old new ps g e f h found =
    subst (ListsEach (InCells a.entries b.entries cell (cell + 1))) (sym h)
    (cell_lists a b j cell new g
    (subst (λ l. Finds (CellHit (rect_of j cell) a b) at_outlines (pairs_of a.outlines.items b.outlines.items) l new) f
    (subst (λ r. Finds (CellHit r a b) at_outlines (pairs_of a.outlines.items b.outlines.items) old new) e found)))

-- Stretches of a side's outlines: what is near one, and what is found with these is found with all.
-- For `cell_pairs`, `merge` and `run`.
use Rattle.std.proofs.Common.{◌≡◌, ℕ, ◌+◌, ◌-◌, ◌<◌, ◌≤◌, true, List, [], ◌++◌, get_or, take, drop, map, arith, sym, ap, subst, ◌∙◌}
use Rattle.std.specs.Prelude.{All, count_by}
use Rattle.std.proofs.lemmas.List.{map-id}
use Rattle.std.proofs.lemmas.List.Elements.{All-take, All-drop, All-weaker, All-from_recursion, recursion_from_All}
use Rattle.at_geom.specs.declared.rectangles.Extent.{Extent}
use Rattle.at_geom.specs.Shapes.{encloses}
use Rattle.at_query.specs.Results.{Keeps, pairs_of}
use Rattle.at_query.specs.declared.answer.parts.Entry.{Entry}
use Rattle.at_query.specs.declared.answer.answers.Pair.{Pair}
use Rattle.at_query.proofs.KeptLists.{kept_all}
use Rattle.at_join.specs.declared.outlines.Outline.{Outline}
use Rattle.at_join.specs.declared.sides.Side.{Side}
use Rattle.at_join.specs.Boxes.{IsWide, common_of}
use Rattle.at_join.specs.Meetings.{Finds}
use Rattle.at_join.specs.Sides.{IsSide, IsOutlineOf, CellHit, at_outlines, is_cell_here, IsInWindow, itself}
use Rattle.at_join.proofs.Extents.{near_window}
use Rattle.at_join.proofs.FoundLists.{part_of, take_to, part_all, finds_next, pairs_next, count_next}
use Rattle.at_join.proofs.Sifted.{Sifts, sifts_pairs, sifts_kept, finds_sifted, count_sifted}

-- what was found as it is in a list that was empty is what is kept
found_kept : (Q : Outline → Type 0) (ys old new : List Outline) → old ≡ [] → Finds Q itself ys old new → Keeps Q ys new
found_kept Q ys old new e (ks, k, d) = subst (Keeps Q ys) (sym (d ∙ ap (λ l. l ++ map itself ks) e ∙ map-id ks)) k

near_all : (R : Outline → Type 0) (w : Extent) (ys near : List Outline) → Keeps (IsInWindow w) ys near → All R ys → All R near
near_all R w ys near k all = All-from_recursion R near (kept_all (IsInWindow w) R ys near k (recursion_from_All R ys all))

-- where the outlines of a stretch lie in an extent, their pairs in the rectangle are with outlines near it
sifts_near : (rect round : Extent) (a b : Side) (xs ys near : List Outline) → All (λ (p : Outline). encloses round p.extent ≡ true) xs → All (λ (q : Outline). IsWide q.extent) ys
    → Keeps (IsInWindow (common_of round rect)) ys near → Sifts (CellHit rect a b) (pairs_of xs ys) (pairs_of xs near)
sifts_near rect round a b xs ys near inside wide kept =
    sifts_pairs (CellHit rect a b) xs ys near (recursion_from_All (λ (p : Outline). Sifts (λ (q : Outline). CellHit rect a b (p, q)) ys near) xs
    (All-weaker (λ (p : Outline). encloses round p.extent ≡ true) (λ (p : Outline). Sifts (λ (q : Outline). CellHit rect a b (p, q)) ys near) (λ p inner.
    sifts_kept (λ (q : Outline). CellHit rect a b (p, q)) (IsInWindow (common_of round rect)) ys near
    (recursion_from_All (λ (q : Outline). CellHit rect a b (p, q) → IsInWindow (common_of round rect) q) ys
    (All-weaker (λ (q : Outline). IsWide q.extent) (λ (q : Outline). CellHit rect a b (p, q) → IsInWindow (common_of round rect) q)
    (λ q w hit. near_window rect round p.extent q.extent inner w hit.0) ys wide)) kept) xs inside))

-- ---- one stretch more

pub stretch_known : (es : List Entry) (xs outlines : List Outline) (from to : ℕ) → outlines ≡ xs → All (IsOutlineOf es) xs → All (IsOutlineOf es) (part_of outlines from to)
stretch_known es xs outlines from to same all =
    All-take (IsOutlineOf es) (to - from) (drop from outlines) (All-drop (IsOutlineOf es) from outlines (subst (All (IsOutlineOf es)) (sym same) all))

pub near_known : (es : List Entry) (ys cleared near slice : List Outline) (window : Extent) → slice ≡ near → cleared ≡ [] → Finds (IsInWindow window) itself ys cleared near → All (IsOutlineOf es) ys → All (IsOutlineOf es) slice
near_known es ys cleared near slice window same none h all =
    subst (All (IsOutlineOf es)) (sym same) (near_all (IsOutlineOf es) window ys near (found_kept (IsInWindow window) ys cleared near none h) all)

-- a part of the first side's outlines with those near it, with which all its pairs of the rectangle are found
pub record IsPart (rect : Extent) (a b : Side) (outlines slice : List Outline) (from to : ℕ) : Type 0 where
  pub next : take to a.outlines.items ≡ take from a.outlines.items ++ part_of a.outlines.items from to
  pub sifted : Sifts (CellHit rect a b) (pairs_of (part_of a.outlines.items from to) b.outlines.items) (pairs_of (part_of outlines from to) slice)

pub part_is : (rect round window : Extent) (a b : Side) (outlines cleared near slice : List Outline) (from to : ℕ) → IsSide b → outlines ≡ a.outlines.items → slice ≡ near → from < to
    → ((k : ℕ) (e : Outline) → from ≤ k → k < to → encloses round (get_or a.outlines.items k e).extent ≡ true) → window ≡ common_of round rect → cleared ≡ [] → Finds (IsInWindow window) itself b.outlines.items cleared near
    → IsPart rect a b outlines slice from to
part_is rect round window a b outlines cleared near slice from to side same same_near lt inside is none h =
    let xs = a.outlines.items in
    let ys = b.outlines.items in
    let sifted = sifts_near rect round a b (part_of xs from to) ys near (part_all (λ (p : Outline). encloses round p.extent ≡ true) xs from to (λ k e f t below. inside k e f t)) side.wide
    (subst (λ (w : Extent). Keeps (IsInWindow w) ys near) is (found_kept (IsInWindow window) ys cleared near none h)) in
    record {
      next = take_to xs from to (omega (arith, lt));
      sifted = subst (λ (l : List Outline). Sifts (CellHit rect a b) (pairs_of (part_of xs from to) ys) (pairs_of (part_of l from to) slice)) (sym same)
          (subst (λ (l : List Outline). Sifts (CellHit rect a b) (pairs_of (part_of xs from to) ys) (pairs_of (part_of xs from to) l)) (sym same_near) sifted);
    }

module _ {rect : Extent} {a b : Side} {outlines slice : List Outline} {from to : ℕ} where
  pub part_found : (old mid new : List Pair) → IsPart rect a b outlines slice from to → Finds (CellHit rect a b) at_outlines (pairs_of (take from a.outlines.items) b.outlines.items) old mid
      → Finds (CellHit rect a b) at_outlines (pairs_of (part_of outlines from to) slice) mid new → Finds (CellHit rect a b) at_outlines (pairs_of (take to a.outlines.items) b.outlines.items) old new
  part_found old mid new part h k =
      let xs = a.outlines.items in
      let ys = b.outlines.items in
      finds_next (CellHit rect a b) at_outlines (pairs_of (take from xs) ys) (pairs_of (part_of xs from to) ys) old mid new (pairs_next (take from xs) (part_of xs from to) ys part.next) h
      (finds_sifted (CellHit rect a b) at_outlines (pairs_of (part_of xs from to) ys) (pairs_of (part_of outlines from to) slice) mid new part.sifted k)

  pub part_stepped : (old mid new : ℕ) → IsPart rect a b outlines slice from to → mid ≤ old + count_by (is_cell_here rect) (pairs_of (take from a.outlines.items) b.outlines.items)
      → new ≤ mid + count_by (is_cell_here rect) (pairs_of (part_of outlines from to) slice) → new ≤ old + count_by (is_cell_here rect) (pairs_of (take to a.outlines.items) b.outlines.items)
  part_stepped old mid new part h k =
      let xs = a.outlines.items in
      let ys = b.outlines.items in
      let less = count_sifted (is_cell_here rect) (CellHit rect a b) (pairs_of (part_of xs from to) ys) (pairs_of (part_of outlines from to) slice) part.sifted in
      let all = count_next (is_cell_here rect) (take from xs) (part_of xs from to) ys part.next in
      omega (arith, h, k, less, all)

-- The outlines of a side: what each stands for, and what is no pair of a cell.
-- For `cell_pairs`, `merge`, `new`, `pairs_grid`, `pairs_plain` and `run`.
use Rattle.std.proofs.Common.{◌≡◌, ℕ, ◌+◌, false, List, [], ◌∷◌, ◌++◌, length, length-append, Option, Some, None, arith, refl, sym, subst, ◌∙◌}
use Rattle.std.specs.Prelude.{All}
use Rattle.std.specs.List.{AllByRecursion}
use Rattle.std.specs.List.Sorted.{IsPermutation}
use Rattle.std.proofs.lemmas.List.{append_assoc, get_or_default}
use Rattle.std.proofs.Math.Seq.{get_or-append_seam}
use Rattle.std.proofs.lemmas.List.Elements.{All-append, All-nil, All-cons}
use Rattle.std.proofs.lemmas.List.Sorted.{All-permutation}
use Rattle.at_geom.specs.declared.rectangles.Extent.{Extent}
use Rattle.at_geom.specs.Shapes.{IsShapeInRange, Meet}
use Rattle.at_query.specs.declared.answer.parts.Entry.{Entry}
use Rattle.at_query.specs.Parts.{IsProperEntry}
use Rattle.at_join.specs.declared.outlines.Outline.{Outline}
use Rattle.at_join.specs.declared.sides.Side.{Side}
use Rattle.at_join.specs.Boxes.{IsWide, touch_of}
use Rattle.at_join.specs.Meetings.{AreInRange}
use Rattle.at_join.specs.Sides.{IsAt, IsOutlineOf, outline_of, outlined, CellHit}
use Rattle.at_join.proofs.Extents.{shape_span, off_rect}

-- both facts of an outline
abbrev pub IsKnown : List Entry → Outline → Type 0
IsKnown es q = IsOutlineOf es q × IsWide q.extent

known_one : (before : List Entry) (e : Entry) (behind : List Entry) (x : Option Extent) → e.extent ≡ x → IsProperEntry e → All (IsKnown (before ++ e ∷ behind)) (outline_of (length before) e.at x)
known_one before e behind None is p = All-nil (IsKnown (before ++ e ∷ behind))
known_one before e behind (Some x) is p =
    All-cons (IsKnown (before ++ e ∷ behind)) _ [] ((e, (omega (arith, length-append before (e ∷ behind)), get_or-append_seam before e behind e), is, refl), (shape_span e.shape x p.in_range (sym p.extent ∙ is)).wide) (All-nil (IsKnown (before ++ e ∷ behind)))

known_from : (before es : List Entry) → AllByRecursion IsProperEntry es → All (IsKnown (before ++ es)) (outlined (length before) es)
known_from before [] p = All-nil (IsKnown (before ++ []))
known_from before (e ∷ es) p =
    let further = known_from (before ++ e ∷ []) es p.1 in
    let count : length (before ++ e ∷ []) ≡ length before + 1 = length-append before (e ∷ []) in
    let rest = subst (λ (n : ℕ). All (IsKnown ((before ++ e ∷ []) ++ es)) (outlined n es)) count further in
    let whole = subst (λ (l : List Entry). All (IsKnown l) (outlined (length before + 1) es)) (append_assoc before (e ∷ []) es) rest in
    All-append (IsKnown (before ++ e ∷ es)) (outline_of (length before) e.at e.extent) (outlined (length before + 1) es) (known_one before e es e.extent refl p.0) whole

pub known_outlines : (es : List Entry) (outlines : List Outline) → AllByRecursion IsProperEntry es → IsPermutation (outlined 0 es) outlines → All (IsKnown es) outlines
known_outlines es outlines p moved = All-permutation (IsKnown es) (outlined 0 es) outlines moved (known_from [] es p)

-- ---- what stands at an outline

pub entry_in_range : (es : List Entry) (i : ℕ) (e : Entry) → IsAt es i e → AreInRange es → IsShapeInRange e.shape
entry_in_range es i e at all = subst (λ (x : Entry). IsShapeInRange x.shape) at.1 (all i e at.0)

pub one_at : (es : List Entry) (i : ℕ) (e f : Entry) → IsAt es i e → IsAt es i f → e ≡ f
one_at es i e f h k = sym h.1 ∙ get_or_default es i e f h.0 ∙ k.1

-- ---- the pairs of a cell

pub cell_apart : (rect : Extent) (a b : Side) (p q : Outline) (e f : Entry) → IsAt a.entries p.index e → IsAt b.entries q.index f → ¬ Meet e.shape f.shape → ¬ CellHit rect a b (p, q)
cell_apart rect a b p q e f at_e at_f apart (here, x, y, at_x, at_y, meet) =
    let same_e = one_at a.entries p.index x e at_x at_e in
    let same_f = one_at b.entries q.index y f at_y at_f in
    apart (subst (λ (z : Entry). Meet e.shape z.shape) same_f (subst (λ (z : Entry). Meet z.shape y.shape) same_e meet))

pub cell_off : (rect : Extent) (a b : Side) (p q : Outline) → IsWide p.extent → touch_of p.extent rect ≡ false → ¬ CellHit rect a b (p, q)
cell_off rect a b p q wide off hit = off_rect rect p.extent q.extent wide off hit.0

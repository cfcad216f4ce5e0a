-- Lists that have one hull.
-- For `add`, `covers` and `join`.
use Rattle.std.proofs.Common.{◌≡◌, ℕ, ◌+◌, ◌-◌, ◌<◌, inl, inr, List, [], ◌∷◌, ◌++◌, length, take, drop, get_or, min, Contains, arith, sym, ap, ◌∙◌, subst, append_assoc, Result, Ok, Err}
use Rattle.std.specs.Prelude.{OnErr}
use Rattle.std.proofs.lemmas.List.{append-nil, take_all, take_more, take_min, take-append-drop, take-append-le}
use Rattle.std.proofs.Math.Seq.{take-add, take-append-add, take-length}
use Rattle.std.proofs.lemmas.List.Elements.{All-from_recursion, Contains-append_left, Contains-append_right, Contains-append_cases}
use Rattle.at_geom.specs.declared.positions.Pos.{Pos}
use Rattle.at_hull.specs.Hulls.{IsHull}
use Rattle.at_hull.specs.Within.{IsWithin}
use Rattle.at_hull.specs.Growth.{HaveOneHull, Growth, HoldsFront, held}
use Rattle.at_hull.proofs.Members.{all_by}
use Rattle.at_hull.proofs.Exists.{hull_exists}
use Rattle.at_hull.proofs.Insides.{own_with}
use Rattle.at_hull.proofs.Laws.{hull_of_same, hull_of_both}
use Rattle.at_hull.proofs.Unique.{one_hull}

pub one_hull_refl : (ps : List Pos) → HaveOneHull ps ps
one_hull_refl ps = record { forth = λ h k. k; back = λ h k. k }

pub one_hull_sym : (ps qs : List Pos) → HaveOneHull ps qs → HaveOneHull qs ps
one_hull_sym ps qs o = record { forth = o.back; back = o.forth }

pub one_hull_trans : (ps qs rs : List Pos) → HaveOneHull ps qs → HaveOneHull qs rs → HaveOneHull ps rs
one_hull_trans ps qs rs o u = record { forth = λ h k. u.forth h (o.forth h k); back = λ h k. o.back h (u.back h k) }

-- two lists of which one list is the hull
pub one_hull_by : (ps qs h : List Pos) → IsHull ps h → IsHull qs h → HaveOneHull ps qs
one_hull_by ps qs h k l = record {
  forth = λ g m. subst (IsHull qs) (one_hull ps h g k m) l;
  back = λ g m. subst (IsHull ps) (one_hull qs h g l m) k;
}

-- a list and its hull
pub one_hull_own : (ps h : List Pos) → IsHull ps h → IsHull h h → HaveOneHull ps h
one_hull_own ps h k l = one_hull_by ps h h k l

-- what is joined on both sides
pub one_hull_both : (ps qs rs ss : List Pos) → HaveOneHull ps rs → HaveOneHull qs ss → HaveOneHull (ps ++ qs) (rs ++ ss)
one_hull_both ps qs rs ss o u =
    let a = hull_exists ps in
    let b = hull_exists qs in
    let h = hull_exists (a.list ++ b.list) in
    one_hull_by (ps ++ qs) (rs ++ ss) h.list (hull_of_both ps qs a.list b.list h.list a.is b.is h.is)
    (hull_of_both rs ss a.list b.list h.list (o.forth a.list a.is) (u.forth b.list b.is) h.is)

-- more positions behind
pub one_hull_more : (ps qs rs : List Pos) → HaveOneHull ps qs → HaveOneHull (ps ++ rs) (qs ++ rs)
one_hull_more ps qs rs o = one_hull_both ps rs qs rs o (one_hull_refl rs)

-- what is added to the one of two lists that have one hull, and what was made of it
pub one_hull_grown : (ps old qs new : List Pos) → HaveOneHull ps old → HaveOneHull (old ++ qs) new → HaveOneHull (ps ++ qs) new
one_hull_grown ps old qs new o u = one_hull_trans (ps ++ qs) (old ++ qs) new (one_hull_more ps old qs o) u

from_swapped : (ps qs rs : List Pos) (p : Pos) → Contains ((ps ++ qs) ++ rs) p → Contains ((ps ++ rs) ++ qs) p
from_swapped ps qs rs p m =
    elim (Contains-append_cases (ps ++ qs) rs p m) [
      | inl n ↦ elim (Contains-append_cases ps qs p n) [ inl k ↦ Contains-append_left (ps ++ rs) qs p (Contains-append_left ps rs p k) | inr k ↦ Contains-append_right (ps ++ rs) qs p k ]
      | inr n ↦ Contains-append_left (ps ++ rs) qs p (Contains-append_right ps rs p n)
    ]

pub one_hull_swapped : (ps qs rs : List Pos) → HaveOneHull ((ps ++ qs) ++ rs) ((ps ++ rs) ++ qs)
one_hull_swapped ps qs rs =
    let a : List Pos = (ps ++ qs) ++ rs in
    let b : List Pos = (ps ++ rs) ++ qs in
    let h = hull_exists a in
    one_hull_by a b h.list h.is (hull_of_same a b h.list (all_by (Contains b) a (from_swapped ps qs rs), all_by (Contains a) b (from_swapped ps rs qs)) h.is)

-- ---- one position after another

one_more : (kept new ps : List Pos) (i : ℕ) (d : Pos) → i < length ps → HaveOneHull (kept ++ take i ps) new → HaveOneHull (kept ++ take (i + 1) ps) (new ++ get_or ps i d ∷ [])
one_more kept new ps i d l o =
    subst (λ (w : List Pos). HaveOneHull w (new ++ get_or ps i d ∷ [])) (append_assoc kept (take i ps) (get_or ps i d ∷ []) ∙ ap (λ (w : List Pos). kept ++ w) (sym (take_more ps i d l)))
    (one_hull_more (kept ++ take i ps) new (get_or ps i d ∷ []) o)

-- the next position lies within the hull
pub next_within : (kept h waiting ps : List Pos) (i : ℕ) (d : Pos) → i < length ps → IsHull h h → IsWithin h (get_or ps i d)
    → HaveOneHull (kept ++ take i ps) (h ++ waiting) → HaveOneHull (kept ++ take (i + 1) ps) (h ++ waiting)
next_within kept h waiting ps i d l own w o =
    let q : List Pos = get_or ps i d ∷ [] in
    one_hull_trans (kept ++ take (i + 1) ps) ((h ++ waiting) ++ q) (h ++ waiting) (one_more kept (h ++ waiting) ps i d l o)
    (one_hull_trans ((h ++ waiting) ++ q) ((h ++ q) ++ waiting) (h ++ waiting) (one_hull_swapped h waiting q)
    (one_hull_more (h ++ q) h waiting (one_hull_by (h ++ q) h h (own_with h q (All-from_recursion (IsWithin h) q (w, tt)) own) own)))

-- the next position is put behind the ones that wait
pub next_waits : (kept h waiting longer ps : List Pos) (i : ℕ) (d : Pos) → i < length ps → longer ≡ waiting ++ get_or ps i d ∷ []
    → HaveOneHull (kept ++ take i ps) (h ++ waiting) → HaveOneHull (kept ++ take (i + 1) ps) (h ++ longer)
next_waits kept h waiting longer ps i d l e o =
    subst (λ (w : List Pos). HaveOneHull (kept ++ take (i + 1) ps) w) (append_assoc h waiting (get_or ps i d ∷ []) ∙ ap (λ (w : List Pos). h ++ w) (sym e)) (one_more kept (h ++ waiting) ps i d l o)

-- ---- steps of a builder

-- the hull of all that is held takes its place
pub settled : (kept h waiting both none : List Pos) → HaveOneHull kept (h ++ waiting) → IsHull (h ++ waiting) both → IsHull both both → none ≡ [] → HaveOneHull kept (both ++ none)
settled kept h waiting both none o k own e =
    subst (λ (w : List Pos). HaveOneHull kept w) (sym (append-nil both) ∙ ap (λ (w : List Pos). both ++ w) (sym e))
    (one_hull_trans kept (h ++ waiting) both o (one_hull_own (h ++ waiting) both k own))

pub whole_front : (old new : Growth) (ps : List Pos) → HaveOneHull (held old ++ ps) (held new) → HoldsFront old ps new
whole_front old new ps o = (length ps, subst (λ (w : List Pos). HaveOneHull (held old ++ w) (held new)) (sym (take-length ps)) o)

pub first_front : (old new : Growth) (ps qs : List Pos) → HoldsFront old ps new → HoldsFront old (ps ++ qs) new
first_front old new ps qs f = (
  min f.0 (length ps),
  subst (λ (w : List Pos). HaveOneHull (held old ++ w) (held new)) (sym (take-append-le (min f.0 (length ps)) ps qs (omega arith) ∙ take_min f.0 ps)) f.1,
)

pub both_added : (old middle new : Growth) (ps qs : List Pos) → HaveOneHull (held old ++ ps) (held middle) → HaveOneHull (held middle ++ qs) (held new) → HaveOneHull (held old ++ (ps ++ qs)) (held new)
both_added old middle new ps qs o u =
    subst (λ (w : List Pos). HaveOneHull w (held new)) (append_assoc (held old) ps qs) (one_hull_grown (held old ++ ps) (held middle) qs (held new) o u)

pub later_front : (old middle new : Growth) (ps qs : List Pos) → HaveOneHull (held old ++ ps) (held middle) → HoldsFront middle qs new → HoldsFront old (ps ++ qs) new
later_front old middle new ps qs o f = (
  length ps + f.0,
  subst (λ (w : List Pos). HaveOneHull (held old ++ w) (held new)) (sym (take-append-add ps qs f.0)) (both_added old middle new ps (take f.0 qs) o f.1),
)

-- ---- one stretch after another

pub nothing_added : (old : Growth) (ps : List Pos) → HaveOneHull (held old ++ take 0 ps) (held old)
nothing_added old ps = subst (λ (w : List Pos). HaveOneHull w (held old)) (sym (append-nil (held old))) (one_hull_refl (held old))

-- the stretch behind the first i positions
pub stretch_added : (old middle new : Growth) (ps : List Pos) (i n : ℕ) → HaveOneHull (held old ++ take i ps) (held middle)
    → HaveOneHull (held middle ++ take n (drop i ps)) (held new) → HaveOneHull (held old ++ take (i + n) ps) (held new)
stretch_added old middle new ps i n o u =
    subst (λ (w : List Pos). HaveOneHull (held old ++ w) (held new)) (sym (take-add i n ps)) (both_added old middle new (take i ps) (take n (drop i ps)) o u)

pub stretch_front : (old middle new : Growth) (ps : List Pos) (i n : ℕ) → HaveOneHull (held old ++ take i ps) (held middle)
    → HoldsFront middle (take n (drop i ps)) new → HoldsFront old ps new
stretch_front old middle new ps i n o f =
    let g = subst (λ (w : List Pos). HoldsFront old w new) (sym (take-add i n ps)) (later_front old middle new (take i ps) (take n (drop i ps)) o f) in
    subst (λ (w : List Pos). HoldsFront old w new) (take-append-drop (i + n) ps) (first_front old new (take (i + n) ps) (drop (i + n) ps) g)

-- all behind them
pub rest_added : (old middle new : Growth) (ps : List Pos) (i : ℕ) → HaveOneHull (held old ++ take i ps) (held middle)
    → HaveOneHull (held middle ++ take (length ps - i) (drop i ps)) (held new) → HaveOneHull (held old ++ ps) (held new)
rest_added old middle new ps i o u =
    subst (λ (w : List Pos). HaveOneHull (held old ++ w) (held new)) (take_all (i + (length ps - i)) ps (omega arith)) (stretch_added old middle new ps i (length ps - i) o u)

pub always_on_err : {T E P : Type 0} (r : Result T E) → P → OnErr r P
always_on_err (Ok x) p = tt
always_on_err (Err e) p = p

-- a hull from which a builder was made
pub one_hull_from : (ps h : List Pos) → IsHull ps h → IsHull h h → HaveOneHull ps (held (record { hull = h; waiting = [] }))
one_hull_from ps h k own = subst (λ (w : List Pos). HaveOneHull ps w) (sym (append-nil h)) (one_hull_own ps h k own)

-- The parts of neighbouring cells, joined, and the pairs of all cells put in order.
-- For `merge` and `pairs_grid`.
use Rattle.std.proofs.Common.{◌≡◌, ℕ, ◌+◌, ◌<◌, ◌≤◌, true, cond, List, [], ◌∷◌, ◌++◌, Option, Some, None, inl, inr, ◌⊎◌, arith, refl, sym, ap, subst, ◌∙◌}
use Rattle.std.specs.List.{AllByRecursion}
use Rattle.std.proofs.lemmas.Bool.{cases_lt, eqb-true, false_from_ne_true, and_parts}
use Rattle.std.proofs.lemmas.List.Sums.{sum_by-append, sum_by-cons}
use Rattle.std.proofs.lemmas.List.Elements.{All-append, All-weaker, recursion_from_All}
use Rattle.at_geom.specs.declared.rectangles.Extent.{Extent}
use Rattle.at_query.specs.declared.answer.parts.Entry.{Entry}
use Rattle.at_query.specs.declared.answer.answers.Pair.{Pair}
use Rattle.at_query.specs.Parts.{AreProper}
use Rattle.at_join.specs.declared.job.Joining.{Joining}
use Rattle.at_join.specs.declared.job.PairPart.{PairPart}
use Rattle.at_join.specs.declared.job.PairPart.TheVariants.{Pairs, Lost}
use Rattle.at_join.specs.Cells.{spread_of, is_pair_of, belongs, InCells, is_pair, times}
use Rattle.at_join.specs.Parts.{ListsCells, StandsFor}
use Rattle.at_join.proofs.Offsets.{in_from, one_entry}
use Rattle.at_join.proofs.CellPairs.{pair_is}

-- ---- a pair of offsets belongs to one cell

one_number : (o x y : Option Extent) (m n : ℕ) → is_pair_of o x y m ≡ true → is_pair_of o x y n ≡ true → m ≡ n
one_number None x y m n h k = absurd (cc)
one_number (Some j) None y m n h k = absurd (cc)
one_number (Some j) (Some x) None m n h k = absurd (cc)
one_number (Some j) (Some x) (Some y) m n h k = sym (eqb-true _ m (and_parts _ _ h).1) ∙ eqb-true _ n (and_parts _ _ k).1

pub one_cell : (a b : List Entry) (from to low high : ℕ) (p : Pair) → AreProper a → AreProper b → (v : InCells a b from to p) (w : InCells a b low high p) → v.cell ≡ w.cell
one_cell a b from to low high p pa pb v w =
    let first : v.first.at ≡ w.first.at = ap (λ (z : Pair). z.first) (sym v.is ∙ w.is) in
    let second : v.second.at ≡ w.second.at = ap (λ (z : Pair). z.second) (sym v.is ∙ w.is) in
    let e = one_entry a v.first w.first pa.rising (in_from a v.first v.of_first) (in_from a w.first w.of_first) first in
    let f = one_entry b v.second w.second pb.rising (in_from b v.second v.of_second) (in_from b w.second w.of_second) second in
    let same : belongs a b w.cell (v.first, v.second) ≡ true = ap (λ (z : Entry). belongs a b w.cell (z, v.second)) e ∙ ap (λ (z : Entry). belongs a b w.cell (w.first, z)) f ∙ w.here in
    one_number (spread_of (a ++ b)) v.first.extent v.second.extent v.cell w.cell v.here same

within : (a b : List Entry) (from to low high : ℕ) (p : Pair) (v : InCells a b from to p) → low ≤ v.cell → v.cell < high → InCells a b low high p
within a b from to low high p v l h = record { first = v.first; second = v.second; of_first = v.of_first; of_second = v.of_second; is = v.is; meet = v.meet; cell = v.cell; at_least = l; below = h; here = v.here }

-- ---- how often a pair stands in a list

pub times_cons : (p q : Pair) (ps : List Pair) → times p (q ∷ ps) ≡ cond (is_pair p q) 1 0 + times p ps
times_cons p q ps = sum_by-cons (λ x. cond (is_pair p x) 1 0) q ps

pub times_none : (W : Pair → Type 0) (p : Pair) (ps : List Pair) → AllByRecursion W ps → (W p → ⊥) → times p ps ≡ 0
times_none W p [] all miss = refl
times_none W p (q ∷ ps) all miss =
    let off = false_from_ne_true (is_pair p q) (λ t. miss (subst W (pair_is p q t) all.0)) in
    let zero_here = ap {B = ℕ} (λ b. cond b 1 0) off in
    let rest = times_none W p ps all.1 miss in
    omega (arith, times_cons p q ps, zero_here, rest)

-- ---- two parts

once_joined : (f : Joining) (l r : List Pair) (a b c : ℕ) (p : Pair) → ListsCells f l a b → ListsCells f r b c → (w : InCells f.first f.second a c p) → (w.cell < b) ⊎ (b ≤ w.cell) → times p (l ++ r) ≡ 1
once_joined f l r a b c p h k w (inl lt) =
    let left = h.each.once p (within f.first f.second a c a b p w w.at_least lt) in
    let right = times_none (InCells f.first f.second b c) p r (recursion_from_All (InCells f.first f.second b c) r k.each.no_other)
    (λ v. let e = one_cell f.first f.second a c b c p h.first h.second w v in omega (arith, e, lt, v.at_least)) in
    let whole = sum_by-append (λ x. cond (is_pair p x) 1 0) l r in
    omega (arith, whole, left, right)
once_joined f l r a b c p h k w (inr ge) =
    let right = k.each.once p (within f.first f.second a c b c p w ge w.below) in
    let left = times_none (InCells f.first f.second a b) p l (recursion_from_All (InCells f.first f.second a b) l h.each.no_other)
    (λ v. let e = one_cell f.first f.second a c a b p h.first h.second w v in omega (arith, e, ge, v.below)) in
    let whole = sum_by-append (λ x. cond (is_pair p x) 1 0) l r in
    omega (arith, whole, left, right)

pub joined_lists : (f : Joining) (l r : List Pair) (a b c : ℕ) → ListsCells f l a b → ListsCells f r b c → ListsCells f (l ++ r) a c
joined_lists f l r a b c h k =
    let A = f.first in
    let B = f.second in
    record {
      first = h.first;
      second = h.second;
      order = omega (arith, h.order, k.order);
      none_lost = λ cell from to lost. elim (cases_lt cell b) [
        | inl lt ↦ h.none_lost cell from lt lost
        | inr ge ↦ k.none_lost cell ge to lost
      ];
      each = record {
        once = λ p w. once_joined f l r a b c p h k w (cases_lt w.cell b);
        no_other = All-append (InCells A B a c) l r
            (All-weaker (InCells A B a b) (InCells A B a c) (λ p v. within A B a b a c p v v.at_least (omega (arith, v.below, k.order))) l h.each.no_other)
            (All-weaker (InCells A B b c) (InCells A B a c) (λ p v. within A B b c a c p v (omega (arith, v.at_least, h.order)) v.below) r k.each.no_other);
      };
    }

pub merged : (f : Joining) (l r : List Pair) (part : PairPart) (a b c : ℕ) → ((ps : List Pair) → part ≡ Pairs ps → ps ≡ l ++ r) → ListsCells f l a b → ListsCells f r b c → StandsFor f part a c
merged f l r (Pairs ps) a b c is h k = subst (λ s. ListsCells f s a c) (sym (is ps refl)) (joined_lists f l r a b c h k)
merged f l r Lost a b c is h k = tt

-- What a sort by y and x and the removal of equal neighbours leave: each position once, from the lowest up.
-- For most public calls of the crate, `add`, `covers`, `covers_all` among them.
use Rattle.std.proofs.Common.{◌≡◌, inl, inr, Bool, true, List, ◌∷◌, sym, ap, ap₂, ◌∙◌, subst, int_cmp, IsPermutation}
use Rattle.std.specs.Prelude.{Contains, ◌&&◌}
use Rattle.std.specs.Ordering.{ordering_then, ordering_reverse, int_eq}
use Rattle.std.specs.declared.cmp.Ordering.{Ordering}
use Rattle.std.specs.declared.cmp.Ordering.TheVariants.{Less, Equal, Greater}
use Rattle.std.specs.Cmp.{IsTotalOrder, IsEquivalence, int_cmp_is, tied_then}
use Rattle.std.specs.List.{dedup}
use Rattle.std.specs.List.Sorted.{IsSorted, IsStrictlySortedBy}
use Rattle.std.proofs.Math.Bool.{and_comm}
use Rattle.std.proofs.lemmas.Bool.{and_parts}
use Rattle.std.proofs.lemmas.Bool.Decides.{Decides-int_eq}
use Rattle.std.proofs.lemmas.Cmp.{int_cmp_total, int_eq_equiv, on_total, then_total, on_equiv, and_equiv}
use Rattle.std.proofs.lemmas.List.Kept.{Contains-dedup, IsStrictlySortedBy-dedup}
use Rattle.std.proofs.lemmas.List.Filters.{All-dedup}
use Rattle.std.proofs.lemmas.List.Sorted.{All-permutation, IsPermutation-sym}
use Rattle.std.proofs.lemmas.List.Elements.{All-contains_itself, All-weaker}
use Rattle.at_geom.specs.declared.positions.Pos.{Pos}
use Rattle.at_hull.specs.Hulls.{IsBelow, HasSame, IsAscending}
use Rattle.at_hull.proofs.Ways.{by_order, same_pos}

-- ---- the order that the sort keeps

abbrev pub order : Pos → Pos → Ordering
order p q = ordering_then (int_cmp p.y q.y) (int_cmp p.x q.x)

order_total : IsTotalOrder order
order_total = then_total (on_total (λ (p : Pos). p.y) int_cmp_total) (on_total (λ (p : Pos). p.x) int_cmp_total)

less : (p q : Pos) → IsBelow p q → order p q ≡ Less
less p q (inl h) = ap (λ o. ordering_then o (int_cmp p.x q.x)) (sym (int_cmp_is p.y q.y Less h))
less p q (inr h) = ap₂ ordering_then (sym (int_cmp_is p.y q.y Equal h.0)) (sym (int_cmp_is p.x q.x Less h.1))

not_both_less : (p q : Pos) → order p q ≡ Less → order q p ≡ Less → ⊥
not_both_less p q h k = let e : Less ≡ Greater = sym h ∙ order_total.antisymm p q ∙ ap ordering_reverse k in cc

below_of : (p q : Pos) → order p q ≡ Less → IsBelow p q
below_of p q h =
    by_order p q (λ k. k)
    (λ e. let g = subst (λ (t : Pos). order t q ≡ Less) e h in absurd (not_both_less q q g g))
    (λ k. absurd (not_both_less p q h (less q p k)))

ascending : (xs : List Pos) → IsStrictlySortedBy order xs → IsAscending xs
unfolding IsStrictlySortedBy
ascending (a ∷ b ∷ r) h = (below_of a b h.0.0, ascending (b ∷ r) h.1)
ascending _ h = tt

-- ---- without equal neighbours

abbrev pub is_same : Pos → Pos → Bool
is_same a b = int_eq a.x b.x && int_eq a.y b.y

same_of_test : (a b : Pos) → is_same a b ≡ true → a ≡ b
same_of_test a b e =
    let both = and_parts (int_eq a.x b.x) (int_eq a.y b.y) e in
    same_pos a b ((Decides-int_eq a.x b.x).0 both.0) ((Decides-int_eq a.y b.y).0 both.1)

same_equivalence : IsEquivalence is_same
same_equivalence = and_equiv (on_equiv (λ (p : Pos). p.x) int_eq_equiv) (on_equiv (λ (p : Pos). p.y) int_eq_equiv)

pub ascending_once : (xs : List Pos) → IsSorted order xs → IsAscending (dedup is_same xs)
ascending_once xs h =
    ascending (dedup is_same xs) (IsStrictlySortedBy-dedup order_total (λ a b. and_comm (int_eq a.x b.x) (int_eq a.y b.y) ∙ tied_then (int_cmp a.y b.y) (int_cmp a.x b.x)) xs h)

pub same_moved : (ps xs : List Pos) → IsPermutation ps xs → HasSame (dedup is_same xs) ps
same_moved ps xs h = (
  All-dedup is_same (Contains ps) xs (All-permutation (Contains ps) ps xs h (All-contains_itself ps)),
  All-weaker (Contains xs) (Contains (dedup is_same xs)) (Contains-dedup same_equivalence same_of_test xs) ps (All-permutation (Contains xs) xs ps (IsPermutation-sym ps xs h) (All-contains_itself xs)),
)

-- Once no pass is away, and one was made, the whole lies in slot 0, and all blocks and inner nodes stand in the chief's lists.
-- For `close` and `run_crew`.
use Rattle.std.proofs.Common.{◌≡◌, ℕ, zero, suc, ◌+◌, ◌-◌, ◌*◌, ◌/◌, ◌^◌, ◌<◌, ◌≤◌, ◌==◌, ◌⊎◌, Option, Some, None, true, true≢false, List, [], length, sum_by, slice_index, refl, sym, ap, ◌∙◌, subst, inl, inr, ⊎_elim, arith}
use mathlib.Core.Option.{some, some-injective}
use lib.ListN.{get_elem?}
use mathlib.Core.Logic.Dec.{and}
use native.Mathlib.Decide.{dec_le, ℕ_discrete}
use Rattle.atomic_table.specs.Table.{State, Final, Seen}
use Rattle.at_crew.specs.declared.view.HeldNode.{HeldNode}
use Rattle.at_crew.specs.declared.view.Leader.{Leader}
use Rattle.at_crew.specs.declared.view.View.{View}
use Rattle.at_crew.specs.declared.view.View.TheVariants.{Spent, Climbs, Leads}
use Rattle.at_crew.specs.Nodes.{IsNode, first_of, end_of, bit_of, Made, Settled}
use Rattle.at_crew.specs.Views.{times, is_at, leads, lives, made, back, holds, claimed, merged, is_chief}
use Rattle.at_crew.specs.Rule.{OneWhere, CrewRule}
use Rattle.at_crew.proofs.Tree.{two, node_pos, node_bound, leaf_is_big, inner_is_small, left_node, right_node, root_node}
use Rattle.at_crew.proofs.Sums.{one_if_small, sum_le, sum_only, counts_same, counts_one}
use Rattle.at_crew.proofs.Claims.{some_blocks}
use Rattle.at_crew.proofs.Hires.{all_made, all_back}

upper : (d n : ℕ) → n < 2 ^ (suc d + 1) → Dec (suc n ≤ 2 ^ (d + 1)) → (n < 2 ^ (d + 1) → (l : ℕ) × (l ≤ d) × (2 ^ l ≤ n) × (n < 2 ^ (l + 1))) → (l : ℕ) × (l ≤ suc d) × (2 ^ l ≤ n) × (n < 2 ^ (l + 1))
upper d n lt (yes a) lower = let r = lower a in (r.0, omega (arith, r.1), r.2, r.3)
upper d n lt (no b) lower = let e : suc d ≡ d + 1 = omega arith in let e' : 2 ^ (suc d) ≡ 2 ^ (d + 1) = ap (λ (i : ℕ). 2 ^ i) e in (suc d, omega arith, omega (arith, b, e'), lt)

-- each number below 2 ^ (d + 1) is on some level
pub on_level : (d n : ℕ) → 0 < n → n < 2 ^ (d + 1) → (l : ℕ) × (l ≤ d) × (2 ^ l ≤ n) × (n < 2 ^ (l + 1))
on_level zero n pos lt = (0, omega arith, omega (arith, pos), lt)
on_level (suc d) n pos lt = upper d n lt (dec_le (suc n) (2 ^ (d + 1))) (λ a. on_level d n pos a)

pub some_node : (k d n : ℕ) → k ≡ 2 ^ d → 0 < n → n < 2 * k → (l : ℕ) × (h : ℕ) × IsNode k l h n
some_node k d n e pos lt = let t = two d in let r = on_level d n pos (omega (arith, e, t, lt)) in let i : d ≡ r.0 + (d - r.0) = omega (arith, r.1) in (r.0, d - r.0, (e ∙ ap (λ (j : ℕ). 2 ^ j) i, r.2, r.3))

dec_either : {A B : Type 0} → Dec A → Dec B → Dec (A ⊎ B)
dec_either (yes a) b = yes (inl a)
dec_either (no n) (yes b) = yes (inr b)
dec_either (no n) (no m) = no (⊎_elim n m)

settled_dec : (k : ℕ) (words : List ℕ) (n : ℕ) → Dec (Settled k words n)
settled_dec k words n =
    let word : ℕ = slice_index words (n / 2) in
    dec_either (and (ℕ_discrete n 1) (ℕ_discrete (slice_index words k) 1)) (and (dec_le (suc 1) n) (dec_either (ℕ_discrete word (bit_of n)) (ℕ_discrete word 3)))

module _ {P F : Type 0} (stands : F → P → ℕ → ℕ → Type 0) (f : F) (k : ℕ) (s : State (Option P) (View F)) (good : CrewRule stands f k s) (id : ℕ) (h : Leader F) (at : get_elem? s.views id ≡ some (Leads h))
    (home : h.made ≡ h.back) (some_made : 0 < h.made) where
  none_lives : sum_by lives s.views ≡ 0
  none_lives = let a = all_made f k (slice_index s.words 0) s.views good.counted id h at in let b = all_back f k (slice_index s.words 0) s.views good.counted id h at in let l = good.counted.living in omega (arith, a, b, l, home)

  past : k < slice_index s.words 0
  past = let b = all_back f k (slice_index s.words 0) s.views good.counted id h at in let e = good.counted.ended in omega (arith, b, e, home, some_made)

  none_held : (n : ℕ) → sum_by (holds n) s.views ≡ 0
  none_held n = let a = sum_le (holds n) lives le s.views in let b = none_lives in omega (arith, a, b)
    where
      held : (o : Option HeldNode) → is_at n o ≤ 1
      held None = omega arith
      held (Some p) = one_if_small (p.node == n)

      le : (v : View F) → holds n v ≤ lives v
      le Spent = omega arith
      le (Climbs v) = held v.held
      le (Leads v) = omega arith

  made_settled : (n : ℕ) → 0 < n → n < 2 * k → Made k s.words n → Settled k s.words n
  made_settled n p lt m = cases (settled_dec k s.words n)
    where
      cases : Dec (Settled k s.words n) → Settled k s.words n
      cases (yes x) = x
      cases (no x) = let a = counts_one _ _ (m, x) (good.listed.held n p lt) in let b = none_held n in absurd (omega (arith, a, b))

  all_made_at : (h' l n : ℕ) → IsNode k l h' n → Made k s.words n
  all_made_at zero l n is = let a = leaf_is_big k l n is in let b = node_bound k l zero n is in let c = past in inl (a, omega (arith, b, c))
  all_made_at (suc h') l n is = let left = left_node k l h' n is in let right = right_node k l h' n is in
      let small = inner_is_small k l h' n is in let pos = node_pos k l (suc h') n is in
      let sl = made_settled (2 * n) (node_pos k (l + 1) h' (2 * n) left) (node_bound k (l + 1) h' (2 * n) left) (all_made_at h' (l + 1) (2 * n) left) in
      let sr = made_settled (2 * n + 1) (node_pos k (l + 1) h' (2 * n + 1) right) (node_bound k (l + 1) h' (2 * n + 1) right) (all_made_at h' (l + 1) (2 * n + 1) right) in
      inr (small, both n pos sl sr)
    where
      both : (n : ℕ) → 0 < n → Settled k s.words (2 * n) → Settled k s.words (2 * n + 1) → slice_index s.words n ≡ 3
      both n pos (inl x) r = absurd (omega (arith, x.0))
      both n pos (inr x) (inl y) = absurd (omega (arith, y.0, pos))
      both n pos (inr x) (inr y) = let a : 2 * n / 2 ≡ n = omega arith in let b : (2 * n + 1) / 2 ≡ n = omega arith in let a' = ap (slice_index s.words) a in let b' = ap (slice_index s.words) b in
          let wx = x.1 in let wy = y.1 in omega (arith, a', b', wx, wy)

  pub whole : (x : P) × (get_elem? s.homes 0 ≡ some (some (Some x))) × stands f x 0 k
  whole = let d = good.power.0 in let e = good.power.1 in let is = root_node k good.power.0 good.power.1 in let pos = some_blocks stands f k s good in
      let set = made_settled 1 (omega arith) (omega (arith, pos)) (all_made_at good.power.0 zero 1 is) in
      let r = good.stored.tops zero good.power.0 1 is set (inl refl) in
      let a : first_of k good.power.0 1 ≡ 0 = omega (arith, e) in let b : end_of k good.power.0 1 ≡ k = omega (arith, e) in
      (r.0, ap (get_elem? s.homes) (sym a) ∙ r.1, subst (λ (z : ℕ × ℕ). stands f r.0 z.0 z.1) (λ i. (a i, b i)) r.2)

  only : (v : View F) → leads v ≡ 0 → lives v ≡ 0 → (claimed v ≡ []) × (merged v ≡ [])
  only Spent a b = (refl, refl)
  only (Climbs v) a b = absurd (omega (arith, b))
  only (Leads v) a b = absurd (omega (arith, a))

  pub all_claimed_once : (x : ℕ) → OneWhere (x < k) (times x h.claimed)
  all_claimed_once x = let c = past in counts_same _ _ (sum_by (λ u. times x (claimed u)) s.views) _ (λ y. y.1) (λ y. (omega (arith, y, c), y)) (sym (sum_only leads lives (λ u. times x (claimed u)) (λ v a b. ap (times x) (only v a b).0) s.views id (Leads h) at good.counted.chief none_lives)) (good.listed.claims x)

  pub all_merged_once : (x : ℕ) → OneWhere ((0 < x) × (x < k)) (times x h.merged)
  all_merged_once x = counts_same _ _ (sum_by (λ u. times x (merged u)) s.views) _ (λ y. (y.0, y.1)) (λ y. (y.0, y.1, three y.0 y.1)) (sym (sum_only leads lives (λ u. times x (merged u)) (λ v a b. ap (times x) (only v a b).1) s.views id (Leads h) at good.counted.chief none_lives)) (good.listed.merges x)
    where
      three : 0 < x → x < k → slice_index s.words x ≡ 3
      three p lt = let n = some_node k good.power.0 x good.power.1 p (omega (arith, lt)) in ⊎_elim (λ m. absurd (omega (arith, m.0, lt))) (λ m. m.1) (all_made_at n.1 n.0 x n.2)

-- the same, of the table at its end, where slot 0 was read
module _ {P F : Type 0} (stands : F → P → ℕ → ℕ → Type 0) (f : F) (k b id : ℕ) (w : View F) (ws : List ℕ) (xs : List (Option P)) (end : Final (Seen (CrewRule stands f k) id w) ws xs) (is : is_chief w ≡ true) (home : made w ≡ back w) (some_made : 0 < made w) (long : length xs ≡ b) where
  as_leader : (w : View F) → is_chief w ≡ true → (h : Leader F) × (w ≡ Leads h)
  as_leader (Leads h) e = (h, refl)
  as_leader _ e = absurd (true≢false (sym e))

  head : (h : Leader F) × (w ≡ Leads h)
  head = as_leader w is

  at : get_elem? end.0.views id ≡ some (Leads head.0)
  at = end.1.1 ∙ ap some head.1

  home' : head.0.made ≡ head.0.back
  home' = sym (ap made head.1) ∙ home ∙ ap back head.1

  some' : 0 < head.0.made
  some' = subst (λ (n : ℕ). 0 < n) (ap made head.1) some_made

  pub blocks_are : k ≡ b
  blocks_are = sym end.1.0.deep ∙ end.3 ∙ long

  pub whole_read : (r : Option P) → get_elem? xs 0 ≡ some r → (x : P) × (r ≡ Some x) × stands f x 0 b
  whole_read r read = let got = whole stands f k end.0 end.1.0 id head.0 at home' some' in
      (got.0, some-injective r (Some got.0) (sym read ∙ end.4 0 (Some got.0) got.1), subst (λ (n : ℕ). stands f got.0 0 n) blocks_are got.2)

  pub claimed_once : (x : ℕ) → OneWhere (x < b) (times x (claimed w))
  claimed_once x = subst (λ (z : ℕ × View F). OneWhere (x < z.0) (times x (claimed z.1))) (λ i. (blocks_are i, sym head.1 i)) (all_claimed_once stands f k end.0 end.1.0 id head.0 at home' some' x)

  pub merged_once : (x : ℕ) → OneWhere ((0 < x) × (x < b)) (times x (merged w))
  merged_once x = subst (λ (z : ℕ × View F). OneWhere ((0 < x) × (x < z.0)) (times x (merged z.1))) (λ i. (blocks_are i, sym head.1 i)) (all_merged_once stands f k end.0 end.1.0 id head.0 at home' some' x)

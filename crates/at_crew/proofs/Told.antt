-- What a deposit tells, in the words of the functions around it.
-- For `run_crew`, `settle` and `work`.
use Rattle.std.proofs.Common.{◌≡◌, ◌∙◌, ℕ, zero, suc, ◌+◌, ◌*◌, ◌/◌, ◌%◌, ◌<◌, ◌≤◌, ◌==◌, ◌⊎◌, eq-eqb, ne_eqb, Bool, true, false, List, [], ◌∷◌, ◌++◌, Option, Some, None, append_assoc, refl, ap, sym, subst, ⊎_elim, arith}
use mathlib.Core.Option.{none}
use Rattle.std.proofs.lemmas.List.{append-nil}
use Rattle.at_crew.specs.declared.view.HeldNode.{HeldNode}
use native.Mathlib.Decide.{ℕ_discrete}
use Rattle.atomic_table.specs.Table.{Me, step, rest}
use Rattle.at_crew.specs.declared.view.Climber.{Climber}
use Rattle.at_crew.specs.declared.view.View.{View}
use Rattle.at_crew.specs.declared.view.View.TheVariants.{Spent, Climbs}
use Rattle.at_crew.specs.Nodes.{IsNode, first_of, end_of, bit_of, sibling, above, ancestors}
use Rattle.at_crew.specs.Views.{held_node, held_of, climbs_to, climbing, resting, HasFacts, OnSome, rests, adds}
use Rattle.at_crew.specs.Steps.{DepositTells, carried, kept}
use Rattle.at_crew.specs.Seats.{children, HasChildren}
use Rattle.at_crew.proofs.Claims.{some-inj}
use Rattle.at_crew.proofs.Deposits.{me_of}
use Rattle.at_crew.proofs.Pairs.{head_part}
use Rattle.at_crew.proofs.Tree.{left_first, right_end, end_small, above_node}

own_slot : {P : Type 0} (k h n : ℕ) (x : Option P) → kept h (carried k h n x) ≡ (first_of k h n, x) ∷ []
own_slot k zero n x = refl
own_slot k (suc h) n x = refl

module _ {P F : Type 0} (stands : F → P → ℕ → ℕ → Type 0) (count : F → ℕ) (f : F) (k h n found : ℕ) (x : P) (seat' : Me (Option P) (View F)) where
  in_order : (slots : List (ℕ × Option P)) (y : P) → slots ≡ (first_of k h (sibling n), Some y) ∷ (first_of k h n, Some x) ∷ [] → stands f y (first_of k h (sibling n)) (end_of k h (sibling n)) → stands f x (first_of k h n) (end_of k h n)
      → Dec (n % 2 ≡ 0) → HasChildren stands f k slots (n / 2) h (n % 2 == 0)
  in_order slots y e sy sx (yes z) = let m : n ≡ 2 * (n / 2) = omega (arith, z) in let s : sibling n ≡ 2 * (n / 2) + 1 = omega (arith, z) in
      subst (λ (b : Bool). HasChildren stands f k slots (n / 2) h b) (sym (eq-eqb (n % 2) 0 z)) (
        x,
        y,
        e ∙ (λ i. (first_of k h (s i), Some y) ∷ (first_of k h (m i), Some x) ∷ []),
        subst (λ (q : ℕ). stands f x (first_of k h q) (end_of k h q)) m sx,
        subst (λ (q : ℕ). stands f y (first_of k h q) (end_of k h q)) s sy,
      )
  in_order slots y e sy sx (no z) = let m : n ≡ 2 * (n / 2) + 1 = omega (arith, z) in let s : sibling n ≡ 2 * (n / 2) = omega (arith, z) in
      subst (λ (b : Bool). HasChildren stands f k slots (n / 2) h b) (sym (ne_eqb (n % 2) 0 z)) (
        y,
        x,
        e ∙ (λ i. (first_of k h (s i), Some y) ∷ (first_of k h (m i), Some x) ∷ []),
        subst (λ (q : ℕ). stands f y (first_of k h q) (end_of k h q)) s sy,
        subst (λ (q : ℕ). stands f x (first_of k h q) (end_of k h q)) m sx,
      )

  second_at : (slots : ℕ) → slots ≡ k → (v : Climber F) (m : List (ℕ × Option P)) → v.held ≡ Some (held_node n h) → v.facts ≡ f → m ≡ carried k h n (Some x) → stands f x (first_of k h n) (end_of k h n) → (¬ (found ≡ 0))
      → DepositTells stands count (step slots (n / 2) (bit_of n) 0 none) (Climbs v, m) found seat'
      → (seat'.0 ≡ climbs_to (held_node (n / 2) (h + 1)) (Climbs v)) × HasChildren stands f k seat'.1 (n / 2) h (n % 2 == 0) × (count f ≡ k)
  second_at slots e v m held facts is sx some met = let told = subst (λ o. OnSome o (λ p.
      ((found ≡ 0) × (seat' ≡ me_of (Climbs (resting v)) []))
      ⊎ ((0 < found) × ((y : P) × (seat' ≡ me_of (Climbs (climbing (held_node (n / 2) (p.height + 1)) v)) ((first_of slots p.height (sibling p.node), Some y) ∷ kept p.height m))
      × stands v.facts y (first_of slots p.height (sibling p.node)) (end_of slots p.height (sibling p.node)))))) held met.1 in
      ⊎_elim (λ t. absurd (some t.0))
      (λ t. (
        ap (λ q. q.0) t.1.1,
        in_order seat'.1 t.1.0 (ap (λ q. q.1) t.1.1 ∙ (λ i. (first_of (e i) h (sibling n), Some t.1.0) ∷ (ap (kept h) is ∙ own_slot k h n (Some x)) i))
            (subst (λ (z : F × ℕ). stands z.0 t.1.0 (first_of z.1 h (sibling n)) (end_of z.1 h (sibling n))) (λ i. (facts i, e i)) t.1.2) sx (ℕ_discrete (n % 2) 0),
        ap count (sym facts) ∙ met.0 ∙ e,
      )) told

  pub second : (slots : ℕ) → slots ≡ k → (w : View F) (m : List (ℕ × Option P)) → held_of w ≡ Some (held_node n h) → HasFacts f w → m ≡ carried k h n (Some x) → stands f x (first_of k h n) (end_of k h n) → (¬ (found ≡ 0))
      → DepositTells stands count (step slots (n / 2) (bit_of n) 0 none) (w, m) found seat'
      → (seat'.0 ≡ climbs_to (held_node (n / 2) (h + 1)) w) × HasChildren stands f k seat'.1 (n / 2) h (n % 2 == 0) × (count f ≡ k)
  second slots e (Climbs v) m held facts is sx some met = second_at slots e v m held facts is sx some met
  second slots e _ m held facts is sx some met = absurd facts

-- the parts of two children, found twice, are the same
pub same_children : {P : Type 0} (own : Bool) (left right : ℕ) (a b c d : P) → children own left right a b ≡ children own left right c d → (a ≡ c) × (b ≡ d)
same_children true left right a b c d e = (some-inj (ap (λ m. head_part (rest m)) e), some-inj (ap head_part e))
same_children false left right a b c d e = (some-inj (ap head_part e), some-inj (ap (λ m. head_part (rest m)) e))

module _ {P F : Type 0} (stands : F → P → ℕ → ℕ → Type 0) (f : F) (k h p : ℕ) where
  -- the spans of the two children are neighbours
  pub neighbours : (l : ℕ) → IsNode k l (h + 1) p → (left : Bool) (m : List (ℕ × Option P)) → HasChildren stands f k m p h left → (a b : P) (count : ℕ) → count ≡ k → m ≡ children left (first_of k h (2 * p)) (first_of k h (2 * p + 1)) a b
      → stands f a (first_of k (h + 1) p) (first_of k h (2 * p + 1)) × stands f b (first_of k h (2 * p + 1)) (end_of k (h + 1) p) × (end_of k (h + 1) p ≤ count)
  neighbours l is left m has a b count all e = let same = same_children left (first_of k h (2 * p)) (first_of k h (2 * p + 1)) has.0 has.1 a b (sym has.2 ∙ e) in let up : suc h ≡ h + 1 = omega arith in
      let lf : first_of k h (2 * p) ≡ first_of k (h + 1) p = left_first k h p ∙ ap (λ (i : ℕ). first_of k i p) up in let re : end_of k h (2 * p + 1) ≡ end_of k (h + 1) p = right_end k h p ∙ ap (λ (i : ℕ). end_of k i p) up in
      (subst (λ (z : P × ℕ). stands f z.0 z.1 (first_of k h (2 * p + 1))) (λ i. (same.0 i, lf i)) has.3, subst (λ (z : P × ℕ). stands f z.0 (first_of k h (2 * p + 1)) z.1) (λ i. (same.1 i, re i)) has.4, omega (arith, end_small k l (h + 1) p is, all))

-- the merged part in the left slot, and the empty right one
pub full_carried : {P : Type 0} (k h p : ℕ) (x : P) (l r : ℕ) (m : List (ℕ × Option P)) → l ≡ first_of k h (2 * p) → r ≡ first_of k h (2 * p + 1) → m ≡ (r, None) ∷ (l, Some x) ∷ [] → m ≡ carried k (h + 1) p (Some x)
full_carried k h p x l r m el er e = let up : suc h ≡ h + 1 = omega arith in let l' = el ∙ left_first k h p in e ∙ (λ i. (er i, None) ∷ (l' i, Some x) ∷ []) ∙ ap (λ (j : ℕ). carried k j p (Some x)) up

pub parent_at : (k l h n : ℕ) → IsNode k l h n → 1 < n → (l' : ℕ) × IsNode k l' (h + 1) (n / 2)
parent_at k l h n is lt = let r = above_node k l h n is lt in let up : suc h ≡ h + 1 = omega arith in (r.0, subst (λ (i : ℕ). IsNode k r.0 i (n / 2)) up r.1)

module _ {F : Type 0} (f : F) where
  pub climbs_facts : (p : HeldNode) (w : View F) → HasFacts f w → HasFacts f (climbs_to p w) × (held_of (climbs_to p w) ≡ Some p)
  climbs_facts p (Climbs v) h = (h, refl)
  climbs_facts p _ h = absurd h

-- one step more
pub climbs_adds : {F : Type 0} (p : HeldNode) (w w0 : View F) (ns : List ℕ) → rests w ≡ adds ns (rests w0) → rests (climbs_to p w) ≡ adds (ns ++ p.node ∷ []) (rests w0)
climbs_adds {F = F} p w w0 ns e = one p w ∙ ap (adds (p.node ∷ [])) e ∙ twice w0 p ns
  where
    one : (p : HeldNode) (w : View F) → rests (climbs_to p w) ≡ adds (p.node ∷ []) (rests w)
    one p Spent = refl
    one p _ = refl

    twice : (w0 : View F) (p : HeldNode) (ns : List ℕ) → adds (p.node ∷ []) (adds ns (rests w0)) ≡ adds (ns ++ p.node ∷ []) (rests w0)
    twice (Climbs v) p ns = ap (λ (m : List ℕ). Climbs record { facts = v.facts; number = v.number; held = None; last = v.last; over = v.over; claimed = v.claimed; merged = m }) (append_assoc v.merged ns (p.node ∷ []))
    twice _ p ns = refl

pub adds_none : {F : Type 0} (w : View F) → rests w ≡ adds [] (rests w)
adds_none (Climbs v) = ap (λ (m : List ℕ). Climbs record { facts = v.facts; number = v.number; held = None; last = v.last; over = v.over; claimed = v.claimed; merged = m }) (sym (append-nil v.merged))
adds_none _ = refl

-- the node one level higher, and the list of those above the leaf with it
pub above_more : (leaf h n : ℕ) → n ≡ above leaf h → n / 2 ≡ above leaf (h + 1)
above_more leaf h n e = let up : suc h ≡ h + 1 = omega arith in ap (λ (m : ℕ). m / 2) e ∙ ap (above leaf) up

pub ancestors_more : (leaf h n : ℕ) → n ≡ above leaf h → ancestors leaf h ++ n / 2 ∷ [] ≡ ancestors leaf (h + 1)
ancestors_more leaf h n e = let up : suc h ≡ h + 1 = omega arith in ap (λ (m : ℕ). ancestors leaf h ++ m / 2 ∷ []) e ∙ ap (ancestors leaf) up

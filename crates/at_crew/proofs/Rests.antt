-- A pass that puts its part home, into its node's slot, and holds nothing then keeps the rule.
-- For `claim`, `run_crew`, `settle` and `work`.
use Rattle.std.proofs.Common.{◌≡◌, ◌≢◌, ℕ, ◌*◌, ◌/◌, ◌<◌, Option, Some, List, set, length, sum_by, slice_index, refl, sym, ap, ◌∙◌, subst, inl, inr, arith}
use mathlib.Core.Option.{some}
use mathlib.Core.Option as maybe
use lib.ListN.{get_elem?}
use native.Mathlib.Decide.{ℕ_discrete}
use Rattle.atomic_table.specs.Table.{State}
use Rattle.at_crew.specs.declared.view.Climber.{Climber}
use Rattle.at_crew.specs.declared.view.View.{View}
use Rattle.at_crew.specs.declared.view.View.TheVariants.{Climbs}
use Rattle.at_crew.specs.Nodes.{IsNode, first_of, end_of, Made, Settled, IsTop}
use Rattle.at_crew.specs.Views.{held_node, is_at, holds, resting}
use Rattle.at_crew.specs.Rule.{OneWhere, PassesCounted, WordsMarked, WorkListed, PartsStored, CrewRule}
use Rattle.at_crew.proofs.Tree.{spans_first, node_pos, node_bound, one_height}
use Rattle.at_crew.proofs.Above.{apart, all_claimed}
use Rattle.at_crew.proofs.Alike.{SameThrees, counted_on, claims_on, merges_on, rule_on}
use Rattle.at_crew.proofs.Sums.{one_or_other, sum_same, sum_less, sum_ge, hit, miss, counts_same, counts_one, counts_yes}
use Rattle.at_crew.proofs.Claims.{some≢none}
use Rattle.at_crew.proofs.Turns.{Laid}

-- what a pass that holds node n at height h knows by the rule
pub record Holds (k : ℕ) (words : List ℕ) (n h : ℕ) : Type 0 where
  pub level : ℕ
  pub is : IsNode k level h n
  pub made : Made k words n
  pub loose : ¬ Settled k words n

pub holds_node : {P F : Type 0} (stands : F → P → ℕ → ℕ → Type 0) (f : F) (k : ℕ) (s : State (Option P) (View F)) → CrewRule stands f k s → (id : ℕ) (v : Climber F) → get_elem? s.views id ≡ some (Climbs v)
    → (n h : ℕ) → v.held ≡ Some (held_node n h) → Holds k s.words n h
holds_node stands f k s good id v at n h held = let knows = (good.counted.each id (Climbs v) at).2 (held_node n h) held in
    let one : holds n (Climbs v) ≡ 1 = ap (is_at n) held ∙ hit n n refl in let some_hold = sum_ge (holds n) s.views id (Climbs v) at in
    let yes = counts_yes _ _ (omega (arith, one, some_hold)) (good.listed.held n (node_pos k knows.0 h n knows.1) (node_bound k knows.0 h n knows.1)) in
    record { level = knows.0; is = knows.1; made = yes.0; loose = yes.1 }

-- node n is settled, and all else is as it was
pub record Settles (k : ℕ) (words words' : List ℕ) (n : ℕ) : Type 0 where
  pub zero_same : slice_index words' 0 ≡ slice_index words 0
  pub threes : SameThrees k words words'
  pub settled_same : (m : ℕ) → m ≢ n → m < 2 * k → Settled k words' m → Settled k words m
  pub settled_again : (m : ℕ) → m < 2 * k → Settled k words m → Settled k words' m
  pub settled_now : Settled k words' n
  pub two_bits : (m : ℕ) → 0 < m → m < k → slice_index words' m < 4
  pub one_bit : slice_index words' k < 2

module _ {P F : Type 0} (stands : F → P → ℕ → ℕ → Type 0) (f : F) (k : ℕ) (s : State (Option P) (View F)) (good : CrewRule stands f k s) (id : ℕ) (v : Climber F) (at : get_elem? s.views id ≡ some (Climbs v))
    (n h : ℕ) (held : v.held ≡ Some (held_node n h)) (words' : List ℕ) (turn : Settles k s.words words' n) (at_top : IsTop k s.words n) where
  mine : Holds k s.words n h
  mine = holds_node stands f k s good id v at n h held

  n_pos : 0 < n
  n_pos = node_pos k mine.level h n mine.is

  made_same : (m : ℕ) → 0 < m → Made k words' m → Made k s.words m
  made_same m pos (inl x) = let z = turn.zero_same in inl (x.0, omega (arith, x.1, z))
  made_same m pos (inr x) = inr (x.0, (turn.threes m pos x.0).0 x.1)

  made_again : (m : ℕ) → 0 < m → Made k s.words m → Made k words' m
  made_again m pos (inl x) = let z = turn.zero_same in inl (x.0, omega (arith, x.1, z))
  made_again m pos (inr x) = inr (x.0, (turn.threes m pos x.0).1 x.1)

  top_same : (m : ℕ) → m < 2 * k → IsTop k words' m → IsTop k s.words m
  top_same m lt (inl e) = inl e
  top_same m lt (inr x) = inr (x.0, λ y. x.1 ((turn.threes (m / 2) (omega (arith, x.0)) (omega (arith, lt))).1 y))

  rest_marked : WordsMarked k words'
  rest_marked = record {
    two_bits = turn.two_bits;
    one_bit = turn.one_bit;
    below = λ m p lt. one_or_other (λ i. Settled k words' i → Made k words' i) n m (λ set. made_again n n_pos mine.made) (λ ne set. made_again m p (good.marked.below m p lt (turn.settled_same m ne lt set)));
  }

  rest_held : (m : ℕ) → 0 < m → m < 2 * k → OneWhere (Made k words' m × (¬ Settled k words' m)) (sum_by (holds m) (set s.views id (Climbs (resting v))))
  rest_held m p lt = one_or_other (λ i. OneWhere (Made k words' i × (¬ Settled k words' i)) (sum_by (holds i) (set s.views id (Climbs (resting v))))) n m
      (let old : sum_by (holds n) s.views ≡ 1 = counts_one _ _ (mine.made, mine.loose) (good.listed.held n n_pos (node_bound k mine.level h n mine.is)) in
      let less = sum_less (holds n) 1 s.views id (Climbs v) (Climbs (resting v)) at (ap (is_at n) held ∙ hit n n refl) in
      inr ((λ x. x.1 turn.settled_now), omega (arith, old, less)))
      (λ ne. counts_same _ _ (sum_by (holds m) s.views) _
      (λ x. (made_again m p x.0, λ y. x.1 (turn.settled_same m ne lt y))) (λ x. (made_same m p x.0, λ y. x.1 (turn.settled_again m lt y)))
      (sum_same (holds m) s.views id (Climbs v) (Climbs (resting v)) at (sym (ap (is_at m) held ∙ miss n m (λ e. ne (sym e))))) (good.listed.held m p lt))

  rest_listed : WorkListed k words' (set s.views id (Climbs (resting v)))
  rest_listed = record {
    held = rest_held;
    claims = claims_on k s.views id v (resting v) at s.words words' refl turn.zero_same good.listed;
    merges = merges_on k s.views id v (resting v) at s.words words' refl turn.threes good.listed;
  }

  rest_counted : PassesCounted f k (slice_index words' 0) (set s.views id (Climbs (resting v)))
  rest_counted = let z = turn.zero_same in let my = good.counted.each id (Climbs v) at in
      counted_on k s.views id v (resting v) at f (slice_index s.words 0) (slice_index words' 0) 0 refl (omega arith) (omega (arith, z)) (omega (arith, z))
      (my.0, (λ x e. (let l = my.1 x e in omega (arith, l, z))), (λ p e. absurd (some≢none (sym e))), λ e. refl) good.counted

  -- the slots after: those outside the node's span as they were, and the part in the slot of its first leaf
  rest_stored : (homes' : List (maybe.Option (Option P))) → Laid k h n s.homes homes' → (x : P) → get_elem? homes' (first_of k h n) ≡ some (some (Some x)) → stands f x (first_of k h n) (end_of k h n) → PartsStored stands f k words' homes'
  rest_stored homes' laid x there stood = record {
    tops = λ l h' m is set top. tops l h' m is set top (ℕ_discrete m n);
    fresh = λ i ge lt. (let z = turn.zero_same in laid.others i (λ in_span. (let y = all_claimed k s.words good.marked h n i n_pos lt in_span mine.made in omega (arith, y, ge, z))) ∙ good.stored.fresh i (omega (arith, ge, z)) lt);
  }
    where
      tops : (l h' m : ℕ) → IsNode k l h' m → Settled k words' m → IsTop k words' m → Dec (m ≡ n) → (y : P) × (get_elem? homes' (first_of k h' m) ≡ some (some (Some y))) × stands f y (first_of k h' m) (end_of k h' m)
      tops l h' m is set top (yes e) = let same : h ≡ h' = one_height k mine.level h n l h' mine.is (subst (λ (i : ℕ). IsNode k l h' i) e is) in
          subst (λ (z : ℕ × ℕ). (y : P) × (get_elem? homes' (first_of k z.0 z.1) ≡ some (some (Some y))) × stands f y (first_of k z.0 z.1) (end_of k z.0 z.1)) (λ i. (same i, sym e i)) (x, there, stood)
      tops l h' m is set top (no ne) = let lt = node_bound k l h' m is in let set' = turn.settled_same m ne lt set in let top' = top_same m lt top in let old = good.stored.tops l h' m is set' top' in
          let was : Made k s.words m = good.marked.below m (node_pos k l h' m is) lt set' in
          (old.0, laid.others (first_of k h' m) (λ in_span. ne (sym (apart k s.words good.marked mine.level h n l h' m (first_of k h' m) mine.is is in_span (spans_first k l h' m is) mine.made was at_top top'))) ∙ old.1, old.2)

  pub rest_kept : (homes' : List (maybe.Option (Option P))) → Laid k h n s.homes homes' → (x : P) → get_elem? homes' (first_of k h n) ≡ some (some (Some x)) → stands f x (first_of k h n) (end_of k h n)
      → length words' ≡ length s.words → CrewRule stands f k record { words = words'; homes = homes'; views = set s.views id (Climbs (resting v)) }
  rest_kept homes' laid x there stood long = rule_on stands f k s good words' homes' (set s.views id (Climbs (resting v))) long laid.long rest_counted rest_marked rest_listed (rest_stored homes' laid x there stood)

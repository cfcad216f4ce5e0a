-- The second deposit at a node keeps the rule: the pass takes its neighbour's slot, and holds the parent, which it has merged.
-- For `claim`, `run_crew`, `settle` and `work`.
use Rattle.std.proofs.Common.{◌≡◌, ◌≢◌, ℕ, suc, ◌+◌, ◌*◌, ◌/◌, ◌<◌, ◌⊎◌, Option, Some, List, set, length, sum_by, slice_index, refl, sym, ap, ◌∙◌, subst, inl, inr, ⊎_elim, arith}
use mathlib.Core.Option.{some}
use mathlib.Core.Option as maybe
use lib.ListN.{get_elem?}
use native.Mathlib.Decide.{ℕ_discrete}
use Rattle.atomic_table.specs.Table.{State}
use Rattle.at_crew.specs.declared.view.HeldNode.{HeldNode}
use Rattle.at_crew.specs.declared.view.Climber.{Climber}
use Rattle.at_crew.specs.declared.view.View.{View}
use Rattle.at_crew.specs.declared.view.View.TheVariants.{Climbs}
use Rattle.at_crew.specs.Nodes.{IsNode, first_of, end_of, bit_of, sibling, Made, Settled, IsTop}
use Rattle.at_crew.specs.Views.{times, held_node, is_at, holds, merged, climbing}
use Rattle.at_crew.specs.Rule.{OneWhere, PassesCounted, WordsMarked, WorkListed, PartsStored, CrewRule}
use Rattle.at_crew.proofs.Tree.{Spans, spans_first, node_pos, node_bound, two_children, sibling_bit, sibling_parent, sibling_other, above_node, child_node, spans_parent}
use Rattle.at_crew.proofs.Above.{apart, all_claimed, held_is_top}
use Rattle.at_crew.proofs.Sums.{one_or_other, sum_same, sum_less, sum_more, hit, miss, times_more, counts_same, counts_one, counts_zero}
use Rattle.at_crew.proofs.Alike.{counted_on, claims_on, rule_on}
use Rattle.at_crew.proofs.Claims.{some-inj, some≢none}
use Rattle.at_crew.proofs.Turns.{Turned, Laid}
use Rattle.at_crew.proofs.Rests.{Holds, holds_node}

module _ {P F : Type 0} (stands : F → P → ℕ → ℕ → Type 0) (f : F) (k : ℕ) (s : State (Option P) (View F)) (good : CrewRule stands f k s) (id : ℕ) (v : Climber F) (at : get_elem? s.views id ≡ some (Climbs v))
    (n h : ℕ) (held : v.held ≡ Some (held_node n h)) (deep : 1 < n) (words' : List ℕ) (turn : Turned s.words words' (n / 2) 3) (somebody : slice_index s.words (n / 2) + bit_of n ≡ 3) where
  abbrev p : ℕ
  p = n / 2

  abbrev next : Climber F
  next = climbing (held_node p (h + 1)) v

  mine : Holds k s.words n h
  mine = holds_node stands f k s good id v at n h held

  small : n < 2 * k
  small = node_bound k mine.level h n mine.is

  parent : (l : ℕ) × IsNode k l (suc h) p
  parent = above_node k mine.level h n mine.is deep

  p_pos : 0 < p
  p_pos = omega (arith, deep)

  p_small : p < k
  p_small = omega (arith, small)

  p_else : p ≢ n
  p_else e = omega (arith, e, deep)

  -- the parent was not made
  before : ¬ (slice_index s.words p ≡ 3)
  before e = omega (arith, e, somebody)

  p_new : ¬ Made k s.words p
  p_new (inl x) = omega (arith, x.0, p_small)
  p_new (inr x) = before x.1

  p_loose : ¬ Settled k s.words p
  p_loose x = p_new (good.marked.below p p_pos (omega (arith, p_small)) x)

  zero_same : slice_index words' 0 ≡ slice_index s.words 0
  zero_same = turn.others 0 (λ e. omega (arith, e, deep))

  root_word : slice_index words' k ≡ slice_index s.words k
  root_word = turn.others k (λ e. omega (arith, e, small))

  made_same : (m : ℕ) → m ≢ p → Made k words' m → Made k s.words m
  made_same m ne (inl x) = let z = zero_same in inl (x.0, omega (arith, x.1, z))
  made_same m ne (inr x) = inr (x.0, sym (turn.others m ne) ∙ x.1)

  made_again : (m : ℕ) → Made k s.words m → Made k words' m
  made_again m (inl x) = let z = zero_same in inl (x.0, omega (arith, x.1, z))
  made_again m (inr x) = inr (x.0, turn.others m (λ e. before (sym (ap (slice_index s.words) e) ∙ x.1)) ∙ x.1)

  made_now : Made k words' p
  made_now = inr (p_small, turn.here)

  -- the neighbour was settled already
  settled_same : (m : ℕ) → m ≢ n → Settled k words' m → Settled k s.words m
  settled_same m ne (inl x) = inl (x.0, sym root_word ∙ x.1)
  settled_same m ne (inr x) = cases (ℕ_discrete (m / 2) p)
    where
      cases : Dec (m / 2 ≡ p) → Settled k s.words m
      cases (yes e) = let i : m ≡ sibling n = two_children n m e ne in let b = sibling_bit n in let b' : bit_of m ≡ bit_of (sibling n) = ap bit_of i in let u : slice_index s.words (m / 2) ≡ slice_index s.words p = ap (slice_index s.words) e in
          inr (x.0, inl (omega (arith, b, b', u, somebody)))
      cases (no other) = let w = turn.others (m / 2) other in inr (x.0, ⊎_elim (λ y. inl (sym w ∙ y)) (λ y. inr (sym w ∙ y)) x.1)

  settled_again : (m : ℕ) → Settled k s.words m → Settled k words' m
  settled_again m (inl x) = inl (x.0, root_word ∙ x.1)
  settled_again m (inr x) = inr (
    x.0,
    one_or_other (λ i. (slice_index words' i ≡ bit_of m) ⊎ (slice_index words' i ≡ 3)) p (m / 2) (inr turn.here) (λ other. (let w = turn.others (m / 2) other in ⊎_elim (λ y. inl (w ∙ y)) (λ y. inr (w ∙ y)) x.1)),
  )

  settled_now : Settled k words' n
  settled_now = inr (deep, inr turn.here)

  p_loose_now : ¬ Settled k words' p
  p_loose_now x = p_loose (settled_same p p_else x)

  -- nothing below p is at the top now
  top_same : (m : ℕ) → IsTop k words' m → IsTop k s.words m
  top_same m (inl e) = inl e
  top_same m (inr x) = inr (x.0, λ y. x.1 (turn.others (m / 2) (λ e. before (sym (ap (slice_index s.words) e) ∙ y)) ∙ y))

  holds_one : holds n (Climbs v) ≡ 1
  holds_one = ap (is_at n) held ∙ hit n n refl

  holds_else : (m : ℕ) → m ≢ n → holds m (Climbs v) ≡ 0
  holds_else m ne = ap (is_at m) held ∙ miss n m (λ e. ne (sym e))

  second_marked : WordsMarked k words'
  second_marked = record {
    two_bits = λ m q lt. one_or_other (λ i. slice_index words' i < 4) p m (let a = turn.here in omega (arith, a)) (λ ne. (let a = good.marked.two_bits m q lt in let b = turn.others m ne in omega (arith, a, b)));
    one_bit = (let a = good.marked.one_bit in let b = root_word in omega (arith, a, b));
    below = λ m q lt. one_or_other (λ i. Settled k words' i → Made k words' i) n m (λ set. made_again n mine.made) (λ ne set. made_again m (good.marked.below m q lt (settled_same m ne set)));
  }

  abbrev HeldThen : ℕ → Type 0
  HeldThen m = OneWhere (Made k words' m × (¬ Settled k words' m)) (sum_by (holds m) (set s.views id (Climbs next)))

  held_at_n : HeldThen n
  held_at_n = let old : sum_by (holds n) s.views ≡ 1 = counts_one _ _ (mine.made, mine.loose) (good.listed.held n (omega (arith, deep)) small) in
      let less = sum_less (holds n) 1 s.views id (Climbs v) (Climbs next) at (holds_one ∙ ap (λ (i : ℕ). i + 1) (sym (miss p n p_else))) in
      inr ((λ x. x.1 settled_now), omega (arith, old, less))

  held_at_p : HeldThen p
  held_at_p = let old : sum_by (holds p) s.views ≡ 0 = counts_zero _ _ (λ x. p_new x.0) (good.listed.held p p_pos (omega (arith, p_small))) in
      let a : holds p (Climbs next) ≡ 1 = hit p p refl in let b = holds_else p p_else in
      let more = sum_more (holds p) 1 s.views id (Climbs v) (Climbs next) at (omega (arith, a, b)) in
      inl ((made_now, p_loose_now), omega (arith, old, more))

  second_held : (m : ℕ) → 0 < m → m < 2 * k → OneWhere (Made k words' m × (¬ Settled k words' m)) (sum_by (holds m) (set s.views id (Climbs next)))
  second_held m q lt = one_or_other HeldThen n m held_at_n (λ ne. one_or_other HeldThen p m held_at_p (λ np. counts_same _ _ (sum_by (holds m) s.views) _
      (λ x. (made_again m x.0, λ y. x.1 (settled_same m ne y))) (λ x. (made_same m np x.0, λ y. x.1 (settled_again m y)))
      (sum_same (holds m) s.views id (Climbs v) (Climbs next) at (miss p m (λ e. np (sym e)) ∙ sym (holds_else m ne))) (good.listed.held m q lt)))

  second_listed : WorkListed k words' (set s.views id (Climbs next))
  second_listed = record {
    held = second_held;
    claims = claims_on k s.views id v next at s.words words' refl zero_same good.listed;
    merges = λ x. merges x (ℕ_discrete p x);
  }
    where
      merges : (x : ℕ) → Dec (p ≡ x) → OneWhere ((0 < x) × (x < k) × (slice_index words' x ≡ 3)) (sum_by (λ u. times x (merged u)) (set s.views id (Climbs next)))
      merges x (yes e) = let old : sum_by (λ u. times x (merged u)) s.views ≡ 0 = counts_zero _ _ (λ y. before (ap (slice_index s.words) e ∙ y.2)) (good.listed.merges x) in
          let more = sum_more (λ (u : View F). times x (merged u)) 1 s.views id (Climbs v) (Climbs next) at (times_more x p v.merged ∙ ap (λ (i : ℕ). times x v.merged + i) (hit p x e)) in
          inl ((omega (arith, e, p_pos), omega (arith, e, p_small), sym (ap (slice_index words') e) ∙ turn.here), omega (arith, old, more))
      merges x (no ne) = let same = sum_more (λ (u : View F). times x (merged u)) 0 s.views id (Climbs v) (Climbs next) at (times_more x p v.merged ∙ ap (λ (i : ℕ). times x v.merged + i) (miss p x ne)) in
          let w = turn.others x (λ e. ne (sym e)) in
          counts_same _ _ (sum_by (λ u. times x (merged u)) s.views) _ (λ y. (y.0, y.1, w ∙ y.2)) (λ y. (y.0, y.1, sym w ∙ y.2)) (omega (arith, same)) (good.listed.merges x)

  second_counted : PassesCounted f k (slice_index words' 0) (set s.views id (Climbs next))
  second_counted = let z = zero_same in let my = good.counted.each id (Climbs v) at in
      counted_on k s.views id v next at f (slice_index s.words 0) (slice_index words' 0) 0 refl (omega arith) (omega (arith, z)) (omega (arith, z)) (
        my.0,
        (λ x e. (let l = my.1 x e in omega (arith, l, z))),
        (λ r e. (let q : held_node p (h + 1) ≡ r = some-inj e in let up : suc h ≡ h + 1 = omega arith in (parent.0, subst (λ (t : HeldNode). IsNode k parent.0 t.height t.node) q (subst (λ (i : ℕ). IsNode k parent.0 i p) up parent.1)))),
        (λ e. absurd (some≢none (sym held ∙ my.3 e))),
      ) good.counted

  p_top : IsTop k words' p
  p_top = held_is_top k words' second_marked p p_pos p_loose_now

  second_stored : (homes' : List (maybe.Option (Option P))) → Laid k (suc h) p s.homes homes' → PartsStored stands f k words' homes'
  second_stored homes' laid = record {
    tops = λ l h' m is set top. (let ne : m ≢ n = not_n m top in let set' = settled_same m ne set in let top' = top_same m top in let old = good.stored.tops l h' m is set' top' in
        let was : Made k words' m = second_marked.below m (node_pos k l h' m is) (node_bound k l h' m is) set in
        (old.0, laid.others (first_of k h' m) (λ in_span. (let same : p ≡ m = apart k words' second_marked parent.0 (suc h) p l h' m (first_of k h' m) parent.1 is in_span (spans_first k l h' m is) made_now was p_top top in p_loose_now (subst (λ (i : ℕ). Settled k words' i) (sym same) set))) ∙ old.1, old.2));
    fresh = λ i ge lt. (let z = zero_same in laid.others i (λ in_span. (let y = all_claimed k words' second_marked (suc h) p i p_pos lt in_span made_now in omega (arith, y, ge))) ∙ good.stored.fresh i (omega (arith, ge, z)) lt);
  }
    where
      not_n : (m : ℕ) → IsTop k words' m → m ≢ n
      not_n m (inl e) e' = omega (arith, e, e', deep)
      not_n m (inr x) e' = x.1 (ap (λ (i : ℕ). slice_index words' (i / 2)) e' ∙ turn.here)

  pub second_kept : (homes' : List (maybe.Option (Option P))) → Laid k (suc h) p s.homes homes' → length words' ≡ length s.words
      → CrewRule stands f k record { words = words'; homes = homes'; views = set s.views id (Climbs next) }
  second_kept homes' laid long = rule_on stands f k s good words' homes' (set s.views id (Climbs next)) long laid.long second_counted second_marked second_listed (second_stored homes' laid)

  -- the neighbour, and its part
  sib_node : IsNode k (parent.0 + 1) h (sibling n)
  sib_node = child_node k parent.0 h p (sibling n) parent.1 (sibling_parent n)

  sib_deep : 1 < sibling n
  sib_deep = let e = sibling_parent n in omega (arith, e, p_pos)

  sib_settled : Settled k s.words (sibling n)
  sib_settled = let e = sibling_parent n in let b = sibling_bit n in let u : slice_index s.words (sibling n / 2) ≡ slice_index s.words p = ap (slice_index s.words) e in inr (sib_deep, inl (omega (arith, u, b, somebody)))

  sib_top : IsTop k s.words (sibling n)
  sib_top = inr (sib_deep, λ y. before (sym (ap (slice_index s.words) (sibling_parent n)) ∙ y))

  pub sib_home : (x : P) × (get_elem? s.homes (first_of k h (sibling n)) ≡ some (some (Some x))) × stands f x (first_of k h (sibling n)) (end_of k h (sibling n))
  sib_home = good.stored.tops (parent.0 + 1) h (sibling n) sib_node sib_settled sib_top

  -- its slot is none of the pass's own
  pub sib_apart : (o : ℕ) → Spans k h n o → first_of k h (sibling n) ≢ o
  sib_apart o inside e = sibling_other n (sym (apart k s.words good.marked mine.level h n (parent.0 + 1) h (sibling n) (first_of k h (sibling n)) mine.is sib_node (subst (λ (i : ℕ). Spans k h n i) (sym e) inside) (spans_first k (parent.0 + 1) h (sibling n) sib_node)
      mine.made (good.marked.below (sibling n) (omega (arith, sib_deep)) (node_bound k (parent.0 + 1) h (sibling n) sib_node) sib_settled) (held_is_top k s.words good.marked n (omega (arith, deep)) mine.loose) sib_top))

  pub sib_inside : Spans k (suc h) p (first_of k h (sibling n))
  sib_inside = subst (λ (i : ℕ). Spans k (suc h) i (first_of k h (sibling n))) (sibling_parent n) (spans_parent k h (sibling n) (first_of k h (sibling n)) (spans_first k (parent.0 + 1) h (sibling n) sib_node))

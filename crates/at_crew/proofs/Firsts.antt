-- The first deposit at a node keeps the rule: the part goes home to its node's slot, and the pass holds nothing.
-- For `claim`, `run_crew`, `settle` and `work`.
use Rattle.std.proofs.Common.{◌≡◌, ◌≢◌, ℕ, ◌*◌, ◌/◌, ◌<◌, Option, Some, List, set, length, slice_index, sym, ap, ◌∙◌, inl, inr, ⊎_elim, arith}
use mathlib.Core.Option.{some}
use mathlib.Core.Option as maybe
use lib.ListN.{get_elem?}
use native.Mathlib.Decide.{ℕ_discrete}
use Rattle.atomic_table.specs.Table.{State}
use Rattle.at_crew.specs.declared.view.Climber.{Climber}
use Rattle.at_crew.specs.declared.view.View.{View}
use Rattle.at_crew.specs.declared.view.View.TheVariants.{Climbs}
use Rattle.at_crew.specs.Nodes.{first_of, end_of, bit_of, sibling, Settled}
use Rattle.at_crew.specs.Views.{held_node, resting}
use Rattle.at_crew.specs.Rule.{CrewRule}
use Rattle.at_crew.proofs.Tree.{node_bound, two_children, sibling_bit}
use Rattle.at_crew.proofs.Above.{held_is_top}
use Rattle.at_crew.proofs.Sums.{one_or_other}
use Rattle.at_crew.proofs.Rests.{Holds, holds_node, Settles, rest_kept}
use Rattle.at_crew.proofs.Turns.{Turned, Laid}

module _ {P F : Type 0} (stands : F → P → ℕ → ℕ → Type 0) (f : F) (k : ℕ) (s : State (Option P) (View F)) (good : CrewRule stands f k s) (id : ℕ) (v : Climber F) (at : get_elem? s.views id ≡ some (Climbs v))
    (n h : ℕ) (held : v.held ≡ Some (held_node n h)) (deep : 1 < n) (words' : List ℕ) (turn : Turned s.words words' (n / 2) (bit_of n)) (nobody : slice_index s.words (n / 2) ≡ 0) where
  mine : Holds k s.words n h
  mine = holds_node stands f k s good id v at n h held

  small : n < 2 * k
  small = node_bound k mine.level h n mine.is

  -- a word that isn't 0 is none of this parent's
  other : (m : ℕ) → 0 < slice_index s.words m → m ≢ n / 2
  other m marked e = let w : slice_index s.words m ≡ slice_index s.words (n / 2) = ap (slice_index s.words) e in omega (arith, nobody, w, marked)

  root_word : slice_index words' k ≡ slice_index s.words k
  root_word = turn.others k (λ e. omega (arith, e, small))

  settled_same : (m : ℕ) → m ≢ n → Settled k words' m → Settled k s.words m
  settled_same m ne (inl x) = inl (x.0, sym root_word ∙ x.1)
  settled_same m ne (inr x) = cases (ℕ_discrete (m / 2) (n / 2))
    where
      cases : Dec (m / 2 ≡ n / 2) → Settled k s.words m
      cases (yes e) = let q = turn.here in let w : slice_index words' (m / 2) ≡ slice_index words' (n / 2) = ap (slice_index words') e in let i : m ≡ sibling n = two_children n m e ne in let b = sibling_bit n in let b' : bit_of m ≡ bit_of (sibling n) = ap bit_of i in
          absurd (⊎_elim (λ y. omega (arith, y, q, w, b, b')) (λ y. omega (arith, y, q, w, b, b')) x.1)
      cases (no other) = let w = turn.others (m / 2) other in inr (x.0, ⊎_elim (λ y. inl (sym w ∙ y)) (λ y. inr (sym w ∙ y)) x.1)

  settled_again : (m : ℕ) → Settled k s.words m → Settled k words' m
  settled_again m (inl x) = inl (x.0, root_word ∙ x.1)
  settled_again m (inr x) = let w = turn.others (m / 2) (other (m / 2) (⊎_elim (λ y. omega (arith, y)) (λ y. omega (arith, y)) x.1)) in inr (x.0, ⊎_elim (λ y. inl (w ∙ y)) (λ y. inr (w ∙ y)) x.1)

  three_same : (m : ℕ) → slice_index words' m ≡ 3 → slice_index s.words m ≡ 3
  three_same m y = sym (turn.others m (λ e. (let q = turn.here in let w : slice_index words' m ≡ slice_index words' (n / 2) = ap (slice_index words') e in omega (arith, q, w, y)))) ∙ y

  settles : Settles k s.words words' n
  settles = record {
    zero_same = turn.others 0 (λ e. omega (arith, e, deep));
    threes = λ m pos lt. (three_same m, λ y. turn.others m (other m (omega (arith, y))) ∙ y);
    settled_same = λ m ne lt. settled_same m ne;
    settled_again = λ m lt. settled_again m;
    settled_now = inr (deep, inl turn.here);
    two_bits = λ m p lt. one_or_other (λ i. slice_index words' i < 4) (n / 2) m (let q = turn.here in omega (arith, q)) (λ ne. (let a = good.marked.two_bits m p lt in let b = turn.others m ne in omega (arith, a, b)));
    one_bit = (let a = good.marked.one_bit in let b = root_word in omega (arith, a, b));
  }

  pub first_kept : (homes' : List (maybe.Option (Option P))) → Laid k h n s.homes homes' → (x : P) → get_elem? homes' (first_of k h n) ≡ some (some (Some x)) → stands f x (first_of k h n) (end_of k h n)
      → length words' ≡ length s.words → CrewRule stands f k record { words = words'; homes = homes'; views = set s.views id (Climbs (resting v)) }
  first_kept = rest_kept stands f k s good id v at n h held words' settles (held_is_top k s.words good.marked n (omega (arith, deep)) mine.loose)

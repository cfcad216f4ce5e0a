-- The root's part put home keeps the rule.
-- For `claim`, `run_crew`, `settle` and `work`.
use Rattle.std.proofs.Common.{◌≡◌, ◌≢◌, ℕ, ◌*◌, ◌/◌, ◌<◌, Option, Some, List, set, length, slice_index, refl, sym, ◌∙◌, inl, inr, ⊎_elim, arith}
use mathlib.Core.Option.{some}
use mathlib.Core.Option as maybe
use lib.ListN.{get_elem?}
use Rattle.atomic_table.specs.Table.{State}
use Rattle.at_crew.specs.declared.view.Climber.{Climber}
use Rattle.at_crew.specs.declared.view.View.{View}
use Rattle.at_crew.specs.declared.view.View.TheVariants.{Climbs}
use Rattle.at_crew.specs.Nodes.{first_of, end_of, Settled}
use Rattle.at_crew.specs.Views.{held_node, resting}
use Rattle.at_crew.specs.Rule.{CrewRule}
use Rattle.at_crew.proofs.Claims.{some_blocks}
use Rattle.at_crew.proofs.Rests.{Holds, holds_node, Settles, rest_kept}
use Rattle.at_crew.proofs.Turns.{Turned, Laid}

module _ {P F : Type 0} (stands : F → P → ℕ → ℕ → Type 0) (f : F) (k : ℕ) (s : State (Option P) (View F)) (good : CrewRule stands f k s) (id : ℕ) (v : Climber F) (at : get_elem? s.views id ≡ some (Climbs v))
    (h : ℕ) (held : v.held ≡ Some (held_node 1 h)) (words' : List ℕ) (turn : Turned s.words words' k 1) where
  mine : Holds k s.words 1 h
  mine = holds_node stands f k s good id v at 1 h held

  pos : 0 < k
  pos = some_blocks stands f k s good

  -- the root word was 0
  pub nobody : slice_index s.words k ≡ 0
  nobody = let a = good.marked.one_bit in let b : ¬ (slice_index s.words k ≡ 1) = λ e. mine.loose (inl (refl, e)) in omega (arith, a, b)

  settled_same : (m : ℕ) → m ≢ 1 → m < 2 * k → Settled k words' m → Settled k s.words m
  settled_same m ne lt (inl x) = absurd (ne x.0)
  settled_same m ne lt (inr x) = let w = turn.others (m / 2) (λ e. omega (arith, e, lt)) in inr (x.0, ⊎_elim (λ y. inl (sym w ∙ y)) (λ y. inr (sym w ∙ y)) x.1)

  settled_again : (m : ℕ) → m < 2 * k → Settled k s.words m → Settled k words' m
  settled_again m lt (inl x) = let z = nobody in absurd (omega (arith, x.1, z))
  settled_again m lt (inr x) = let w = turn.others (m / 2) (λ e. omega (arith, e, lt)) in inr (x.0, ⊎_elim (λ y. inl (w ∙ y)) (λ y. inr (w ∙ y)) x.1)

  settles : Settles k s.words words' 1
  settles = record {
    zero_same = turn.others 0 (λ e. omega (arith, e, pos));
    threes = λ m p lt. (let w = turn.others m (λ e. omega (arith, e, lt)) in (λ y. sym w ∙ y, λ y. w ∙ y));
    settled_same = settled_same;
    settled_again = settled_again;
    settled_now = inl (refl, turn.here);
    two_bits = λ m p lt. (let a = good.marked.two_bits m p lt in let b = turn.others m (λ e. omega (arith, e, lt)) in omega (arith, a, b));
    one_bit = (let a = turn.here in omega (arith, a));
  }

  pub root_kept : (homes' : List (maybe.Option (Option P))) → Laid k h 1 s.homes homes' → (x : P) → get_elem? homes' (first_of k h 1) ≡ some (some (Some x)) → stands f x (first_of k h 1) (end_of k h 1)
      → length words' ≡ length s.words → CrewRule stands f k record { words = words'; homes = homes'; views = set s.views id (Climbs (resting v)) }
  root_kept = rest_kept stands f k s good id v at 1 h held words' settles (inl refl)

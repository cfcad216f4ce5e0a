-- An early stop before an unmatched closer: where each state between tokens refuses the pieces by one place, no bytes before make that place viable.
-- A law of the definitions: no contract rests on it.
use Rattle.std.proofs.Common.{◌≡◌, ℕ, List, [], ◌∷◌, ◌++◌, Some, None, Bool, true, not, ◌&&◌, refl, sym, ◌∙◌, ap, subst, arith, ◌+◌, ◌≤◌, length}
use Rattle.std.proofs.lemmas.Option.{same_Some, option_and_then_some}
use Rattle.at_lex.specs.declared.tokens.Start.TheVariants.{Out}
use Rattle.at_nest.proofs.JsonMachine.{State, value, step}
use Rattle.at_lex.specs.Spans.{begins_run}
use Rattle.at_nest.specs.Borders.{ends_run, are_apart}
use Rattle.at_nest.specs.Forms.{Meaning, Piece, Formed}
use Rattle.at_nest.proofs.Steps.{Settled, IsStill, is_clear, settled_still}
use Rattle.at_nest.proofs.Values.{go}
use Rattle.at_nest.specs.Walks.{walks, refused}
use Rattle.at_nest.proofs.Walks.{Halted, walk_halts}
use Rattle.at_nest.proofs.Joins.{run_split, viable_runs}
use Rattle.at_nest.proofs.Lexical.{At, at_run}
use Rattle.at_nest.proofs.Ran.{Ran, ran_start, goes_settled}
use Rattle.at_nest.proofs.TokenStops.{none_goes}
use Rattle.at_nest.proofs.PieceSteps.{first}
use Rattle.at_nest.proofs.Begun.{tail_of}
use Rattle.at_nest.proofs.Pushes.{IsDeadHere}

-- a shorter split is a prefix of a longer one
prefix_of : (x y : List ℕ) (a b : ℕ) (u v : List ℕ) → x ++ (a ∷ u) ≡ y ++ (b ∷ v) → length x ≤ length y → (z : List ℕ) × (y ++ b ∷ [] ≡ (x ++ a ∷ []) ++ z)
prefix_of [] [] a b u v e h = ([], ap (λ c. c ∷ []) (sym (ap first e)))
prefix_of [] (d ∷ y) a b u v e h = (y ++ b ∷ [], ap (λ c. c ∷ (y ++ b ∷ [])) (sym (ap first e)))
prefix_of (c ∷ x) [] a b u v e h = absurd (omega (arith, h))
prefix_of (c ∷ x) (d ∷ y) a b u v e h = let (z, f) = prefix_of x y a b u v (ap tail_of e) (omega (arith, h)) in (z, ap (λ w. w ∷ (y ++ b ∷ [])) (sym (ap first e)) ∙ ap (λ w. c ∷ w) f)

stuck_longer : (s l t : State) (x : List ℕ) (a : ℕ) (z : List ℕ) → go s x ≡ Some l → step l a ≡ None → go s ((x ++ a ∷ []) ++ z) ≡ Some t → ⊥
stuck_longer s l t x a z e f g = let (q, h, k) = run_split s t (x ++ a ∷ []) z g in let (r, i, j) = run_split s q x (a ∷ []) h in
    none_goes r q a (ap (λ o. step o a) (same_Some r l (sym i ∙ e)) ∙ f) j

-- each state between tokens refuses the pieces at the place i, or sooner
pub dead_outer : {X : Type 0} (m : Meaning X) (at : ℕ) (w : List ℕ) (ps : List (Piece X)) (i : ℕ) (before : List ℕ) (byte : ℕ) (others : List ℕ) → Formed m at w ps → w ≡ before ++ (byte ∷ others) → i ≡ at + length before
    → ((u : State) → IsStill u → (k : ℕ) × (walks u ps ≡ refused k) × (k ≤ i)) → IsDeadHere at w i
dead_outer m at w ps i before byte others f e p refuses = record {
  before = before;
  byte = byte;
  others = others;
  split = e;
  place = p;
  dead = λ x out apart viable.
      let (t, all) = viable_runs (x ++ (before ++ (byte ∷ []))) viable in
      let (q, r, g) = run_split (value []) t x (before ++ (byte ∷ [])) all in
      let at1 : At q Out = subst (At q) out (at_run (value []) q x Out refl r) in
      let (u, settled, clear) = settled_at q t (ends_run x) before (at1) (ran_start q x r) (ap (are_apart x) (sym e) ∙ apart) g in
      let (k, refusal, le) = refuses u (settled_still q u settled) in
      let h : Halted q at w k = walk_halts m ps at w q u k settled (ap (is_clear q) e ∙ clear) f refusal in
      let (z, same) = prefix_of h.before before h.byte byte h.others others (sym h.split ∙ e) (omega (arith, h.place, p, le)) in
      stuck_longer q h.last t h.before h.byte z h.goes h.halts (ap (go q) (sym same) ∙ g);
}
  where
    settled_at : (q t : State) (p : Bool) (before : List ℕ) → At q Out → Ran q p → not (p && begins_run (before ++ (byte ∷ others))) ≡ true → go q (before ++ (byte ∷ [])) ≡ Some t → (u : State) × Settled q u × (is_clear q (before ++ (byte ∷ others)) ≡ true)
    settled_at q t p [] h k a g = option_and_then_some (λ z. go z []) (step q byte) t g (λ v f i. goes_settled q v p byte others h k a f)
    settled_at q t p (c ∷ y) h k a g = option_and_then_some (λ z. go z (y ++ (byte ∷ []))) (step q c) t g (λ v f i. goes_settled q v p c (y ++ (byte ∷ others)) h k a f)

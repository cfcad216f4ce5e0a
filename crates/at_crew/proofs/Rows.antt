-- A fact of each element, where the list is cut, and where its elements were written.
-- For `run_crew`.
use Rattle.std.proofs.Common.{◌≡◌, ◌∙◌, ℕ, zero, suc, List, [], ◌∷◌, ◌++◌, All, Option, Some, take, drop, length, ap, sym, subst, arith}
use Rattle.std.specs.Option.{option_to_list}
use Rattle.std.proofs.lemmas.List.{take-append-le}
use Rattle.std.proofs.Math.Seq.{take-length}

module _ {X : Type 0} (P : X → Type 0) where
  pub all_front : (xs ys : List X) → All P (xs ++ ys) → All P xs
  all_front [] ys h k d lt = absurd (omega (arith, lt))
  all_front (x ∷ xs) ys h zero d lt = h zero d (omega arith)
  all_front (x ∷ xs) ys h (suc k) d lt = all_front xs ys (λ j e l. h (suc j) e (omega (arith, l))) k d (omega (arith, lt))

  pub all_last : (xs : List X) (y : X) → All P (xs ++ y ∷ []) → P y
  all_last [] y h = h zero y (omega arith)
  all_last (x ∷ xs) y h = all_last xs y (λ j e l. h (suc j) e (omega (arith, l)))

  pub all_popped : (old new : List X) (r : Option X) (y : X) → old ≡ new ++ option_to_list r → r ≡ Some y → All P old → All P new × P y
  all_popped old new r y e is h = let h' : All P (new ++ y ∷ []) = subst (All P) (e ∙ ap (λ o. new ++ option_to_list o) is) h in (all_front new (y ∷ []) h', all_last new y h')

  pub all_written : (new items : List X) (n : ℕ) → n ≡ length new → All P new → All P (take n (new ++ drop (length new) items))
  all_written new items n e h = subst (All P) (sym (ap (λ (m : ℕ). take m (new ++ drop (length new) items)) e ∙ take-append-le (length new) new (drop (length new) items) (omega arith) ∙ take-length new)) h

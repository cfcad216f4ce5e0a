-- A pass that has put a block's part into its slot bears the leaf.
-- For `run_crew`, `settle` and `work`.
use Rattle.std.proofs.Common.{◌≡◌, ◌∙◌, ℕ, ◌+◌, ◌^◌, ◌<◌, [], ◌∷◌, Option, Some, sym, ap, subst, arith}
use Rattle.atomic_table.specs.Table.{Me, rest}
use Rattle.at_crew.specs.declared.view.View.{View}
use Rattle.at_crew.specs.Nodes.{first_of, end_of}
use Rattle.at_crew.specs.Views.{HasFacts, held_of, held_node}
use Rattle.at_crew.specs.Seats.{Bears, leaf_of, slots_of}
use Rattle.at_crew.proofs.Deposits.{me_of}
use Rattle.at_crew.proofs.Tree.{leaf_node}

pub leaf_bears : {P F : Type 0} (stands : F → P → ℕ → ℕ → Type 0) (f : F) (k sl n : ℕ) (hold : Option ℕ) (old new : Me (Option P) (View F)) (x : P) → (d : ℕ) × (k ≡ 2 ^ d) → n < sl → HasFacts f old.0 → held_of old.0 ≡ leaf_of sl hold → old.1 ≡ slots_of hold → hold ≡ Some n → sl ≡ k
    → new ≡ me_of old.0 ((n, Some x) ∷ rest old.1) → stands f x n (n + 1) → Bears stands f k new (k + n) 0
leaf_bears {F = F} stands f k sl n hold old new x power lt facts held slots is size e stood = let first : n ≡ first_of k 0 (k + n) = omega arith in let last : n + 1 ≡ end_of k 0 (k + n) = omega arith in
    let lt' : n < k = omega (arith, lt, size) in (
      subst (λ (w : View F). HasFacts f w) (sym (ap (λ m. m.0) e)) facts,
      ap (λ m. held_of m.0) e ∙ held ∙ ap (leaf_of sl) is ∙ ap (λ (q : ℕ). Some (held_node (q + n) 0)) size,
      (
        x,
        ap (λ m. m.1) e ∙ ap (λ s. (n, Some x) ∷ rest s) (slots ∙ ap slots_of is) ∙ ap (λ (q : ℕ). (q, Some x) ∷ []) first,
        subst (λ (z : ℕ × ℕ). stands f x z.0 z.1) (λ i. (first i, last i)) stood,
      ),
      (power.0, leaf_node k power.0 n power.1 lt'),
    )

-- What a step tells the pass that takes it: of the number found in the word, and of the seat before and after.
use Rattle.std.specs.Prelude.{◌≡◌, ℕ, ◌+◌, ◌*◌, ◌<◌, ◌≤◌, ◌⊎◌, List, [], ◌∷◌, zero, suc, Option, Some, None}
use Rattle.atomic_table.specs.Table.{Me, Step, rest}
use Rattle.at_crew.specs.declared.view.View.{View}
use Rattle.at_crew.specs.declared.view.View.TheVariants.{Climbs}
use Rattle.at_crew.specs.Nodes.{first_of, end_of, sibling}
use Rattle.at_crew.specs.Views.{OnClimber, OnSome, held_node, claiming, ending, resting, climbing}

-- the slots that a pass has with it when it holds node n at height h, whose part is x: the node's own and, above the
-- leaves, the emptied slot of its right child, which goes home at the pass's next step
abbrev pub carried : {P : Type 0} → ℕ → ℕ → ℕ → Option P → List (ℕ × Option P)
carried k zero n x = (first_of k 0 n, x) ∷ []
carried k (suc h) n x = (first_of k h (2 * n + 1), None) ∷ (first_of k (suc h) n, x) ∷ []

-- of these slots the node's own alone
abbrev pub kept : {P : Type 0} → ℕ → List (ℕ × Option P) → List (ℕ × Option P)
kept zero c = c
kept (suc h) c = rest c

module _ {P F : Type 0} where
  -- a claim found the number n, which is greater than the pass's last. Below the blocks the pass holds block n and has
  -- its slot, which is empty. At or past them it is over. At most 64 passes fetch one number past the blocks each
  abbrev pub ClaimTells : (F → ℕ) → Step (Option P) → Me (Option P) (View F) → ℕ → Me (Option P) (View F) → Type 0
  ClaimTells count s m n w = OnClimber m.0 (λ v.
      (count v.facts ≡ s.slots)
      × (n < s.slots + 64)
      × ((x : ℕ) → v.last ≡ Some x → x < n)
      × (((n < s.slots) × (w ≡ (Climbs (claiming s.slots n v), (n, None) ∷ m.1)))
      ⊎ ((s.slots ≤ n) × (w ≡ (Climbs (ending n v), m.1)))))

  module _ (stands : F → P → ℕ → ℕ → Type 0) (count : F → ℕ) where
    -- a deposit at the parent found its word n. Where it was 0, the pass was the first there: it leaves its part and
    -- holds nothing. Where it wasn't, the neighbour was there first: the pass takes the neighbour's part, which stands
    -- for its blocks, and holds the parent
    abbrev pub DepositTells : Step (Option P) → Me (Option P) (View F) → ℕ → Me (Option P) (View F) → Type 0
    DepositTells s m n w = OnClimber m.0 (λ v. (count v.facts ≡ s.slots) × OnSome v.held (λ p.
        ((n ≡ 0) × (w ≡ (Climbs (resting v), [])))
        ⊎ ((0 < n) × ((y : P) × (w ≡ (
          Climbs (climbing (held_node s.word (p.height + 1)) v),
          (first_of s.slots p.height (sibling p.node), Some y) ∷ kept p.height m.1,
        ))
        × stands v.facts y (first_of s.slots p.height (sibling p.node)) (end_of s.slots p.height (sibling p.node))))))

  -- the root's part went home, and the pass holds nothing
  abbrev pub RootHomeTells : Step (Option P) → Me (Option P) (View F) → ℕ → Me (Option P) (View F) → Type 0
  RootHomeTells s m n w = OnClimber m.0 (λ v. w ≡ (Climbs (resting v), []))

-- What a pass and a chief have in their seats: a view, and the slots that are out with it.
use Rattle.std.specs.Prelude.{◌≡◌, ℕ, ◌+◌, ◌*◌, List, [], ◌∷◌, Option, Some, None, Bool, true, false}
use Rattle.atomic_table.specs.Table.{Me}
use Rattle.at_crew.specs.declared.view.HeldNode.{HeldNode}
use Rattle.at_crew.specs.declared.view.View.{View}
use Rattle.at_crew.specs.Nodes.{IsNode, first_of, end_of}
use Rattle.at_crew.specs.Views.{HasFacts, held_node, is_pass, is_chief, number_of, last_of, over_of, held_of, made}
use Rattle.at_crew.specs.Views.{back}
use Rattle.at_crew.specs.Steps.{carried}

-- the leaf of the block that is held, if any, and its slot, which is empty
abbrev pub leaf_of : ℕ → Option ℕ → Option HeldNode
leaf_of k None = None
leaf_of k (Some n) = Some (held_node (k + n) 0)

abbrev pub slots_of : {P : Type 0} → Option ℕ → List (ℕ × Option P)
slots_of None = []
slots_of (Some n) = (n, None) ∷ []

-- the slots of a left child with the part a and of a right child with the part b, the pass's own slot behind its
-- neighbour's
abbrev pub children : {P : Type 0} → Bool → ℕ → ℕ → P → P → List (ℕ × Option P)
children true left right a b = (right, Some b) ∷ (left, Some a) ∷ []
children false left right a b = (left, Some a) ∷ (right, Some b) ∷ []

module _ {P F : Type 0} where
  -- the seat of a pass with this number, block, last number and end
  abbrev pub IsPassSeat : ℕ → Me (Option P) (View F) → ℕ → Option ℕ → Option ℕ → Bool → Type 0
  IsPassSeat k me number holding last over = (is_pass me.0 ≡ true) × (number_of me.0 ≡ number) × (last_of me.0 ≡ last)
      × (over_of me.0 ≡ over) × (held_of me.0 ≡ leaf_of k holding) × (me.1 ≡ slots_of holding)

  -- the seat of a chief with so many passes made and away
  abbrev pub IsChiefSeat : Me (Option P) (View F) → ℕ → ℕ → Type 0
  IsChiefSeat me n away = (is_chief me.0 ≡ true) × (made me.0 ≡ n) × (made me.0 ≡ back me.0 + away) × (me.1 ≡ [])

  -- the seat has both children of node p, which is above height h, with parts that stand for them
  abbrev pub HasChildren : (F → P → ℕ → ℕ → Type 0) → F → ℕ → List (ℕ × Option P) → ℕ → ℕ → Bool → Type 0
  HasChildren stands f k slots p h left = (a : P) × (b : P)
      × (slots ≡ children left (first_of k h (2 * p)) (first_of k h (2 * p + 1)) a b)
      × stands f a (first_of k h (2 * p)) (end_of k h (2 * p))
      × stands f b (first_of k h (2 * p + 1)) (end_of k h (2 * p + 1))

  -- the seat holds a node with a part that stands for it, in its slot
  abbrev pub Bears : (F → P → ℕ → ℕ → Type 0) → F → ℕ → Me (Option P) (View F) → ℕ → ℕ → Type 0
  Bears stands f k me n h = HasFacts f me.0 × (held_of me.0 ≡ Some (held_node n h))
      × ((x : P) × (me.1 ≡ carried k h n (Some x)) × stands f x (first_of k h n) (end_of k h n))
      × ((l : ℕ) × IsNode k l h n)

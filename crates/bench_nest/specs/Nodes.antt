-- How many values a JSON text has, in one another or side by side.
use Rattle.std.specs.Prelude.{◌≡◌, ℕ, ◌+◌, ◌%◌, ◌^◌, List}
use Rattle.std.specs.Bool.{⊤}
use Rattle.at_nest.specs.Tree.{Tree, literal, number, text, array, object, Trees, no_trees, tree_and, Members}
use Rattle.at_nest.specs.Tree.{no_members, member_and}
use Rattle.at_nest.specs.Folds.{trees}
use Rattle.at_nest.specs.KeptItems.{Content, OwnAtom}

abbrev mutual
  pub nodes_of : Tree → ℕ
  nodes_of (literal i l) = 1
  nodes_of (number i n) = 1
  nodes_of (text i cs) = 1
  nodes_of (array i ts) = 1 + nodes_of_items ts
  nodes_of (object i ms) = 1 + nodes_of_members ms

  pub nodes_of_items : Trees → ℕ
  nodes_of_items no_trees = 0
  nodes_of_items (tree_and t ts) = nodes_of t + nodes_of_items ts

  pub nodes_of_members : Members → ℕ
  nodes_of_members no_members = 0
  nodes_of_members (member_and name i t ms) = nodes_of t + nodes_of_members ms

-- the number is that of the tree's values, its type's range wrapped round
abbrev pub CountsNodes : ℕ → Tree → Type 0
CountsNodes n t = n ≡ nodes_of t % 2 ^ 64

-- the same of trees one behind another
abbrev pub CountsMany : ℕ → List Tree → Type 0
CountsMany n ts = n ≡ nodes_of_items (trees ts) % 2 ^ 64

-- any number is one that the algebra makes
abbrev pub IsAny : ℕ → Type 0
IsAny n = ⊤

abbrev pub IsCount : ℕ → Content → Type 0
IsCount = OwnAtom IsAny CountsNodes CountsMany

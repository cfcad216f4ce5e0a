-- Equal names in one object (RFC 8259 section 4; names are compared as section 8.3 says).
use Rattle.std.specs.Prelude.{ℕ, Bool, if◌then◌else◌, List, [], ◌∷◌, ◌++◌, bytes_eq, Option}
use Rattle.std.specs.List.{list_any}
use Rattle.at_text.specs.Faults.{fault_at, first_of}
use Rattle.at_text.specs.declared.faults.Fault.{Fault}
use Rattle.at_text.specs.declared.faults.FaultKind.TheVariants.{Twin}
use Rattle.at_lex.specs.Strings.{units_of}
use Rattle.at_nest.specs.Tree.{Tree, literal, number, text, array, object, Trees, no_trees, tree_and, Members}
use Rattle.at_nest.specs.Tree.{no_members, member_and}

abbrev pub is_among : List (List ℕ) → List ℕ → Bool
is_among names name = list_any (bytes_eq name) names

-- Twin at each name that has the units of an earlier name of the same object, in every object of the tree
abbrev mutual
  pub twins_of : Tree → List Fault
  twins_of (literal i l) = []
  twins_of (number i n) = []
  twins_of (text i cs) = []
  twins_of (array i ts) = twins_of_items ts
  twins_of (object i ms) = twins_of_members [] ms

  pub twins_of_items : Trees → List Fault
  twins_of_items no_trees = []
  twins_of_items (tree_and t ts) = twins_of t ++ twins_of_items ts

  pub twins_of_members : List (List ℕ) → Members → List Fault
  twins_of_members earlier no_members = []
  twins_of_members earlier (member_and name i t ms) =
      (if is_among earlier (units_of name) then fault_at Twin i ∷ [] else [])
      ++ (twins_of t ++ twins_of_members (units_of name ∷ earlier) ms)

abbrev pub twin_fault : Tree → Option Fault
twin_fault t = first_of (twins_of t)

-- What an algebra makes of a tree, from the leaves up: relations between what it holds and the trees for which that
-- stands.
use Rattle.std.specs.Prelude.{◌≡◌, ℕ, ◌⊎◌, List, [], ◌∷◌, ◌++◌, length, All}
use Rattle.std.specs.Bool.{⊤}
use Rattle.at_lex.specs.Strings.{JsonString, units_of}
use Rattle.at_lex.specs.Runs.{JsonRun}
use Rattle.at_nest.specs.declared.algebra.Member.{Member}
use Rattle.at_nest.specs.declared.algebra.Attempt.{Attempt}
use Rattle.at_nest.specs.declared.algebra.Attempt.TheVariants.{Whole, Unsaid}
use Rattle.at_nest.specs.Tree.{Tree, array, object, Spells, SpellsItems, Trees, no_trees, tree_and, Members, no_members}
use Rattle.at_nest.specs.Tree.{member_and}

-- the bytes are a whole string, literal or number (RFC 8259 section 3)
abbrev pub IsScalarText : List ℕ → Type 0
IsScalarText text = JsonString text ⊎ JsonRun text

-- the trees of a list, as those of an array
abbrev pub trees : List Tree → Trees
trees [] = no_trees
trees (t ∷ ts) = tree_and t (trees ts)

-- one by one, the values stand for the trees
abbrev pub AreFolds : {X : Type 0} → (X → Tree → Type 0) → List X → Trees → Type 0
AreFolds IsFold [] no_trees = ⊤
AreFolds IsFold (x ∷ xs) (tree_and t ts) = IsFold x t × AreFolds IsFold xs ts
AreFolds IsFold _ _ = ⊥

-- in an array the value stands for one tree, or for several one behind another
abbrev pub Covers : {X : Type 0} → (X → Tree → Type 0) → (X → List Tree → Type 0) → X → List Tree → Type 0
Covers IsFold IsRun x ts = ((t : Tree) × (ts ≡ t ∷ []) × IsFold x t) ⊎ IsRun x ts

-- one behind another, the values stand for the trees, in order
abbrev pub AreItemFolds : {X : Type 0} → (X → Tree → Type 0) → (X → List Tree → Type 0) → List X → List Tree → Type 0
AreItemFolds IsFold IsRun [] ts = ts ≡ []
AreItemFolds IsFold IsRun (x ∷ xs) ts = (us : List Tree) × (vs : List Tree) × (ts ≡ us ++ vs) × Covers IsFold IsRun x us
    × AreItemFolds IsFold IsRun xs vs

-- one by one, the members have the names of the tree's members, by their code units, with the offsets of the names, and
-- their values stand for the trees
abbrev pub AreMemberFolds : {X : Type 0} → (X → Tree → Type 0) → List (Member X) → Members → Type 0
AreMemberFolds IsFold [] no_members = ⊤
AreMemberFolds IsFold (x ∷ xs) (member_and name i t ms) = (x.name ≡ units_of name) × (x.name_at ≡ i) × IsFold x.value t
    × AreMemberFolds IsFold xs ms
AreMemberFolds IsFold _ _ = ⊥

-- the first bytes of w, which stand at `at`, spell a tree, and the atom is the algebra's own and stands for it; or
-- nothing is said
abbrev pub IsAttempt : {X : Type 0} → (X → Type 0) → (X → Tree → Type 0) → ℕ → List ℕ → Attempt X → Type 0
IsAttempt IsOwn IsFold at w (Whole len atom) = (v r : List ℕ) × (w ≡ v ++ r) × (len ≡ length v) × (t : Tree)
    × Spells at v t × IsOwn atom × IsFold atom t
IsAttempt IsOwn IsFold at w (Unsaid looked) = ⊤

-- an array or an object
abbrev pub HasBrackets : Tree → Type 0
HasBrackets (array at ts) = ⊤
HasBrackets (object at ms) = ⊤
HasBrackets _ = ⊥

-- the first bytes of w, which stand at `at`, spell arrays and objects one behind another in an array, at least one, and
-- the atom is the algebra's own and stands for them; or nothing is said
abbrev pub IsItemsAttempt : {X : Type 0} → (X → Type 0) → (X → Tree → Type 0) → (X → List Tree → Type 0) → ℕ → List ℕ
    → Attempt X → Type 0
IsItemsAttempt IsOwn IsFold IsRun at w (Whole len atom) = (v r : List ℕ) × (w ≡ v ++ r) × (len ≡ length v) × (t : Tree)
    × (ts : List Tree) × SpellsItems at v (trees (t ∷ ts)) × All HasBrackets (t ∷ ts) × IsOwn atom
    × Covers IsFold IsRun atom (t ∷ ts)
IsItemsAttempt IsOwn IsFold IsRun at w (Unsaid looked) = ⊤

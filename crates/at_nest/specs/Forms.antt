-- The fold of a tree under an algebra, forms of a span of JSON, and what a fragment stands for.
use Rattle.std.specs.Prelude.{◌≡◌, ℕ, ◌+◌, IsTrue, List, [], ◌∷◌, ◌++◌, length}
use Rattle.std.specs.Bool.{⊤}
use Rattle.at_text.specs.Prefix.{Viable}
use Rattle.at_fixed.specs.Numerals.{Numeral}
use Rattle.at_lex.specs.declared.tokens.Start.{Start}
use Rattle.at_lex.specs.declared.tokens.Start.TheVariants.{Out}
use Rattle.at_lex.specs.declared.tokens.Bracket.{Bracket}
use Rattle.at_text.specs.Parts.{At}
use Rattle.at_lex.specs.Strings.{Character, SpellsString}
use Rattle.at_lex.specs.Runs.{Literal}
use Rattle.at_nest.specs.Tree.{Tree, literal, number, text, array, object, Trees, no_trees, tree_and, Members}
use Rattle.at_nest.specs.Tree.{no_members, member_and, Spells}
use Rattle.at_lex.specs.Spans.{AreSpaces, opening, closing, end_of}
use Rattle.at_nest.specs.Syntax.{JsonText}
use Rattle.at_nest.specs.Borders.{are_apart}

-- what the nodes of a tree mean, from the leaves up; a member is a name, its offset and a meaning
pub record Meaning (X : Type 0) : Type 0 where
  pub of_literal : ℕ → Literal → X
  pub of_number : ℕ → Numeral → X
  pub of_text : ℕ → List Character → X
  pub of_array : ℕ → List X → X
  pub of_object : ℕ → List (List Character × ℕ × X) → X

abbrev mutual
  pub fold_of : {X : Type 0} → Meaning X → Tree → X
  fold_of m (literal i l) = m.of_literal i l
  fold_of m (number i n) = m.of_number i n
  fold_of m (text i cs) = m.of_text i cs
  fold_of m (array i ts) = m.of_array i (folds_of m ts)
  fold_of m (object i ms) = m.of_object i (folds_of_members m ms)

  pub folds_of : {X : Type 0} → Meaning X → Trees → List X
  folds_of m no_trees = []
  folds_of m (tree_and t ts) = fold_of m t ∷ folds_of m ts

  pub folds_of_members : {X : Type 0} → Meaning X → Members → List (List Character × ℕ × X)
  folds_of_members m no_members = []
  folds_of_members m (member_and name i t ms) = (name, i, fold_of m t) ∷ folds_of_members m ms

abbrev pub IsNoText : Tree → Type 0
IsNoText (text i cs) = ⊥
IsNoText _ = ⊤

-- a part of a form that is no bracket. A string may be a name or a value; any other value is an entry with its meaning
pub data Mark (X : Type 0) : Type 0 where
  comma colon : ℕ → Mark X
  quoted : ℕ → List Character → Mark X
  entry : ℕ → X → Mark X

pub data Piece (X : Type 0) : Type 0 where
  opens closes : Bracket → ℕ → Piece X
  mark : Mark X → Piece X

-- the bytes w at the offset `at` are the mark
abbrev pub IsMark : {X : Type 0} → Meaning X → ℕ → List ℕ → Mark X → Type 0
IsMark m at w (comma i) = (i ≡ at) × (w ≡ 0x2C ∷ [])
IsMark m at w (colon i) = (i ≡ at) × (w ≡ 0x3A ∷ [])
IsMark m at w (quoted i cs) = At i (SpellsString cs) at w
IsMark m at w (entry i x) = (i ≡ at) × (t : Tree) × Spells at w t × IsNoText t × (x ≡ fold_of m t)

abbrev pub IsPiece : {X : Type 0} → Meaning X → ℕ → List ℕ → Piece X → Type 0
IsPiece m at w (opens b i) = (i ≡ at) × (w ≡ opening b ∷ [])
IsPiece m at w (closes b i) = (i ≡ at) × (w ≡ closing b ∷ [])
IsPiece m at w (mark p) = IsMark m at w p

-- the bytes w at `at` are the pieces with white space between them; no run goes on over the border of two
abbrev pub Formed : {X : Type 0} → Meaning X → ℕ → List ℕ → List (Piece X) → Type 0
Formed m at w [] = AreSpaces w
Formed m at w (p ∷ ps) = (a v r : List ℕ) × (w ≡ a ++ (v ++ r)) × AreSpaces a × IsPiece m (at + length a) v p
    × IsTrue (are_apart v r) × Formed m (at + length a + length v) r ps

-- the byte at the offset i of the bytes w, which stand at `at`, is not viable, whatever bytes are before w that lead
-- into the state s
pub record IsDead (s : Start) (at : ℕ) (w : List ℕ) (i : ℕ) : Type 0 where
  pub before : List ℕ
  pub byte : ℕ
  pub others : List ℕ
  pub split : w ≡ before ++ (byte ∷ others)
  pub place : i ≡ at + length before
  pub dead : (x : List ℕ) → end_of Out x ≡ s → ¬ (Viable (JsonText 0) (x ++ (before ++ (byte ∷ []))))

-- The parts of a text that was passed over from place to place, and the trees that they spell. Algebras that read whole
-- values at once state their readers in these words; proofs/Passed has their lemmas. The text is the bytes w, which
-- stand at the offset `base`; places are counted from there.
use Rattle.std.specs.Prelude.{ℕ, ◌+◌, ◌≤◌, List, [], ◌∷◌, ◌++◌}
use Rattle.at_text.specs.Parts.{◌▸◌}
use Rattle.at_fixed.specs.NumberSoFar.{between}
use Rattle.at_lex.specs.Strings.{Character}
use Rattle.at_lex.specs.Spans.{AreSpaces}
use Rattle.at_nest.specs.Tree.{Tree, Trees, no_trees, tree_and, Members, no_members, member_and, Spells}
use Rattle.at_nest.specs.Tree.{Padded, WithName, SpellsItems, SpellsFurtherItems, SpellsMembers, SpellsFurtherMembers}

-- a part of the text with white space round it, from the one place to the other
pub record IsPadded (Part : ℕ → List ℕ → Type 0) (base : ℕ) (w : List ℕ) (from to : ℕ) : Type 0 where
  pub first : ℕ
  pub last : ℕ
  pub before : from ≤ first
  pub order : first ≤ last
  pub behind : last ≤ to
  pub spaces : AreSpaces (between w from first)
  pub is_part : Part (base + first) (between w first last)
  pub more_spaces : AreSpaces (between w last to)

-- the trees in front of others
abbrev pub items_then : List Tree → Trees → Trees
items_then [] ts = ts
items_then (t ∷ done) ts = tree_and t (items_then done ts)

-- the trees as the items of an array
abbrev pub items_of : List Tree → Trees
items_of done = items_then done no_trees

-- behind the bracket that stands at the place `from` there are these items, each with its comma, up to a place where
-- one more item has to stand
abbrev pub ItemsBefore : ℕ → List ℕ → ℕ → ℕ → List Tree → Type 0
ItemsBefore base w from place done = (r : List ℕ) (t : Tree) (ts : Trees)
    → (Padded (λ j v. Spells j v t) ▸ (λ j r. SpellsFurtherItems j r ts)) (base + place) r
    → SpellsItems (base + from + 1) (between w (from + 1) place ++ r) (items_then done (tree_and t ts))

-- a member: its name, the offset of its name, and its value
pub record Named : Type 0 where
  pub name : List Character
  pub at : ℕ
  pub tree : Tree

-- the members in front of others
abbrev pub members_then : List Named → Members → Members
members_then [] ms = ms
members_then (n ∷ done) ms = member_and n.name n.at n.tree (members_then done ms)

-- the members as those of an object
abbrev pub members_of : List Named → Members
members_of done = members_then done no_members

-- the same of an object's members
abbrev pub MembersBefore : ℕ → List ℕ → ℕ → ℕ → List Named → Type 0
MembersBefore base w from place done = (r : List ℕ) (name : List Character) (i : ℕ) (t : Tree) (ms : Members)
    → (WithName name i (λ j v. Spells j v t) ▸ (λ j r. SpellsFurtherMembers j r ms)) (base + place) r
    → SpellsMembers (base + from + 1) (between w (from + 1) place ++ r) (members_then done (member_and name i t ms))

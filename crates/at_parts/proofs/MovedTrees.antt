-- The same bytes at two offsets spell the same trees, but for the offsets in these.
-- For `sequence_features`, `sequence_faults`, `sound_parts` and `first_syntax_fault`.
use Rattle.std.proofs.Common.{◌≡◌, ℕ, ◌+◌, ◌-◌, ◌↔◌, List, [], refl, arith, codes}
use Rattle.at_text.specs.Parts.{Nothing, Exactly, Many, ◌▸◌}
use Rattle.at_text.specs.Texts.{is_space}
use Rattle.at_lex.specs.Strings.{Character, SpellsString}
use Rattle.at_lex.specs.Runs.{literal_text}
use Rattle.at_nest.specs.Tree.{Tree, literal, number, text, array, object, Trees, no_trees, tree_and, Members, no_members, member_and, Padded, WithName, Spells, SpellsItems, SpellsFurtherItems, SpellsMembers, SpellsFurtherMembers, SpellsNumber, IsTextOf}
use Rattle.at_nest.specs.Syntax.{JsonText}
use Rattle.at_nest.proofs.OneTree.{same_items}
use Rattle.at_parts.proofs.Moves.{Moves, same_moves, then_moves, at_moves, meets_on, meets_back}

-- ---- trees

-- the tree with each of its offsets changed
abbrev mutual
  pub changed : (ℕ → ℕ) → Tree → Tree
  changed f (literal i l) = literal (f i) l
  changed f (number i n) = number (f i) n
  changed f (text i cs) = text (f i) cs
  changed f (array i ts) = array (f i) (changed_items f ts)
  changed f (object i ms) = object (f i) (changed_members f ms)

  pub changed_items : (ℕ → ℕ) → Trees → Trees
  changed_items f no_trees = no_trees
  changed_items f (tree_and t ts) = tree_and (changed f t) (changed_items f ts)

  pub changed_members : (ℕ → ℕ) → Members → Members
  changed_members f no_members = no_members
  changed_members f (member_and name i t ms) = member_and name (f i) (changed f t) (changed_members f ms)

-- the tree with each of its offsets so much greater
abbrev pub moved : ℕ → Tree → Tree
moved d t = changed (λ i. d + i) t

abbrev pub moved_items : ℕ → Trees → Trees
moved_items d ts = changed_items (λ i. d + i) ts

abbrev pub moved_members : ℕ → Members → Members
moved_members d ms = changed_members (λ i. d + i) ms

-- ---- the words of the grammar from one offset to another

module _ (f : ℕ → ℕ) where
  padded_moves : {P Q : ℕ → List ℕ → Type 0} → Moves f P Q → Moves f (Padded P) (Padded Q)
  padded_moves one = then_moves (same_moves (Many is_space 0)) (then_moves one (same_moves (Many is_space 0)))

  behind_moves : {P Q : ℕ → List ℕ → Type 0} (word : List ℕ) → Moves f P Q → Moves f (Exactly word ▸ P) (Exactly word ▸ Q)
  behind_moves word one = then_moves (same_moves (Exactly word 0)) one

  named_moves : {P Q : ℕ → List ℕ → Type 0} (name : List Character) (m : ℕ) → Moves f P Q → Moves f (WithName name m P) (WithName name (f m) Q)
  named_moves name m one = then_moves (padded_moves (at_moves m (same_moves (SpellsString name 0)))) (behind_moves (codes ":") (padded_moves one))

  mutual
    tree_moves : (t : Tree) → Moves f (λ i v. Spells i v t) (λ i v. Spells i v (changed f t))
    tree_moves (literal m l) = at_moves m (same_moves (Exactly (literal_text l) 0))
    tree_moves (number m n) = at_moves m (same_moves (SpellsNumber n 0))
    tree_moves (text m cs) = at_moves m (same_moves (SpellsString cs 0))
    tree_moves (array m ts) = at_moves m (behind_moves (codes "[") (then_moves (items_move ts) (same_moves (Exactly (codes "]") 0))))
    tree_moves (object m ms) = at_moves m (behind_moves (codes "{") (then_moves (members_move ms) (same_moves (Exactly (codes "}") 0))))

    items_move : (ts : Trees) → Moves f (λ i v. SpellsItems i v ts) (λ i v. SpellsItems i v (changed_items f ts))
    items_move no_trees = same_moves (Many is_space 0)
    items_move (tree_and t ts) = then_moves (padded_moves (tree_moves t)) (further_items_move ts)

    further_items_move : (ts : Trees) → Moves f (λ i v. SpellsFurtherItems i v ts) (λ i v. SpellsFurtherItems i v (changed_items f ts))
    further_items_move no_trees = same_moves (Nothing 0)
    further_items_move (tree_and t ts) = behind_moves (codes ",") (then_moves (padded_moves (tree_moves t)) (further_items_move ts))

    members_move : (ms : Members) → Moves f (λ i v. SpellsMembers i v ms) (λ i v. SpellsMembers i v (changed_members f ms))
    members_move no_members = same_moves (Many is_space 0)
    members_move (member_and name m t ms) = then_moves (named_moves name m (tree_moves t)) (further_members_move ms)

    further_members_move : (ms : Members) → Moves f (λ i v. SpellsFurtherMembers i v ms) (λ i v. SpellsFurtherMembers i v (changed_members f ms))
    further_members_move no_members = same_moves (Nothing 0)
    further_members_move (member_and name m t ms) = behind_moves (codes ",") (then_moves (named_moves name m (tree_moves t)) (further_members_move ms))

-- ---- there and back: what the same bytes spell at the offset is one tree, so it is the tree from before, moved

abbrev less : ℕ → ℕ → ℕ
less d i = i - d

pub items_moved : (d at : ℕ) (w : List ℕ) (ts : Trees) → SpellsItems at w ts → SpellsItems (d + at) w (moved_items d ts)
items_moved d at w ts h = (items_move (λ i. d + i) ts).moved at (d + at) w (meets_on d at) h

pub items_at : (from to : ℕ) (w : List ℕ) (ts : Trees) → SpellsItems from w ts → (s : Trees) × (ts ≡ moved_items from s) × SpellsItems to w (moved_items to s)
items_at from to w ts h =
    let s : Trees = changed_items (less from) ts in
    let k : SpellsItems 0 w s = (items_move (less from) ts).moved from 0 w (λ n. omega arith) h in
    let moved : (d : ℕ) → SpellsItems d w (moved_items d s) = λ d. (items_move (λ i. d + i) s).moved 0 d w (λ n. omega arith) k in
    (s, (same_items ts (moved_items from s) from from w [] w [] h (moved from) refl refl).same, moved to)

module _ (d at : ℕ) (w : List ℕ) (ms : Members) where
  pub further_members_moved : SpellsFurtherMembers at w ms → SpellsFurtherMembers (d + at) w (moved_members d ms)
  further_members_moved h = (further_members_move (λ i. d + i) ms).moved at (d + at) w (meets_on d at) h

  pub further_members_back : SpellsFurtherMembers (d + at) w ms → (s : Members) × SpellsFurtherMembers at w s
  further_members_back h = (changed_members (less d) ms, (further_members_move (less d) ms).moved (d + at) at w (meets_back d at) h)

module _ (d at : ℕ) (w : List ℕ) (t : Tree) where
  pub text_moved : IsTextOf at w t → IsTextOf (d + at) w (moved d t)
  text_moved h = (padded_moves (λ i. d + i) (tree_moves (λ i. d + i) t)).moved at (d + at) w (meets_on d at) h

  text_back : IsTextOf (d + at) w t → IsTextOf at w (changed (less d) t)
  text_back h = (padded_moves (less d) (tree_moves (less d) t)).moved (d + at) at w (meets_back d at) h

-- a JSON text is one at each offset
pub json_moved : (d at : ℕ) (w : List ℕ) → JsonText at w ↔ JsonText (d + at) w
json_moved d at w = (λ (t, h). (moved d t, text_moved d at w t h), λ (t, h). (changed (less d) t, text_back d at w t h))

-- JSON texts as trees, and how a tree is spelled (RFC 8259 sections 2 to 7).
use Rattle.std.specs.Prelude.{ℕ, List, codes}
use Rattle.at_text.specs.Parts.{Nothing, Exactly, Many, ◌▸◌, At}
use Rattle.at_text.specs.Texts.{is_space}
use Rattle.at_fixed.specs.Numerals.{Numeral, IsJsonNumeral, numeral_text}
use Rattle.at_lex.specs.Strings.{Character, SpellsString}
use Rattle.at_lex.specs.Runs.{Literal, literal_text}

-- a value with the offset of its first byte. An array holds trees, an object members, each a name with its offset and a
-- value
mutual
  pub data Tree : Type 0 where
    literal : (at : ℕ) → Literal → Tree
    number : (at : ℕ) → Numeral → Tree
    text : (at : ℕ) → List Character → Tree
    array : (at : ℕ) → Trees → Tree
    object : (at : ℕ) → Members → Tree

  pub data Trees : Type 0 where
    no_trees : Trees
    tree_and : Tree → Trees → Trees

  pub data Members : Type 0 where
    no_members : Members
    member_and : (name : List Character) → (name_at : ℕ) → Tree → Members → Members

-- How a tree is spelled is told in the words of at_text: a part is a relation between an offset and the bytes there.

-- a number; where it stands makes no difference
abbrev pub SpellsNumber : Numeral → ℕ → List ℕ → Type 0
SpellsNumber n at w = IsJsonNumeral n × Exactly (numeral_text n) at w

-- a part with white space round it
abbrev pub Padded : (ℕ → List ℕ → Type 0) → ℕ → List ℕ → Type 0
Padded Part = Many is_space ▸ Part ▸ Many is_space

-- a name, whose opening quote stands at the offset i, a colon and a value
abbrev pub WithName : List Character → ℕ → (ℕ → List ℕ → Type 0) → ℕ → List ℕ → Type 0
WithName name i Value = Padded (At i (SpellsString name)) ▸ Exactly (codes ":") ▸ Padded Value

-- the bytes w, the first of which stands at the offset `at`, spell the value, whose offset that is
abbrev mutual
  pub Spells : ℕ → List ℕ → Tree → Type 0
  Spells at w (literal i l) = At i (Exactly (literal_text l)) at w
  Spells at w (number i n) = At i (SpellsNumber n) at w
  Spells at w (text i cs) = At i (SpellsString cs) at w
  Spells at w (array i ts) = At i (Exactly (codes "[") ▸ (λ j v. SpellsItems j v ts) ▸ Exactly (codes "]")) at w
  Spells at w (object i ms) = At i (Exactly (codes "{") ▸ (λ j v. SpellsMembers j v ms) ▸ Exactly (codes "}")) at w

  -- white space alone, or items parted by commas
  pub SpellsItems : ℕ → List ℕ → Trees → Type 0
  SpellsItems at w no_trees = Many is_space at w
  SpellsItems at w (tree_and t ts) = (Padded (λ j v. Spells j v t) ▸ (λ j r. SpellsFurtherItems j r ts)) at w

  pub SpellsFurtherItems : ℕ → List ℕ → Trees → Type 0
  SpellsFurtherItems at w no_trees = Nothing at w
  SpellsFurtherItems at w (tree_and t ts) =
      (Exactly (codes ",") ▸ Padded (λ j v. Spells j v t) ▸ (λ j r. SpellsFurtherItems j r ts)) at w

  -- white space alone, or members parted by commas
  pub SpellsMembers : ℕ → List ℕ → Members → Type 0
  SpellsMembers at w no_members = Many is_space at w
  SpellsMembers at w (member_and name i t ms) =
      (WithName name i (λ j v. Spells j v t) ▸ (λ j r. SpellsFurtherMembers j r ms)) at w

  pub SpellsFurtherMembers : ℕ → List ℕ → Members → Type 0
  SpellsFurtherMembers at w no_members = Nothing at w
  SpellsFurtherMembers at w (member_and name i t ms) =
      (Exactly (codes ",") ▸ WithName name i (λ j v. Spells j v t) ▸ (λ j r. SpellsFurtherMembers j r ms)) at w

-- white space, the value, white space; the text begins at the offset `at`
abbrev pub IsTextOf : ℕ → List ℕ → Tree → Type 0
IsTextOf at w t = Padded (λ j v. Spells j v t) at w

-- the offset of a value's first byte
abbrev pub offset_of : Tree → ℕ
offset_of (literal i l) = i
offset_of (number i n) = i
offset_of (text i cs) = i
offset_of (array i ts) = i
offset_of (object i ms) = i

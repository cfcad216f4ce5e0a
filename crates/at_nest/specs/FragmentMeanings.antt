-- A fragment stands for bytes of a file: from outside text and from inside a string its variant is theirs, and what it
-- says of them from behind a backslash is true. A lost one stands for any.
use Rattle.std.specs.Prelude.{◌≡◌, ◌≢◌, ℕ, ◌+◌, Option, Some, None, Box, List, ◌∷◌, length}
use Rattle.std.specs.Bool.{⊤}
use Rattle.std.specs.Global.{Global}
use Rattle.at_lex.specs.declared.tokens.Start.TheVariants.{Out, InString}
use Rattle.at_nest.specs.declared.fragments.Escape.{Escape}
use Rattle.at_nest.specs.declared.fragments.Escape.TheVariants.{AsString, Unread}
use Rattle.at_nest.specs.declared.fragments.Parts.{Parts}
use Rattle.at_nest.specs.declared.fragments.Fragment.{Fragment}
use Rattle.at_nest.specs.VariantMeanings.{HoldsVariant}
use Rattle.at_nest.specs.KeptItems.{Content}

abbrev pub parts_in : {X : Type 0} → Option (Box (Parts X) Global) → Option (Parts X)
parts_in None = None
parts_in (Some b) = Some b.value

-- what is said of the bytes where the first of them is escaped: that it is no quote and no backslash, so that they are
-- as in a string; or nothing
abbrev pub HoldsEscape : List ℕ → Escape → Type 0
HoldsEscape w AsString = (b : ℕ) × (o : List ℕ) × (w ≡ b ∷ o) × (b ≢ 0x22) × (b ≢ 0x5C)
HoldsEscape w Unread = ⊤

module _ {X : Type 0} (IsKept : X → Content → Type 0) where
  pub record HoldsParts (at : ℕ) (w : List ℕ) (parts : Parts X) : Type 0 where
    pub from : parts.from ≡ at
    pub to : parts.to ≡ at + length w
    pub out : HoldsVariant IsKept Out at w parts.out
    pub string : HoldsVariant IsKept InString at w parts.string
    pub escape : HoldsEscape w parts.escape

  -- what is kept, if anything, is of these bytes
  abbrev pub HoldsSome : ℕ → List ℕ → Option (Parts X) → Type 0
  HoldsSome at w None = ⊤
  HoldsSome at w (Some parts) = HoldsParts at w parts

module _ {A X : Type 0} where
  abbrev pub parts_of : Fragment A X → Option (Parts X)
  parts_of f = parts_in f.parts

  abbrev pub StandsFor : (X → Content → Type 0) → ℕ → List ℕ → Fragment A X → Type 0
  StandsFor IsKept at w f = HoldsSome IsKept at w (parts_of f)

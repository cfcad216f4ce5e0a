-- What a reader of a piece has before it, and what it gives.
use Rattle.std.specs.Prelude.{◌≡◌, ℕ, ◌+◌, ◌<◌, List, [], ◌∷◌, ◌++◌, length}
use Rattle.std.specs.Bool.{⊤}
use Rattle.at_lex.specs.declared.tokens.Start.{Start}
use Rattle.at_lex.specs.declared.tokens.Start.TheVariants.{Out}
use Rattle.at_lex.specs.declared.tokens.Lead.{Lead}
use Rattle.at_lex.specs.declared.tokens.Pend.{Pend}
use Rattle.at_lex.specs.declared.tokens.Token.{Token}
use Rattle.at_lex.specs.declared.tokens.Item.{Item}
use Rattle.at_lex.specs.declared.tokens.Item.TheVariants.{Whole, End}
use Rattle.at_lex.specs.Spans.{AreSpaces, IsToken, IsPend, AreTokens, IsLead, left_behind, end_of, end_behind}

-- what is still to be read: the offset of the next byte, the bytes from it to the piece's end, and the lexical state
-- before it
pub record Left : Type 0 where
  pub at : ℕ
  pub rest : List ℕ
  pub state : Start

-- the first item of bytes that stand at `at` outside text and begin with no white space
abbrev pub IsFirstItem : ℕ → List ℕ → Item → Type 0
IsFirstItem at w (Whole t) = (v r : List ℕ) × (w ≡ v ++ r) × IsToken at v r t
IsFirstItem at w (End pend end) = IsPend at w pend × (end ≡ end_of Out w)

-- how a reader of the bytes w, which stand at `at`, begins in the state s: behind the lead
abbrev pub IsBegun : Start → ℕ → List ℕ → Lead → Left → Type 0
IsBegun s at w lead left = (u : List ℕ) × (w ≡ u ++ left.rest) × IsLead s at u lead left.rest
    × (left.at ≡ at + length u) × (left.state ≡ end_of s u)

-- the item that a reader gives next, and what is left behind it: a token's bytes are passed, with the white space
-- before them; nothing is left behind a broken token; and at the end all stays as it is
abbrev pub GivesItem : Left → Item → Left → Type 0
GivesItem old (Whole t) new = (a v r : List ℕ) × (old.state ≡ Out) × (old.rest ≡ a ++ (v ++ r)) × AreSpaces a
    × IsToken (old.at + length a) v r t
    × (new ≡ record { at = t.to; rest = left_behind t.kind r; state = Out })
GivesItem old (End pend end) new = (a v : List ℕ) × (old.rest ≡ a ++ v) × AreSpaces a
    × IsPend (old.at + length a) v pend
    × (end ≡ end_of old.state old.rest) × (new ≡ old)

-- a token takes at least one byte
abbrev pub IsShorter : Left → Item → Left → Type 0
IsShorter old (Whole t) new = length new.rest < length old.rest
IsShorter old (End pend end) new = ⊤

-- the tokens that are left, what may go on behind them, and the state behind the last byte
abbrev pub HasLeft : Left → List Token → Pend → Start → Type 0
HasLeft left tokens pend end = AreTokens left.at left.rest tokens pend
    × (end ≡ end_behind tokens (end_of left.state left.rest))

-- the item, and in front of what is left behind it: these are the items of what was left
abbrev pub BeginsItems : Left → Item → Left → Type 0
BeginsItems old (Whole t) new = (tokens : List Token) (pend : Pend) (end : Start) → HasLeft new tokens pend end
    → HasLeft old (t ∷ tokens) pend end
BeginsItems old (End pend end) new = HasLeft old [] pend end

-- no reader begins otherwise
abbrev pub IsOnlyBegun : Start → ℕ → List ℕ → Lead → Left → Type 0
IsOnlyBegun s at w lead left = (other : Lead) (others : Left) → IsBegun s at w other others → (other ≡ lead)
    × (others ≡ left)

-- no other item comes next, and nothing else is left behind it
abbrev pub IsOnlyItem : Left → Item → Left → Type 0
IsOnlyItem old item new = (other : Item) (others : Left) → GivesItem old other others → (other ≡ item) × (others ≡ new)

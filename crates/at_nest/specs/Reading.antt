-- What a token makes of what is kept.
use Rattle.std.specs.Prelude.{◌≡◌, ℕ, ◌+◌, ◌<◌, ◌==◌, false, zero, suc, if◌then◌else◌, Option, List, [], ◌∷◌, ◌++◌}
use Rattle.std.specs.Prelude.{Bool, true}
use Rattle.std.specs.Prelude.{length}
use Rattle.at_lex.specs.Spans.{IsToken as IsLexed}
use Rattle.at_lex.specs.declared.tokens.Token.{Token}
use Rattle.at_lex.specs.declared.tokens.TokenKind.{TokenKind}
use Rattle.at_lex.specs.declared.tokens.TokenKind.TheVariants.{Opens, Closes}
use Rattle.at_lex.specs.declared.tokens.Pend.{Pend}
use Rattle.at_lex.specs.declared.tokens.Pend.TheVariants.{Nothing, Run as RunPends, Text as TextPends}
use Rattle.at_nest.specs.declared.pieces.Within.{Within}
use Rattle.at_nest.specs.declared.pieces.Within.TheVariants.{Run, Text}
use Rattle.at_nest.specs.declared.pieces.SpanStop.{SpanStop}
use Rattle.at_nest.specs.Tree.{Tree, Spells}
use Rattle.at_nest.specs.Borders.{ends_run}
use Rattle.at_nest.specs.Forms.{mark, entry}
use Rattle.at_nest.specs.Levels.{Form, Pushed, further, push}
use Rattle.at_nest.specs.Shown.{Shown, stop_at}
use Rattle.at_nest.specs.KeptItems.{Content, free, IsShown, IsPushedAs}
use Rattle.at_nest.specs.Unions.{IsToken, Ends, merged}

-- the bytes v stand at the offset `at`, in bytes w that stand at `base`
abbrev pub IsPlaced : ℕ → List ℕ → ℕ → List ℕ → Type 0
IsPlaced base w at v = (a z : List ℕ) × (w ≡ a ++ (v ++ z)) × (at ≡ base + length a)

-- the piece, which stands at `base`, and its bytes from the offset `from` on
abbrev pub HasBytes : ℕ → List ℕ → ℕ → List ℕ → Type 0
HasBytes base piece from bytes = (u : List ℕ) × (piece ≡ u ++ bytes) × (from ≡ base + length u)

-- a token of the kind is a bracket
abbrev pub is_bracket : TokenKind → Bool
is_bracket (Opens b) = true
is_bracket (Closes b) = true
is_bracket _ = false

-- where what may go on begins, in a piece with this end
abbrev pub pend_from : Pend → ℕ → ℕ
pend_from Nothing end = end
pend_from (RunPends i) end = i
pend_from (TextPends i) end = i

-- a stop in an item of which so many bytes read on
abbrev pub stop_within : Within → ℕ → ℕ → SpanStop
stop_within within i zero = stop_at i
stop_within within i (suc n) = record { within = within; item = i; place = i + suc n }

-- in what a token that spells nothing stops, by its first byte
abbrev pub within_from : List ℕ → Within
within_from [] = Run
within_from (b ∷ w) = if b == 0x22 then Text else Run

module _ {X : Type 0} (IsKept : X → Content → Type 0) where
  -- a token that was cut: what its reading pushes
  abbrev pub Reads : Shown X → Shown X → Option SpanStop → ℕ → List ℕ → Type 0
  Reads old new r at v = (base : ℕ) (w : List ℕ) (f : Form Tree) (more : List ℕ) → IsShown IsKept base w old f
      → IsPlaced base w at v → IsToken v more
      → (p : Pushed Tree) × Ends free at v more p × IsPushedAs IsKept base w new r (merged free (further f) p)

  -- a token of a piece
  abbrev pub ReadsToken : Shown X → Shown X → Option SpanStop → List ℕ → Token → Type 0
  ReadsToken old new r v token = (base : ℕ) (w : List ℕ) (f : Form Tree) (after : List ℕ) → IsShown IsKept base w old f
      → IsPlaced base w token.from v → IsLexed token.from v after token
      → (p : Pushed Tree) × Ends free token.from v after p × IsPushedAs IsKept base w new r (merged free (further f) p)

  -- a whole run
  abbrev pub ReadsRun : Shown X → Shown X → Option SpanStop → ℕ → List ℕ → Type 0
  ReadsRun old new r at v = (base : ℕ) (w : List ℕ) (f : Form Tree) (t : Tree) → IsShown IsKept base w old f
      → Spells at v t → IsPushedAs IsKept base w new r (push free f (mark (entry at t)))

  -- what was read of the bytes that begin with an opening bracket, up to the offset `to`: the bracket alone, a whole
  -- value, or several items of an array
  abbrev pub ReadsAhead : Shown X → Shown X → Option SpanStop → ℕ → List ℕ → ℕ → Type 0
  ReadsAhead old new r at ahead to = (v : List ℕ) × (more : List ℕ) × (ahead ≡ v ++ more) × (to ≡ at + length v)
      × (0 < length v) × (ends_run v ≡ false)
      × ((base : ℕ) (w : List ℕ) (f : Form Tree) → IsShown IsKept base w old f → (p : Pushed Tree)
      × Ends free at v more p × IsPushedAs IsKept base w new r (merged free (further f) p))

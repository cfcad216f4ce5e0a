-- What a fragment of a file that is read line by line stands for: the two pieces at its ends, and the fold of the lines
-- between them.
use Rattle.std.specs.Prelude.{◌≡◌, ℕ, ◌+◌, ◌≤◌, List, [], ◌∷◌, ◌++◌, length, drop, Result, Ok, Err}
use Rattle.std.specs.Bool.{⊤}
use Rattle.at_text.specs.declared.memory.Memory.{Memory}
use Rattle.at_text.specs.declared.texts.Span.{Span}
use Rattle.at_wkt.specs.Lines.{FileLine, pieces_from, lines_in}
use Rattle.at_wkt.specs.declared.file.fragments.Inner.{Inner}
use Rattle.at_wkt.specs.declared.file.fragments.WholeLines.{WholeLines}
use Rattle.at_wkt.specs.declared.file.fragments.LineFragment.{LineFragment}
use Rattle.at_wkt.specs.declared.file.fragments.LineFragment.TheVariants.{Lost, Piece, Lines}

-- the span has the piece's bytes
abbrev pub IsSpanOf : FileLine → Span → Type 0
IsSpanOf piece span = (span.from ≡ piece.at) × (span.to ≡ piece.at + length piece.text)

-- a part of the fold's own that is the fold of the lines
abbrev pub OwnFold : {P : Type 0} → (P → Type 0) → (P → List FileLine → Type 0) → P → List FileLine → Type 0
OwnFold IsOwn IsFold part lines = IsOwn part × IsFold part lines

-- of whatever lines the one part is the fold, the next is the fold of those and of these behind them
abbrev pub AddsLines : {P : Type 0} → (P → List FileLine → Type 0) → P → List FileLine → P → Type 0
AddsLines IsFold part more next = (lines : List FileLine) → IsFold part lines → IsFold next (lines ++ more)

-- the fragment that stands for any bytes
abbrev pub IsLost : {P : Type 0} → LineFragment P → Type 0
IsLost Lost = ⊤
IsLost _ = ⊥

-- it is of a span without a line feed
abbrev pub IsPiece : {P : Type 0} → LineFragment P → Type 0
IsPiece (Piece _) = ⊤
IsPiece _ = ⊥

-- the fragment of lines, or the lost one where they found no memory
abbrev pub fragment_of : {P : Type 0} → Result (WholeLines P) Memory → LineFragment P
fragment_of (Ok whole) = Lines whole
fragment_of (Err refused) = Lost

-- the bytes, the first of which has the offset, have no line feed and are the span
abbrev pub HoldsPiece : ℕ → List ℕ → Span → Type 0
HoldsPiece at bytes span = (pieces_from at bytes ≡ record { at = at; text = bytes } ∷ [])
    × IsSpanOf (record { at = at; text = bytes }) span

module _ {P : Type 0} (IsKept : P → List FileLine → Type 0) where
  -- the bytes are the span before their first line feed, the lines whose fold is kept, and the span behind their last
  -- line feed
  pub record HoldsLines (at : ℕ) (bytes : List ℕ) (whole : WholeLines P) : Type 0 where
    pub first : FileLine
    pub inner : List FileLine
    pub last : FileLine
    pub pieces : pieces_from at bytes ≡ first ∷ (inner ++ last ∷ [])
    pub before : IsSpanOf first whole.before
    pub kept : IsKept whole.part (lines_in inner)
    pub behind : IsSpanOf last whole.behind

  abbrev pub StandsFor : ℕ → List ℕ → LineFragment P → Type 0
  StandsFor at bytes Lost = ⊤
  StandsFor at bytes (Piece span) = HoldsPiece at bytes span
  StandsFor at bytes (Lines whole) = HoldsLines at bytes whole

  -- the pieces of bytes up to the last line feed are folded, and the last one begins at a place of them
  pub record HoldsInner (at : ℕ) (bytes : List ℕ) (read : Inner P) : Type 0 where
    pub inner : List FileLine
    pub pieces : pieces_from at bytes ≡ inner ++ record { at = at + read.end; text = drop read.end bytes } ∷ []
    pub kept : IsKept read.part (lines_in inner)
    pub within : read.end ≤ length bytes

-- Levels: what is open, each with its marks and the grammar's state; how a piece is pushed behind a form.
use Rattle.std.specs.Prelude.{ℕ, Bool, true, false, Option, Some, None, option_and_then, List, [], ◌∷◌, ◌++◌}
use Rattle.at_lex.specs.declared.tokens.Bracket.{Bracket}
use Rattle.at_lex.specs.declared.tokens.Bracket.TheVariants.{Brace, Square}
use Rattle.at_lex.specs.Strings.{Character}
use Rattle.at_nest.specs.States.{State, Frame, in_array, in_object, value, items, members, name, colon, after}
use Rattle.at_nest.specs.Forms.{Meaning, Mark, Piece, comma as a_comma, colon as a_colon, quoted, entry, opens, closes}
use Rattle.at_nest.specs.Forms.{mark}
use Rattle.at_nest.specs.Walks.{Kind, comma_kind, colon_kind, text_kind, value_kind, mark_kind, mark_at}

-- the grammar's state in an array or an object, whatever is open below
pub data Mode : Type 0 where
  at_items at_value at_after at_members at_name at_colon at_member at_further : Mode

abbrev pub full : Mode → List Frame → State
full at_items st = items st
full at_value st = value (in_array ∷ st)
full at_after st = after (in_array ∷ st)
full at_members st = members st
full at_name st = name st
full at_colon st = colon st
full at_member st = value (in_object ∷ st)
full at_further st = after (in_object ∷ st)

abbrev pub first_mode : Bracket → Mode
first_mode Square = at_items
first_mode Brace = at_members

abbrev pub move : Mode → Kind → Option Mode
move at_items text_kind = Some at_after
move at_items value_kind = Some at_after
move at_items _ = None
move at_value text_kind = Some at_after
move at_value value_kind = Some at_after
move at_value _ = None
move at_after comma_kind = Some at_value
move at_after _ = None
move at_members text_kind = Some at_colon
move at_members _ = None
move at_name text_kind = Some at_colon
move at_name _ = None
move at_colon colon_kind = Some at_member
move at_colon _ = None
move at_member text_kind = Some at_further
move at_member value_kind = Some at_further
move at_member _ = None
move at_further comma_kind = Some at_name
move at_further _ = None

-- the bracket may close the level
abbrev pub closes_at : Mode → Bracket → Bool
closes_at at_items Square = true
closes_at at_after Square = true
closes_at at_members Brace = true
closes_at at_further Brace = true
closes_at _ _ = false

abbrev pub moves : {X : Type 0} → Mode → List (Mark X) → Option Mode
moves md [] = Some md
moves md (x ∷ xs) = option_and_then (λ n. moves n xs) (move md (mark_kind x))

-- the values among the marks
abbrev pub values_in : {X : Type 0} → Meaning X → List (Mark X) → List X
values_in m [] = []
values_in m (a_comma i ∷ xs) = values_in m xs
values_in m (a_colon i ∷ xs) = values_in m xs
values_in m (quoted i cs ∷ xs) = m.of_text i cs ∷ values_in m xs
values_in m (entry i x ∷ xs) = x ∷ values_in m xs

-- the members among the marks, behind a name where there is one
abbrev pub pairs_in : {X : Type 0} → Meaning X → Option (List Character × ℕ) → List (Mark X)
    → List (List Character × ℕ × X)
pairs_in m o [] = []
pairs_in m o (a_comma i ∷ xs) = pairs_in m o xs
pairs_in m o (a_colon i ∷ xs) = pairs_in m o xs
pairs_in m None (quoted i cs ∷ xs) = pairs_in m (Some (cs, i)) xs
pairs_in m (Some p) (quoted i cs ∷ xs) = (p.0, p.1, m.of_text i cs) ∷ pairs_in m None xs
pairs_in m None (entry i x ∷ xs) = pairs_in m None xs
pairs_in m (Some p) (entry i x ∷ xs) = (p.0, p.1, x) ∷ pairs_in m None xs

-- what a level is when it is closed
abbrev pub built : {X : Type 0} → Meaning X → Bracket → ℕ → List (Mark X) → X
built m Square i xs = m.of_array i (values_in m xs)
built m Brace i xs = m.of_object i (pairs_in m None xs)

pub record Level (X : Type 0) : Type 0 where
  pub bracket : Bracket
  pub from : ℕ
  pub inside : List (Mark X)
  pub mode : Mode

-- what stands before the first unmatched opener, and the open levels, the innermost first
pub record Form (X : Type 0) : Type 0 where
  pub outer : List (Piece X)
  pub levels : List (Level X)

abbrev pub marks : {X : Type 0} → List (Mark X) → List (Piece X)
marks [] = []
marks (x ∷ xs) = mark x ∷ marks xs

abbrev pub opened : {X : Type 0} → List (Level X) → List (Piece X)
opened [] = []
opened (l ∷ ls) = opened ls ++ (opens l.bracket l.from ∷ marks l.inside)

abbrev pub pieces_of : {X : Type 0} → Form X → List (Piece X)
pieces_of f = f.outer ++ opened f.levels

-- how far a stop is in its item: at its first byte, in a run, or in a string
pub data Within : Type 0 where
  at_first in_run in_text : Within

-- where the item begins, and the byte that no bytes before make viable
pub record SpanStop : Type 0 where
  pub kind : Within
  pub item : ℕ
  pub place : ℕ

abbrev pub plain_halt : ℕ → SpanStop
plain_halt i = record { kind = at_first; item = i; place = i }

-- a form, or a form and where what is behind it cannot go on
pub data Pushed (X : Type 0) : Type 0 where
  further : Form X → Pushed X
  stopped : Form X → SpanStop → Pushed X

abbrev pub with_mark : {X : Type 0} → List (Piece X) → List (Level X) → Level X → Mark X → Option Mode → Pushed X
with_mark outer ls l x None = stopped (record { outer = outer; levels = l ∷ ls }) (plain_halt (mark_at x))
with_mark outer ls l x (Some n) =
    further (record {
      outer = outer;
      levels = record {
        bracket = l.bracket;
        from = l.from;
        inside = l.inside ++ (x ∷ []);
        mode = n;
      } ∷ ls;
    })

abbrev pub push_mark : {X : Type 0} → List (Piece X) → List (Level X) → Mark X → Pushed X
push_mark outer [] x = further (record { outer = outer ++ (mark x ∷ []); levels = [] })
push_mark outer (l ∷ ls) x = with_mark outer ls l x (move l.mode (mark_kind x))

abbrev pub push_open : {X : Type 0} → List (Piece X) → List (Level X) → Bracket → ℕ → Pushed X
push_open outer ls b i =
    further (record { outer = outer; levels = record { bracket = b; from = i; inside = []; mode = first_mode b } ∷ ls })

abbrev pub close_level : {X : Type 0} → Meaning X → List (Piece X) → List (Level X) → Level X → ℕ → Bool → Pushed X
close_level m outer ls l i true = push_mark outer ls (entry l.from (built m l.bracket l.from l.inside))
close_level m outer ls l i false = stopped (record { outer = outer; levels = l ∷ ls }) (plain_halt i)

abbrev pub push_close : {X : Type 0} → Meaning X → List (Piece X) → List (Level X) → Bracket → ℕ → Pushed X
push_close m outer [] b i = further (record { outer = outer ++ (closes b i ∷ []); levels = [] })
push_close m outer (l ∷ ls) b i = close_level m outer ls l i (closes_at l.mode b)

abbrev pub push : {X : Type 0} → Meaning X → Form X → Piece X → Pushed X
push m f (opens b i) = push_open f.outer f.levels b i
push m f (closes b i) = push_close m f.outer f.levels b i
push m f (mark x) = push_mark f.outer f.levels x

abbrev pub push_then : {X : Type 0} → (Form X → Pushed X) → Pushed X → Pushed X
push_then more (further f) = more f
push_then more (stopped f i) = stopped f i

-- the pieces of the right side, one by one, behind the left side's form
abbrev pub push_all : {X : Type 0} → Meaning X → List (Piece X) → Form X → Pushed X
push_all m [] f = further f
push_all m (p ∷ ps) f = push_then (push_all m ps) (push m f p)

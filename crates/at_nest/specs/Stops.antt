-- What a form of bytes is, and what a stop in them is.
use Rattle.std.specs.Prelude.{◌≡◌, ℕ, ◌+◌, ◌⊎◌, true, Some, List, [], ◌∷◌, ◌++◌, length}
use Rattle.std.specs.Bool.{⊤}
use Rattle.at_text.specs.Prefix.{Viable}
use Rattle.at_text.proofs.Machine.{run}
use Rattle.at_nest.specs.NumberStates as num
use Rattle.at_lex.specs.StringStates as str
use Rattle.at_lex.specs.Runs.{Literal, literal_text}
use Rattle.at_lex.specs.Spans.{AreSpaces, end_of}
use Rattle.at_lex.specs.declared.tokens.Start.TheVariants.{Out}
use Rattle.at_nest.specs.Syntax.{JsonText}
use Rattle.at_nest.specs.Borders.{are_apart}
use Rattle.at_nest.specs.Forms.{Meaning, Formed}
use Rattle.at_nest.specs.Levels.{Level, Form, pieces_of, first_mode, moves, Within, at_first, in_run, in_text, SpanStop}
use Rattle.at_nest.specs.Levels.{Pushed, further, stopped}

-- the byte at the offset i of the bytes w, which stand at `at`, is not viable, whatever stands before them that leads
-- outside text and whose last run doesn't go on in w
pub record IsDeadHere (at : ℕ) (w : List ℕ) (i : ℕ) : Type 0 where
  pub before : List ℕ
  pub byte : ℕ
  pub others : List ℕ
  pub split : w ≡ before ++ (byte ∷ others)
  pub place : i ≡ at + length before
  pub dead : (x : List ℕ) → end_of Out x ≡ Out → are_apart x w ≡ true
      → ¬ (Viable (JsonText 0) (x ++ (before ++ (byte ∷ []))))

-- each open level's state is what its marks lead to
abbrev pub AreLevels : {X : Type 0} → List (Level X) → Type 0
AreLevels [] = ⊤
AreLevels (l ∷ ls) = (moves (first_mode l.bracket) l.inside ≡ Some l.mode) × AreLevels ls

pub record IsForm {X : Type 0} (m : Meaning X) (at : ℕ) (w : List ℕ) (f : Form X) : Type 0 where
  pub formed : Formed m at w (pieces_of f)
  pub levels : AreLevels f.levels

-- the bytes begin a run: a number, or a literal
abbrev pub IsRunBegun : List ℕ → Type 0
IsRunBegun u = ((n : num.State) × (run num.step num.start u ≡ Some n))
    ⊎ ((l : Literal) × (r : List ℕ) × (u ++ r ≡ literal_text l))

abbrev pub IsTextBegun : List ℕ → Type 0
IsTextBegun u = (n : str.State) × (run str.step str.opening u ≡ Some n)

-- the bytes begin an item of the kind
abbrev pub IsBegun : Within → List ℕ → Type 0
IsBegun at_first u = u ≡ []
IsBegun in_run u = (b : ℕ) × (v : List ℕ) × (u ≡ b ∷ v) × IsRunBegun u
IsBegun in_text u = (b : ℕ) × (v : List ℕ) × (u ≡ b ∷ v) × IsTextBegun u

-- the form is of the bytes before an item, in which or at whose end a byte stands that no bytes before make viable
pub record IsStop {X : Type 0} (m : Meaning X) (at : ℕ) (w : List ℕ) (f : Form X) (h : SpanStop) : Type 0 where
  pub front : List ℕ
  pub spaces : List ℕ
  pub begun : List ℕ
  pub byte : ℕ
  pub others : List ℕ
  pub split : w ≡ front ++ (spaces ++ (begun ++ (byte ∷ others)))
  pub form : IsForm m at front f
  pub are_spaces : AreSpaces spaces
  pub item : h.item ≡ at + length front + length spaces
  pub place : h.place ≡ h.item + length begun
  pub is_begun : IsBegun h.kind begun
  pub apart : are_apart front (spaces ++ (begun ++ (byte ∷ others))) ≡ true
  pub dead : IsDeadHere at w h.place

abbrev pub IsPushed : {X : Type 0} → Meaning X → ℕ → List ℕ → Pushed X → Type 0
IsPushed m at w (further f) = IsForm m at w f
IsPushed m at w (stopped f h) = IsStop m at w f h

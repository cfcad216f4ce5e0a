-- What a list of words says: the line that it spells, of which there is at most one.
use Rattle.std.specs.Prelude.{◌≡◌, ◌≢◌, ◌⊎◌, ℕ, ◌^◌, ◌≤◌, List, [], ◌∷◌, length, Option, Some, None, IfSome, option_to_list}
use Rattle.std.specs.Prelude.{unwrap_or}
use Rattle.at_fixed.specs.declared.rounding.Coords.TheVariants.{Round}
use Rattle.at_cli.specs.declared.words.flags.Setting.{Setting}
use Rattle.at_cli.specs.declared.words.flags.Setting.TheVariants as settings
use Rattle.at_run.specs.declared.forms.Form.{Form}
use Rattle.at_run.specs.declared.forms.Form.TheVariants.{Seq}
use Rattle.at_cli.specs.declared.words.line.Line.{Line}
use Rattle.at_cli.specs.Pieces.{Piece, SpellPieces, values_of, positionals_of}
use Rattle.at_cli.specs.Values.{form_text, coords_text, SpellsDigits, IsWhole, IsFileName, form_by_name}

-- an option that isn't given has its default, one that is given has what its value spells, and none is given twice
abbrev pub IsChosen : {X : Type 0} → X → (List ℕ → X → Type 0) → List (List ℕ) → X → Type 0
IsChosen default Spells [] x = x ≡ default
IsChosen default Spells (value ∷ []) x = Spells value x
IsChosen default Spells (value ∷ second ∷ more) x = ⊥

abbrev pub SpellsForm : List ℕ → Option Form → Type 0
SpellsForm text chosen = (form : Form) × (chosen ≡ Some form) × (text ≡ form_text form)

abbrev pub SpellsFeed : List ℕ → Option ℕ → Type 0
SpellsFeed text chosen = (size : ℕ) × (chosen ≡ Some size) × IsWhole 1 1048576 text size

-- no sequence is read in chunks
abbrev pub CanFeed : Option Form → Option ℕ → Type 0
CanFeed form feed = (size : ℕ) → feed ≡ Some size → form ≢ Some Seq

-- the query, the file and the second file where there is one, in this order
pub record HasNames (positionals : List (List ℕ)) (query first : List ℕ) (second : Option (List ℕ)) : Type 0 where
  pub places : positionals ≡ query ∷ first ∷ option_to_list second
  pub query_fits : length query ≤ 2 ^ 28
  pub first_names : IsFileName first
  pub second_names : IfSome second IsFileName

-- the line of these values of options and these positionals
pub record HasValues (values : Setting → List (List ℕ)) (positionals : List (List ℕ)) (line : Line) : Type 0 where
  pub form : IsChosen None SpellsForm (values settings.Form) line.form
  pub how : IsChosen Round (λ text how. text ≡ coords_text how) (values settings.Coords) line.how
  pub digits : IsChosen 7 SpellsDigits (values settings.Digits) line.digits
  pub blocks : IsChosen 64 (IsWhole 1 4096) (values settings.Blocks) line.blocks
  pub workers : IsChosen 4 (IsWhole 1 64) (values settings.Workers) line.workers
  pub feed : IsChosen None SpellsFeed (values settings.Feed) line.feed
  pub can_feed : CanFeed line.form line.feed
  pub names : HasNames positionals line.query line.first line.second

-- the words spell pieces of which the line is made; words that say no line are refused
abbrev pub SaysLine : List (List ℕ) → Line → Type 0
SaysLine words line = (pieces : List Piece) × (after : Option (List (List ℕ))) × SpellPieces words pieces after
    × HasValues (values_of pieces) (positionals_of pieces after) line

-- what holds of each line that words say
pub record KeepsLimits (line : Line) : Type 0 where
  pub digits : (line.digits ≡ 7) ⊎ (line.digits ≡ 9)
  pub some_blocks : 1 ≤ line.blocks
  pub few_blocks : line.blocks ≤ 4096
  pub some_workers : 1 ≤ line.workers
  pub few_workers : line.workers ≤ 64
  pub feed : IfSome line.feed (λ size. (1 ≤ size) × (size ≤ 1048576))
  pub can_feed : CanFeed line.form line.feed
  pub query_fits : length line.query ≤ 2 ^ 28
  pub first_names : IsFileName line.first
  pub second_names : IfSome line.second IsFileName

-- the form of a name's file: the one that the line says, or else the one that the name says
abbrev pub form_of : Line → List ℕ → Form
form_of line name = unwrap_or line.form (form_by_name name)

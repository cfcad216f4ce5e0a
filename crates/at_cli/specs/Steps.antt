-- How words are read one by one, from left to right. Private contracts alone cite it.
use Rattle.std.specs.Prelude.{ℕ, nat_lt, ◌==◌, bytes_eq, if◌then◌else◌, codes, List, [], ◌∷◌, ◌++◌, length, Option}
use Rattle.std.specs.Prelude.{Some, None, option_map, option_and_then, option_to_list}
use Rattle.std.specs.Option.{option_or, option_copied}
use Rattle.at_cli.specs.Words.{begins_with}
use Rattle.at_cli.specs.Pieces.{setting_name}
use Rattle.at_cli.specs.declared.words.flags.Setting.{Setting}
use Rattle.at_cli.specs.declared.words.flags.Setting.TheVariants as settings
use Rattle.at_cli.specs.declared.words.flags.Flag.{Flag}
use Rattle.at_cli.specs.declared.words.pieces.Next.{Next}
use Rattle.at_cli.specs.declared.words.pieces.Next.TheVariants as nexts
use Rattle.at_cli.specs.declared.words.pieces.Places.{Places}
use Rattle.at_cli.specs.declared.words.pieces.Places.TheVariants as slots
use Rattle.at_cli.specs.declared.words.pieces.Pieces.{Pieces}

-- what is behind the prefix of the text
abbrev pub behind : List ℕ → List ℕ → Option (List ℕ)
behind [] text = Some text
behind (p ∷ prefix) [] = None
behind (p ∷ prefix) (b ∷ text) = if p == b then behind prefix text else None

-- an option as a word, with a value or none
pub record FlagWord : Type 0 where
  pub setting : Setting
  pub value : Option (List ℕ)

abbrev pub flag_shown : Flag → FlagWord
flag_shown f = record { setting = f.setting; value = option_copied f.value }

abbrev pub flag_behind : Setting → List ℕ → Option FlagWord
flag_behind s [] = Some (record { setting = s; value = None })
flag_behind s (b ∷ rest) =
    option_map (λ value. record { setting = s; value = Some value }) (behind (codes "=") (b ∷ rest))

abbrev pub flag_for : Setting → List ℕ → Option FlagWord
flag_for s word = option_and_then (flag_behind s) (behind (setting_name s) word)

abbrev pub flag_in : List ℕ → Option FlagWord
flag_in word = option_or (option_or (option_or (option_or (option_or (flag_for settings.Form word)
    (flag_for settings.Coords word)) (flag_for settings.Digits word)) (flag_for settings.Blocks word))
    (flag_for settings.Workers word)) (flag_for settings.Feed word)

-- what the words so far say
pub record State : Type 0 where
  pub form : Option (List ℕ)
  pub coords : Option (List ℕ)
  pub digits : Option (List ℕ)
  pub blocks : Option (List ℕ)
  pub workers : Option (List ℕ)
  pub feed : Option (List ℕ)
  pub places : List (List ℕ)
  pub next : Next

abbrev pub places_shown : Places → List (List ℕ)
places_shown slots.Empty = []
places_shown (slots.Query query) = query.now ∷ []
places_shown (slots.One query first) = query.now ∷ first.now ∷ []
places_shown (slots.Two query first second) = query.now ∷ first.now ∷ second.now ∷ []

abbrev pub shown : Pieces → State
shown p = record {
  form = option_copied p.form;
  coords = option_copied p.coords;
  digits = option_copied p.digits;
  blocks = option_copied p.blocks;
  workers = option_copied p.workers;
  feed = option_copied p.feed;
  places = places_shown p.places;
  next = p.next;
}

abbrev pub start : State
start = record {
  form = None;
  coords = None;
  digits = None;
  blocks = None;
  workers = None;
  feed = None;
  places = [];
  next = nexts.Any;
}

abbrev pub value_at : State → Setting → Option (List ℕ)
value_at st settings.Form = st.form
value_at st settings.Coords = st.coords
value_at st settings.Digits = st.digits
value_at st settings.Blocks = st.blocks
value_at st settings.Workers = st.workers
value_at st settings.Feed = st.feed

abbrev pub set_value : Setting → List ℕ → State → State
set_value settings.Form value st = record st { form = Some value; next = nexts.Any }
set_value settings.Coords value st = record st { coords = Some value; next = nexts.Any }
set_value settings.Digits value st = record st { digits = Some value; next = nexts.Any }
set_value settings.Blocks value st = record st { blocks = Some value; next = nexts.Any }
set_value settings.Workers value st = record st { workers = Some value; next = nexts.Any }
set_value settings.Feed value st = record st { feed = Some value; next = nexts.Any }

-- the state, unless the option was given before
abbrev pub unless_given : Option (List ℕ) → State → Option State
unless_given None st = Some st
unless_given (Some value) st = None

abbrev pub with_value : Setting → List ℕ → State → Option State
with_value s value st = unless_given (value_at st s) (set_value s value st)

-- the positionals with one more, of which there are at most three
abbrev pub placed : List (List ℕ) → List ℕ → Option (List (List ℕ))
placed places word = if nat_lt (length places) 3 then Some (places ++ word ∷ []) else None

abbrev pub with_place : List ℕ → State → Option State
with_place word st = option_map (λ places. record st { places = places }) (placed st.places word)

-- a word that is an option
abbrev pub with_flag_value : State → Setting → Option (List ℕ) → Option State
with_flag_value st s None = Some (record st { next = nexts.Value s })
with_flag_value st s (Some value) = with_value s value st

abbrev pub with_flag : State → FlagWord → Option State
with_flag st f = with_flag_value st f.setting f.value

-- a word that is neither the end word nor, before that, an option's value
abbrev pub with_piece : List ℕ → State → Option State
with_piece word st =
    if begins_with (codes "-") word then
    (if bytes_eq word (codes "--") then Some (record st { next = nexts.Positional })
    else option_and_then (with_flag st) (flag_in word))
    else with_place word st

abbrev pub step_by : Next → List ℕ → State → Option State
step_by nexts.Any word st = with_piece word st
step_by (nexts.Value s) word st = with_value s word st
step_by nexts.Positional word st = with_place word st

abbrev pub step : State → List ℕ → Option State
step st word = step_by st.next word st

abbrev pub walk : State → List (List ℕ) → Option State
walk st [] = Some st
walk st (word ∷ words) = option_and_then (λ next. walk next words) (step st word)

-- the state, unless an option's value is still to come
abbrev pub unless_waiting : Next → State → Option State
unless_waiting nexts.Any st = Some st
unless_waiting (nexts.Value s) st = None
unless_waiting nexts.Positional st = Some st

abbrev pub gathered : List (List ℕ) → Option State
gathered words = option_and_then (λ st. unless_waiting st.next st) (walk start words)

abbrev pub given_in : State → Setting → List (List ℕ)
given_in st s = option_to_list (value_at st s)

-- The states of a reader of JSON texts, with what is open.
use Rattle.std.specs.Prelude.{ℕ, Bool, true, false, ◌&&◌, List, [], ◌∷◌}
use Rattle.at_nest.specs.NumberStates as num
use Rattle.at_lex.specs.StringStates as str

pub data Frame : Type 0 where
  in_array in_object : Frame

-- what is expected, over what is open
pub data State : Type 0 where
  value items members name colon after : List Frame → State
  in_number : num.State → List Frame → State
  in_string in_name : str.State → List Frame → State
  in_word : List ℕ → List Frame → State

abbrev pub is_nil : {X : Type 0} → List X → Bool
is_nil [] = true
is_nil (x ∷ xs) = false

abbrev pub accepts : State → Bool
accepts (after st) = is_nil st
accepts (in_number s st) = num.accepts s && is_nil st
accepts (in_string s st) = str.accepts s && is_nil st
accepts (in_word w st) = is_nil w && is_nil st
accepts _ = false

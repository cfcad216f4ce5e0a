-- What is asked of a file in chunks.
use Rattle.std.specs.Prelude.{◌≡◌, ℕ}
use Rattle.at_fixed.specs.declared.rounding.Coords.{Coords}
use Rattle.at_run.specs.Readers.{Asks}
use Rattle.at_run.specs.declared.forms.Form.{Form}

-- the file has the form, and its numbers are read so
pub record AsksSo (form : Form) (digits : ℕ) (how : Coords) (asks : Asks) : Type 0 where
  pub form_is : asks.form ≡ form
  pub digits_are : asks.digits ≡ digits
  pub how_is : asks.how ≡ how

-- What a reader asks of a file, and what the fragment of a piece stands for: in each form that of the form's own
-- reader.
use Rattle.std.specs.Prelude.{◌≡◌, ℕ, List}
use Rattle.at_fixed.specs.declared.rounding.Coords.{Coords}
use Rattle.at_wkt.specs.Folding.{OwnFold, StandsFor}
use Rattle.at_query.specs.declared.query.queries.Query.{Query}
use Rattle.at_query.specs.Keeping.{Asked as JsonAsked}
use Rattle.at_run.specs.declared.forms.Form.{Form}
use Rattle.at_run.specs.declared.forms.Form.TheVariants.{GeoJson, Wkt, Seq}
use Rattle.at_run.specs.declared.readers.FileFragment.{FileFragment}
use Rattle.at_run.specs.declared.readers.FileFragment.TheVariants.{Lines, Json, Unread}
use Rattle.at_run.specs.Gathering.{Asked, IsOwn, IsGathered}
use Rattle.at_run.specs.JsonFragments.{StandsForText}

-- the form of a file, a query, and how the file's numbers are read
pub record Asks : Type 0 where
  pub form : Form
  pub query : Query
  pub digits : ℕ
  pub how : Coords

abbrev pub of_lines : Asks → Asked
of_lines asks = record { query = asks.query; digits = asks.digits; how = asks.how }

abbrev pub of_json : Asks → JsonAsked
of_json asks = record { query = asks.query; digits = asks.digits; how = asks.how }

-- the fragment is of the reader's form, and stands for the bytes as one of that form does; of a sequence nothing is read
-- yet
abbrev pub StandsInForm : Asks → ℕ → List ℕ → FileFragment → Type 0
StandsInForm asks at bytes (Lines fragment) = (asks.form ≡ Wkt)
    × StandsFor (OwnFold (IsOwn (of_lines asks)) (IsGathered (of_lines asks))) at bytes fragment
StandsInForm asks at bytes (Json fragment) = (asks.form ≡ GeoJson) × StandsForText (of_json asks) at bytes fragment
StandsInForm asks at bytes Unread = asks.form ≡ Seq

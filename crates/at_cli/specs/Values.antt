-- The values of options, the names of files, and the forms that names say.
use Rattle.std.specs.Prelude.{◌≡◌, ◌⊎◌, ℕ, ◌≤◌, ◌||◌, nat_eq, if◌then◌else◌, codes, decimal, List, ◌++◌}
use Rattle.std.specs.List.{ends_with}
use Rattle.at_fixed.specs.declared.rounding.Coords.{Coords}
use Rattle.at_fixed.specs.declared.rounding.Coords.TheVariants.{Exact, Round}
use Rattle.at_cli.specs.Words.{begins_with}
use Rattle.at_run.specs.declared.forms.Form.{Form}
use Rattle.at_run.specs.declared.forms.Form.TheVariants.{GeoJson, Wkt, Seq}

abbrev pub form_text : Form → List ℕ
form_text GeoJson = codes "geojson"
form_text Wkt = codes "wkt"
form_text Seq = codes "seq"

abbrev pub coords_text : Coords → List ℕ
coords_text Exact = codes "exact"
coords_text Round = codes "round"

-- the decimal digits of a coordinate
abbrev pub SpellsDigits : List ℕ → ℕ → Type 0
SpellsDigits text digits = ((text ≡ codes "7") × (digits ≡ 7)) ⊎ ((text ≡ codes "9") × (digits ≡ 9))

-- the text is that number from low to high in decimal digits, which has no sign and no leading zero
pub record IsWhole (low high : ℕ) (text : List ℕ) (number : ℕ) : Type 0 where
  pub least : low ≤ number
  pub most : number ≤ high
  pub written : text ≡ decimal number

-- the name is a made file's, and goes on with that text
abbrev pub GoesOn : List ℕ → List ℕ → Type 0
GoesOn name text = (name ≡ codes "@g:" ++ text) ⊎ (name ≡ codes "@w:" ++ text)

-- a name that begins as a made file's goes on with a count up to a million
abbrev pub IsFileName : List ℕ → Type 0
IsFileName name = (text : List ℕ) → GoesOn name text → (count : ℕ) × IsWhole 0 1000000 text count

-- the form of a file whose form isn't said, which is never a sequence
abbrev pub form_by_name : List ℕ → Form
form_by_name name = if ends_with nat_eq name (codes ".wkt") || begins_with (codes "@w:") name then Wkt else GeoJson

-- The made files, whose names begin with `@g:` and `@w:`: squares of one unit in rows of 360.
use Rattle.std.specs.Prelude.{◌≡◌, ◌⊎◌, ℕ, ◌+◌, ◌/◌, ◌%◌, ◌≤◌, Bool, ◌||◌, nat_eq, if◌then◌else◌, codes, decimal, List}
use Rattle.std.specs.Prelude.{[], ◌∷◌, ◌++◌, flat_map}
use Rattle.std.specs.List.{range_with_len}
use Rattle.at_cli.specs.Words.{begins_with}

-- texts, one behind another
abbrev pub texts : List (List ℕ) → List ℕ
texts parts = flat_map (λ (part : List ℕ). part) parts

abbrev pub column : ℕ → ℕ
column i = i % 360

abbrev pub row : ℕ → ℕ
row i = i / 360

-- a line for the square between these columns and rows: its corners from the lower left one, counterclockwise, and that
-- one again
abbrev pub line_by : List ℕ → List ℕ → List ℕ → List ℕ → List ℕ
line_by c d r s = texts (codes "POLYGON ((" ∷ c ∷ codes " " ∷ r ∷ codes "," ∷ d ∷ codes " " ∷ r ∷ codes "," ∷ d
    ∷ codes " " ∷ s ∷ codes "," ∷ c ∷ codes " " ∷ s
    ∷ codes "," ∷ c ∷ codes " " ∷ r ∷ codes "))\n" ∷ [])

-- the line of square i
abbrev pub wkt_line : ℕ → List ℕ
wkt_line i = line_by (decimal (column i)) (decimal (column i + 1)) (decimal (row i)) (decimal (row i + 1))

-- a feature with that number for the same square, half a unit to the right
abbrev pub feature_by : List ℕ → List ℕ → List ℕ → List ℕ → List ℕ → List ℕ
feature_by i c d r s = texts (codes "{\"type\":\"Feature\",\"properties\":{\"name\":\"g" ∷ i
    ∷ codes "\"},\"geometry\":{\"type\":\"Polygon\",\"coordinates\":[[["
    ∷ c ∷ codes ".5," ∷ r ∷ codes "],[" ∷ d ∷ codes ".5," ∷ r ∷ codes "],[" ∷ d ∷ codes ".5," ∷ s ∷ codes "],[" ∷ c
    ∷ codes ".5," ∷ s
    ∷ codes "],[" ∷ c ∷ codes ".5," ∷ r ∷ codes "]]]}}" ∷ [])

-- a comma before each feature but the first, and each on a line of its own
abbrev pub before_feature : ℕ → List ℕ
before_feature i = if nat_eq i 0 then codes "\n" else codes ",\n"

abbrev pub feature_line : ℕ → List ℕ
feature_line i = before_feature i ++ feature_by (decimal i) (decimal (column i)) (decimal (column i + 1))
    (decimal (row i)) (decimal (row i + 1))

-- the first squares, so many
abbrev pub wkt_text : ℕ → List ℕ
wkt_text count = flat_map wkt_line (range_with_len 0 count)

abbrev pub geojson_text : ℕ → List ℕ
geojson_text count = texts (codes "{\"type\":\"FeatureCollection\",\"features\":["
    ∷ flat_map feature_line (range_with_len 0 count) ∷ codes "\n]}\n" ∷ [])

-- the name is a made file's
abbrev pub is_made : List ℕ → Bool
is_made name = begins_with (codes "@g:") name || begins_with (codes "@w:") name

-- the name is that of the made file with this text, of at most a million squares
abbrev pub IsMadeText : List ℕ → List ℕ → Type 0
IsMadeText name text = (count : ℕ) × (count ≤ 1000000)
    × (((name ≡ codes "@g:" ++ decimal count) × (text ≡ geojson_text count))
    ⊎ ((name ≡ codes "@w:" ++ decimal count) × (text ≡ wkt_text count)))

-- Lines of Well-Known Text that may begin with a label, and the text that a label is of its feature (docs/FORMATS.md,
-- "Labels").
use Rattle.std.specs.Prelude.{ℕ, List, [], ◌∷◌, codes, Option, Some, None}
use Rattle.at_text.specs.Parts.{Many, ◌▸◌}
use Rattle.at_lex.specs.Strings.{Character, SpellsString, units_of}
use Rattle.at_wkt.specs.Geometry.{Geometry, is_blank, IsLineOf}
use Rattle.at_query.specs.declared.features.TextPair.{TextPair}

-- blanks, a geometry and blanks; or blanks, a label, which is a JSON string, and such a text behind it
abbrev pub SpellsLabelled : Option (List Character) → Geometry → ℕ → List ℕ → Type 0
SpellsLabelled None g at w = IsLineOf at w g
SpellsLabelled (Some label) g at w = (Many is_blank ▸ SpellsString label ▸ (λ i v. IsLineOf i v g)) at w

-- the bytes, which begin at the offset, spell some line
abbrev pub LabelledLine : ℕ → List ℕ → Type 0
LabelledLine at w = (label : Option (List Character)) × (g : Geometry) × SpellsLabelled label g at w

-- the units of the name that a label has among the texts of its feature
abbrev pub label_name : List ℕ
label_name = codes "label"

-- the one text of a feature that has a label, and none of one that has no label
abbrev pub texts_of : Option (List Character) → List TextPair
texts_of None = []
texts_of (Some label) = record { name = label_name; value = units_of label } ∷ []

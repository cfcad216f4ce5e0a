-- What the fragment of a piece of a file of GeoJSON stands for.
use Rattle.std.specs.Prelude.{ℕ, List}
use Rattle.at_nest.specs.FragmentMeanings.{StandsFor}
use Rattle.at_query.specs.Keeping.{Asked}
use Rattle.at_geojson.specs.Atoms.{IsGeoAtom}
use Rattle.at_run.specs.declared.json_fragments.JsonFragment.{JsonFragment}
use Rattle.at_blocks.specs.Encodings.{IsValidIn}

-- what is read of the text stands for the bytes, and the span of them that is said to be UTF-8 is
abbrev pub StandsForText : Asked → ℕ → List ℕ → JsonFragment → Type 0
StandsForText asked at bytes fragment =
    StandsFor (IsGeoAtom asked) at bytes fragment.text
    × IsValidIn at bytes fragment.valid

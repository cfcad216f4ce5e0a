-- The features of a file of Well-Known Text lines: each line that is not blank is one, with its label as its one text.
use Rattle.std.specs.Prelude.{◌≡◌, ℕ, List, [], ◌∷◌, Option}
use Rattle.at_fixed.specs.declared.rounding.Coords.{Coords}
use Rattle.at_lex.specs.Strings.{Character}
use Rattle.at_wkt.specs.Geometry.{Geometry}
use Rattle.at_wkt.specs.Meaning.{shape_of}
use Rattle.at_wkt.specs.Lines.{FileLine, lines_of}
use Rattle.at_query.specs.declared.features.Feature.{Feature}
use Rattle.at_run.specs.Labels.{SpellsLabelled, texts_of}

module _ (digits : ℕ) (how : Coords) where
  -- the feature of a line lies at the line's offset, has the shape of its geometry, and its label, where it has one, as
  -- its text
  pub record IsLineFeature (line : FileLine) (feature : Feature) : Type 0 where
    pub label : Option (List Character)
    pub geometry : Geometry
    pub spelled : SpellsLabelled label geometry line.at line.text
    pub at : feature.at ≡ line.at
    pub shape : feature.shape ≡ shape_of digits how geometry
    pub texts : feature.texts ≡ texts_of label

  abbrev pub AreLineFeatures : List FileLine → List Feature → Type 0
  AreLineFeatures [] features = features ≡ []
  AreLineFeatures (line ∷ lines) features =
      (feature : Feature) × (rest : List Feature) × (features ≡ feature ∷ rest) × IsLineFeature line feature
      × AreLineFeatures lines rest

  abbrev pub AreFileFeatures : List ℕ → List Feature → Type 0
  AreFileFeatures bytes features = AreLineFeatures (lines_of bytes) features

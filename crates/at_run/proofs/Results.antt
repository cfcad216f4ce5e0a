-- The answer that is made of the part of a file is the exact answer over the file's features.
-- For `answer`.
use Rattle.std.proofs.Common.{ℕ, ◌^◌, ◌≤◌, List, length, sym, subst}
use Rattle.at_fixed.specs.declared.rounding.Coords.{Coords}
use Rattle.at_query.specs.declared.query.queries.Query.{Query}
use Rattle.at_query.specs.declared.features.Feature.{Feature}
use Rattle.at_query.specs.declared.answer.parts.Part.{Part}
use Rattle.at_query.specs.declared.answer.answers.Answer.{Answer}
use Rattle.at_wkt.specs.Lines.{lines_of}
use Rattle.at_query.specs.Ranges.{AreFeaturesInRange}
use Rattle.at_query.specs.Results.{IsResult}
use Rattle.at_query.specs.Parts.{IsPart, AreFew}
use Rattle.at_geojson.specs.Roles.{features_of}
use Rattle.at_run.specs.declared.forms.Form.{Form}
use Rattle.at_run.specs.declared.forms.Form.TheVariants.{GeoJson, Wkt, Seq}
use Rattle.at_run.specs.Files.{AreFileFeaturesIn}
use Rattle.at_run.specs.Answers.{IsFilePart, IsFileAnswer}
use Rattle.at_run.proofs.FileSizes.{file_features_few, features_in_range as lines_in_range}
use Rattle.at_query.proofs.ShapeSizes.{few_of_size}
use Rattle.at_seq.proofs.JsonSizes.{json_features_size}
use Rattle.at_seq.proofs.SequenceSizes.{seq_features_few, seq_features_in_range}
use Rattle.at_seq.proofs.JsonFeatures.{json_features_in_range}

module _ (digits : ℕ) (how : Coords) (bytes : List ℕ) (fs : List Feature) where
  -- a file has few features
  pub features_few : (form : Form) → length bytes ≤ 2 ^ 28 → AreFileFeaturesIn form digits how bytes fs → AreFew fs
  features_few Wkt short are = file_features_few digits how bytes fs short are
  features_few Seq short are = seq_features_few digits how bytes fs short are
  features_few GeoJson short (t, is, same) = subst AreFew (sym same) (few_of_size (features_of digits how t) (length bytes) (json_features_size digits how bytes t is) short)

  pub features_in_range : (form : Form) → AreFileFeaturesIn form digits how bytes fs → AreFeaturesInRange fs
  features_in_range Wkt are = lines_in_range digits how (lines_of bytes) fs are
  features_in_range Seq are = seq_features_in_range digits how bytes fs are
  features_in_range GeoJson (t, is, same) = subst AreFeaturesInRange (sym same) (json_features_in_range digits how t)

module _ (form : Form) (digits : ℕ) (how : Coords) (query : Query) (bytes : List ℕ) (part : Part) (h : IsFilePart form digits how query bytes part) where
  -- what `answer_of` ensures of its answer, over the features of the file
  pub file_result : (answer : Answer) → length bytes ≤ 2 ^ 28 → ((query : Query) (fs : List Feature) → IsPart query fs part → AreFeaturesInRange fs → AreFew fs → IsResult query fs answer)
      → IsFileAnswer form digits how query bytes answer
  file_result answer short exact = record {
    faultless = h.faultless;
    features = h.features;
    are_features = h.are_features;
    is_result = exact query h.features h.is_part (features_in_range digits how bytes h.features form h.are_features) (features_few digits how bytes h.features form short h.are_features);
  }

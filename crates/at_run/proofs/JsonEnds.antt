-- What a file of GeoJSON ends in, from what its text and its tree end in.
-- For `answer`, `answer_join`, `finish_json`, `finish_pieces` and `part`.
use Rattle.std.proofs.Common.{◌≡◌, ℕ, ◌+◌, List, ◌∷◌, [], length, drop, Some, None, Result, Ok, Err, MatchResult, inl, inr, refl, sym, ap, arith, length-drop}
use Rattle.at_text.specs.Faults.{fault_at, first_of}
use Rattle.at_text.specs.Texts.{base_of, utf8_fault}
use Rattle.at_text.specs.declared.faults.FaultKind.TheVariants as kinds
use Rattle.at_nest.specs.Tree.{Tree}
use Rattle.at_nest.specs.TextAnswers.{Answers, IsEnd}
use Rattle.at_nest.specs.declared.finishing.NestEnd.{NestEnd}
use Rattle.at_nest.specs.declared.finishing.NestEnd.TheVariants as texts
use Rattle.at_query.specs.declared.answer.parts.Part.{Part}
use Rattle.at_query.specs.Keeping.{Asked}
use Rattle.at_wkt.proofs.LineMerges.{base_within}
use Rattle.at_geojson.specs.declared.atoms.atom.GeoAtom.{GeoAtom}
use Rattle.at_text.specs.declared.refusals.Refusal.{Refusal}
use Rattle.at_geojson.specs.Atoms.{IsFold, IsGeoAtom}
use Rattle.at_geojson.specs.Roles.{features_of}
use Rattle.at_geojson.specs.Wholes.{faults_of, IsAnswer}
use Rattle.at_text.specs.declared.refusals.Refusal.TheVariants.{Found, Memory}
use Rattle.at_run.specs.declared.forms.Form.TheVariants.{GeoJson}
use Rattle.at_text.specs.Refusals.{IfFound}
use Rattle.at_run.specs.Answers.{IsFilePart}
use Rattle.at_run.specs.JsonFiles.{HasJsonFileFault, EndsJson, text_end}

module _ (asked : Asked) (bytes : List ℕ) where
  pub tree_answered : (atom : GeoAtom) (end : Result Part Refusal) → Answers (IsGeoAtom asked) (base_of bytes) (drop (base_of bytes) bytes) (Ok atom)
      → ((t : Tree) → IsFold asked atom t → IsAnswer asked t end) → EndsJson asked.digits asked.how asked.query bytes end
  tree_answered atom (Ok part) (t, (is, only), (own, fold)) h = let (none, part_is) = h t fold in (t, is, none, part_is)
  tree_answered atom (Err (Found fault)) (t, (is, only), (own, fold)) h = (faults_of asked.digits asked.how t, inr (t, is, refl), sym (h t fold))
  tree_answered atom (Err Memory) a h = tt

  pub text_ended : (end : NestEnd) (len : ℕ) → len ≡ length bytes → IsEnd (base_of bytes) (drop (base_of bytes) bytes) end → EndsJson asked.digits asked.how asked.query bytes (Err (text_end len end))
  text_ended (texts.Syntax place) len same h = (fault_at kinds.Syntax place ∷ [], inl (fault_at kinds.Syntax place, h, refl), refl)
  text_ended texts.Ended len same h =
      let place : base_of bytes + length (drop (base_of bytes) bytes) ≡ len = omega (arith, base_within bytes, length-drop (base_of bytes) bytes, same) in
      (fault_at kinds.Ended len ∷ [], inl (fault_at kinds.Ended len, rw place at h, refl), refl)
  text_ended texts.Memory len same h = tt

  pub json_ended : (end : Result Part Refusal) → utf8_fault bytes ≡ None → EndsJson asked.digits asked.how asked.query bytes end
      → MatchResult end (IsFilePart GeoJson asked.digits asked.how asked.query bytes) (λ run. IfFound run (λ fault. HasJsonFileFault asked.digits asked.how bytes (Some fault)))
  json_ended (Ok part) valid (t, is, none, part_is) = record {
    faultless = rw valid (faults_of asked.digits asked.how t, inr (t, is, refl), sym (ap first_of none));
    features = features_of asked.digits asked.how t;
    are_features = (t, is, refl);
    is_part = part_is;
  }
  json_ended (Err (Found fault)) valid h = rw valid h
  json_ended (Err Memory) valid h = tt

-- A file has one list of features, one part and one answer to a query, and where it has one it has no fault: laws of the definitions, which no function's contract is needed for.
-- For `answer`.
use Rattle.std.proofs.Common.{◌≡◌, ℕ, inl, inr, List, [], ◌∷◌, drop, Option, Some, None, Result, Ok, Err, MatchResult, sym, ◌∙◌, ap, subst, arith}
use Rattle.std.proofs.lemmas.Option.{none-some}
use Rattle.at_text.specs.declared.faults.Fault.{Fault}
use Rattle.at_text.specs.Faults.{first_of}
use Rattle.at_text.specs.Texts.{base_of, utf8_fault}
use Rattle.at_fixed.specs.declared.rounding.Coords.{Coords}
use Rattle.at_wkt.specs.Lines.{FileLine, lines_of}
use Rattle.at_wkt.proofs.OneFile.{one_syntax_fault}
use Rattle.at_nest.specs.Syntax.{JsonText}
use Rattle.at_nest.proofs.OneTree.{one_tree}
use Rattle.at_query.specs.declared.query.queries.Query.{Query}
use Rattle.at_query.specs.declared.features.Feature.{Feature}
use Rattle.at_query.specs.declared.answer.parts.Part.{Part}
use Rattle.at_query.specs.declared.answer.answers.Answer.{Answer}
use Rattle.at_query.specs.Results.{IsResult, IsJoined}
use Rattle.at_query.specs.Parts.{IsPart}
use Rattle.at_query.proofs.OneAnswer.{one_result, one_part, one_join}
use Rattle.at_geojson.specs.Roles.{features_of}
use Rattle.at_geojson.specs.Wholes.{faults_of}
use Rattle.at_seq.proofs.OneSequence.{one_seq_fault, one_seq_features}
use Rattle.at_text.specs.declared.refusals.Refusal.{Refusal}
use Rattle.at_text.specs.declared.refusals.Refusal.TheVariants.{Found, Memory}
use Rattle.at_run.specs.declared.faults.JoinFault.{JoinFault}
use Rattle.at_run.specs.declared.faults.JoinFault.TheVariants as joins
use Rattle.at_run.specs.declared.forms.Form.{Form}
use Rattle.at_run.specs.declared.forms.Form.TheVariants.{GeoJson, Wkt, Seq}
use Rattle.at_run.specs.Features.{IsLineFeature, AreLineFeatures, AreFileFeatures}
use Rattle.at_wkt.specs.Meaning.{shape_of}
use Rattle.at_run.specs.Labels.{texts_of}
use Rattle.at_run.proofs.LabelledLines.{one_labelled}
use Rattle.at_run.proofs.FaultLists.{one_behind}
use Rattle.at_run.specs.JsonFiles.{HaveJsonFaults, HasJsonFaultBehind}
use Rattle.at_run.specs.Files.{HasFileFaultIn, TheFileFaultIn, AreJsonFeatures, AreFileFeaturesIn}
use Rattle.at_run.specs.Joins.{first_end}
use Rattle.at_text.specs.Refusals.{IfFound}
use Rattle.at_run.specs.Answers.{IsFilePart, IsFileAnswer, IsJoinAnswer, IsJoinFault, TheFilesFaults, IsTheJoinFault}

module _ (digits : ℕ) (how : Coords) where
  pub one_feature : (line : FileLine) (f g : Feature) → IsLineFeature digits how line f → IsLineFeature digits how line g → f ≡ g
  one_feature line f g h k =
      let at : f.at ≡ g.at = h.at ∙ sym k.at in
      let (label, geometry) = one_labelled line.at line.text h.label k.label h.geometry k.geometry h.spelled k.spelled in
      let shape : f.shape ≡ g.shape = h.shape ∙ (ap (shape_of digits how) geometry ∙ sym k.shape) in
      let texts : f.texts ≡ g.texts = h.texts ∙ (ap texts_of label ∙ sym k.texts) in
      ap (λ z. record { at = z; shape = f.shape; texts = f.texts }) at ∙ (ap (λ z. record { at = g.at; shape = z; texts = f.texts }) shape ∙ ap (λ z. record { at = g.at; shape = g.shape; texts = z }) texts)

  pub one_features : (lines : List FileLine) (fs gs : List Feature) → AreLineFeatures digits how lines fs → AreLineFeatures digits how lines gs → fs ≡ gs
  one_features [] fs gs h k = h ∙ sym k
  one_features (line ∷ lines) fs gs (f, more, e, h, hs) (g, others, i, k, ks) =
      e ∙ (ap (λ z. z ∷ more) (one_feature line f g h k) ∙ (ap (λ z. g ∷ z) (one_features lines more others hs ks) ∙ sym i))

  pub one_file_features : (bytes : List ℕ) (fs gs : List Feature) → AreFileFeatures digits how bytes fs → AreFileFeatures digits how bytes gs → fs ≡ gs
  one_file_features bytes fs gs h k = one_features (lines_of bytes) fs gs h k

  -- ---- a file of GeoJSON

  one_json_faults : (bytes : List ℕ) (fs gs : List Fault) → HaveJsonFaults digits how bytes fs → HaveJsonFaults digits how bytes gs → fs ≡ gs
  one_json_faults bytes fs gs (inl (f, p, e)) (inl (g, q, k)) = e ∙ (ap (λ z. z ∷ []) (one_syntax_fault (JsonText (base_of bytes)) (base_of bytes) (drop (base_of bytes) bytes) f g p q) ∙ sym k)
  one_json_faults bytes fs gs (inl (f, p, e)) (inr (t, q, k)) = absurd (p.no_word (t, q))
  one_json_faults bytes fs gs (inr (t, p, e)) (inl (f, q, k)) = absurd (q.no_word (t, p))
  one_json_faults bytes fs gs (inr (t, p, e)) (inr (u, q, k)) = e ∙ (ap (faults_of digits how) (sym (one_tree (base_of bytes) (drop (base_of bytes) bytes) t u p q)) ∙ sym k)

  one_json_behind : (encoding : Option Fault) (bytes : List ℕ) (f g : Option Fault) → HasJsonFaultBehind digits how encoding bytes f → HasJsonFaultBehind digits how encoding bytes g → f ≡ g
  one_json_behind (Some fault) bytes f g p q = p ∙ sym q
  one_json_behind None bytes f g (fs, p, e) (gs, q, k) = e ∙ (ap first_of (one_json_faults bytes fs gs p q) ∙ sym k)

  one_json_features : (bytes : List ℕ) (fs gs : List Feature) → AreJsonFeatures digits how bytes fs → AreJsonFeatures digits how bytes gs → fs ≡ gs
  one_json_features bytes fs gs (t, p, e) (u, q, k) = e ∙ (ap (features_of digits how) (sym (one_tree (base_of bytes) (drop (base_of bytes) bytes) t u p q)) ∙ sym k)

-- ---- a file of any form

-- at most one first fault, or none, and not both
pub one_file_fault_in : (form : Form) (digits : ℕ) (how : Coords) (bytes : List ℕ) (f g : Option Fault) → HasFileFaultIn form digits how bytes f → HasFileFaultIn form digits how bytes g → f ≡ g
one_file_fault_in Wkt digits how bytes f g h k = one_behind digits how (utf8_fault bytes) bytes f g h k
one_file_fault_in Seq digits how bytes f g h k = one_seq_fault digits how bytes f g h k
one_file_fault_in GeoJson digits how bytes f g h k = one_json_behind digits how (utf8_fault bytes) bytes f g h k

pub one_file_features_in : (form : Form) (digits : ℕ) (how : Coords) (bytes : List ℕ) (fs gs : List Feature) → AreFileFeaturesIn form digits how bytes fs → AreFileFeaturesIn form digits how bytes gs → fs ≡ gs
one_file_features_in Wkt digits how bytes fs gs h k = one_file_features digits how bytes fs gs h k
one_file_features_in Seq digits how bytes fs gs h k = one_seq_features digits how bytes fs gs h k
one_file_features_in GeoJson digits how bytes fs gs h k = one_json_features digits how bytes fs gs h k

module _ (form : Form) (digits : ℕ) (how : Coords) where
  -- so the first fault of a file is the only one
  pub the_file_fault_in : (bytes : List ℕ) (f : Option Fault) → HasFileFaultIn form digits how bytes f → TheFileFaultIn form digits how bytes f
  the_file_fault_in bytes f p other q = one_file_fault_in form digits how bytes other f q p

  -- the fault that is found is the only first one
  pub found_only : (bytes : List ℕ) (end : Refusal) → IfFound end (λ fault. HasFileFaultIn form digits how bytes (Some fault)) → IfFound end (λ fault. TheFileFaultIn form digits how bytes (Some fault))
  found_only bytes (Found fault) h = the_file_fault_in bytes (Some fault) h
  found_only bytes Memory h = tt

  module _ (query : Query) (bytes : List ℕ) where
    pub one_file_part : (a b : Part) → IsFilePart form digits how query bytes a → IsFilePart form digits how query bytes b → a ≡ b
    one_file_part a b h k =
        let same : h.features ≡ k.features = one_file_features_in form digits how bytes h.features k.features h.are_features k.are_features in
        one_part query k.features a b (subst (λ fs. IsPart query fs a) same h.is_part) k.is_part

    -- a file has one answer to a query
    pub one_file_answer : (a b : Answer) → IsFileAnswer form digits how query bytes a → IsFileAnswer form digits how query bytes b → a ≡ b
    one_file_answer a b h k =
        let same : h.features ≡ k.features = one_file_features_in form digits how bytes h.features k.features h.are_features k.are_features in
        one_result query k.features a b (subst (λ fs. IsResult query fs a) same h.is_result) k.is_result

    -- an answer, or a fault
    pub answer_or_fault : (a : Answer) (f : Fault) → IsFileAnswer form digits how query bytes a → HasFileFaultIn form digits how bytes (Some f) → ⊥
    answer_or_fault a f h k = none-some f (one_file_fault_in form digits how bytes None (Some f) h.faultless k)

-- two files have one join, or a fault
module _ (form_a form_b : Form) (digits : ℕ) (how : Coords) (query : Query) (first second : List ℕ) where
  pub one_join_answer : (a b : Answer) → IsJoinAnswer form_a form_b digits how query first second a → IsJoinAnswer form_a form_b digits how query first second b → a ≡ b
  one_join_answer a b h k =
      let one : h.first ≡ k.first = one_file_features_in form_a digits how first h.first k.first h.are_first k.are_first in
      let other : h.second ≡ k.second = one_file_features_in form_b digits how second h.second k.second h.are_second k.are_second in
      one_join query k.first k.second a b (subst (λ gs. IsJoined query k.first gs a) other (subst (λ fs. IsJoined query fs h.second a) one h.is_joined)) k.is_joined

  pub join_or_first_fault : (a : Answer) (f : Fault) → IsJoinAnswer form_a form_b digits how query first second a → HasFileFaultIn form_a digits how first (Some f) → ⊥
  join_or_first_fault a f h k = none-some f (one_file_fault_in form_a digits how first None (Some f) h.first_faultless k)

  pub join_or_second_fault : (a : Answer) (f : Fault) → IsJoinAnswer form_a form_b digits how query first second a → HasFileFaultIn form_b digits how second (Some f) → ⊥
  join_or_second_fault a f h k = none-some f (one_file_fault_in form_b digits how second None (Some f) h.second_faultless k)

  -- and what a join answers is all that can be said of the files' first faults
  pub only_join_fault : (r : Result Answer JoinFault) → MatchResult r (IsJoinAnswer form_a form_b digits how query first second) (IsJoinFault form_a form_b digits how first second)
      → MatchResult r (λ _. TheFilesFaults form_a form_b digits how first second None None) (IsTheJoinFault form_a form_b digits how first second)
  only_join_fault (Ok answer) h = (the_file_fault_in form_a digits how first None h.first_faultless, the_file_fault_in form_b digits how second None h.second_faultless)
  only_join_fault (Err (joins.First fault)) h = the_file_fault_in form_a digits how first (Some fault) h
  only_join_fault (Err (joins.Second fault)) h = (the_file_fault_in form_a digits how first None h.0, the_file_fault_in form_b digits how second (Some fault) h.1)
  only_join_fault (Err joins.Memory) h = tt

  -- where the first file's fault is why there is no join, no other one is its first
  pub only_first_fault : (end : Refusal) (fault : JoinFault) → fault ≡ first_end end → IfFound end (λ f. HasFileFaultIn form_a digits how first (Some f)) → IsTheJoinFault form_a form_b digits how first second fault
  only_first_fault (Found f) fault e h = rw e (the_file_fault_in form_a digits how first (Some f) h)
  only_first_fault Memory fault e h = rw e tt

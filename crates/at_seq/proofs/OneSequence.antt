-- A sequence has one first fault, or none, and one list of features.
-- For `part_seq`.
use Rattle.std.proofs.Common.{◌≡◌, ℕ, inl, inr, List, [], ◌∷◌, ◌++◌, Option, Some, None, Result, Ok, Err, MatchResult, sym, ◌∙◌, ap}
use Rattle.at_text.specs.declared.faults.Fault.{Fault}
use Rattle.at_text.specs.Faults.{first_of}
use Rattle.at_text.specs.Texts.{utf8_fault}
use Rattle.at_fixed.specs.declared.rounding.Coords.{Coords}
use Rattle.at_wkt.proofs.OneFile.{one_syntax_fault}
use Rattle.at_nest.specs.Syntax.{JsonText}
use Rattle.at_nest.proofs.OneTree.{one_tree}
use Rattle.at_query.specs.declared.features.Feature.{Feature}
use Rattle.at_query.specs.declared.answer.parts.Part.{Part}
use Rattle.at_query.specs.Keeping.{Asked}
use Rattle.at_geojson.specs.Roles.{features_of}
use Rattle.at_geojson.specs.Wholes.{faults_of}
use Rattle.at_text.specs.declared.refusals.Refusal.{Refusal}
use Rattle.at_text.specs.declared.refusals.Refusal.TheVariants.{Found, Memory}
use Rattle.at_text.specs.Separated.{Piece}
use Rattle.at_seq.specs.Records.{pieces_of, records_of}
use Rattle.at_seq.specs.Sequences.{head_faults, HasRecordFaults, HaveRecordFaults, HasSeqFaultBehind, HasSeqFault, TheSeqFault, AreRecordFeatures, AreSeqFeatures}
use Rattle.at_text.specs.Refusals.{IfFound}
use Rattle.at_seq.specs.Answers.{IsSeqPart}

module _ (digits : ℕ) (how : Coords) where
  one_record_faults : (r : Piece) (fs gs : List Fault) → HasRecordFaults digits how r fs → HasRecordFaults digits how r gs → fs ≡ gs
  one_record_faults r fs gs (inl (f, p, e)) (inl (g, q, k)) = e ∙ (ap (λ z. z ∷ []) (one_syntax_fault (JsonText r.at) r.at r.text f g p q) ∙ sym k)
  one_record_faults r fs gs (inl (f, p, e)) (inr (t, q, k)) = absurd (p.no_word (t, q))
  one_record_faults r fs gs (inr (t, p, e)) (inl (f, q, k)) = absurd (q.no_word (t, p))
  one_record_faults r fs gs (inr (t, p, e)) (inr (u, q, k)) = e ∙ (ap (faults_of digits how) (sym (one_tree r.at r.text t u p q)) ∙ sym k)

  one_faults : (rs : List Piece) (fs gs : List Fault) → HaveRecordFaults digits how rs fs → HaveRecordFaults digits how rs gs → fs ≡ gs
  one_faults [] fs gs p q = p ∙ sym q
  one_faults (r ∷ rs) fs gs (f, more, p, ps, e) (g, others, q, qs, k) = e ∙ (ap (λ z. z ++ more) (one_record_faults r f g p q) ∙ (ap (λ z. g ++ z) (one_faults rs more others ps qs) ∙ sym k))

  one_behind : (encoding : Option Fault) (bytes : List ℕ) (f g : Option Fault) → HasSeqFaultBehind digits how encoding bytes f → HasSeqFaultBehind digits how encoding bytes g → f ≡ g
  one_behind (Some fault) bytes f g p q = p ∙ sym q
  one_behind None bytes f g (fs, p, e) (gs, q, k) = e ∙ (ap (λ z. first_of (head_faults (pieces_of bytes) ++ z)) (one_faults (records_of bytes) fs gs p q) ∙ sym k)

  -- at most one first fault, or none, and not both
  pub one_seq_fault : (bytes : List ℕ) (f g : Option Fault) → HasSeqFault digits how bytes f → HasSeqFault digits how bytes g → f ≡ g
  one_seq_fault bytes f g p q = one_behind (utf8_fault bytes) bytes f g p q

  pub the_seq_fault : (bytes : List ℕ) (f : Option Fault) → HasSeqFault digits how bytes f → TheSeqFault digits how bytes f
  the_seq_fault bytes f p other q = one_seq_fault bytes other f q p

  -- the fault that is found is the only first one
  pub found_only : (bytes : List ℕ) (end : Refusal) → IfFound end (λ fault. HasSeqFault digits how bytes (Some fault)) → IfFound end (λ fault. TheSeqFault digits how bytes (Some fault))
  found_only bytes (Found fault) h = the_seq_fault bytes (Some fault) h
  found_only bytes Memory h = tt

  one_features : (rs : List Piece) (fs gs : List Feature) → AreRecordFeatures digits how rs fs → AreRecordFeatures digits how rs gs → fs ≡ gs
  one_features [] fs gs p q = p ∙ sym q
  one_features (r ∷ rs) fs gs (t, more, p, ps, e) (u, others, q, qs, k) =
      e ∙ (ap (λ z. features_of digits how z ++ more) (sym (one_tree r.at r.text t u p q)) ∙ (ap (λ z. features_of digits how u ++ z) (one_features rs more others ps qs) ∙ sym k))

  -- and one list of features
  pub one_seq_features : (bytes : List ℕ) (fs gs : List Feature) → AreSeqFeatures digits how bytes fs → AreSeqFeatures digits how bytes gs → fs ≡ gs
  one_seq_features bytes fs gs p q = one_features (records_of bytes) fs gs p q

-- what a whole sequence ends in tells the only first fault
pub only_end : (asked : Asked) (bytes : List ℕ) (end : Result Part Refusal) → MatchResult end (IsSeqPart asked.digits asked.how asked.query bytes) (λ e. IfFound e (λ fault. HasSeqFault asked.digits asked.how bytes (Some fault)))
    → MatchResult end (λ part. TheSeqFault asked.digits asked.how bytes None) (λ e. IfFound e (λ fault. TheSeqFault asked.digits asked.how bytes (Some fault)))
only_end asked bytes (Ok part) h = the_seq_fault asked.digits asked.how bytes None h.faultless
only_end asked bytes (Err end) h = found_only asked.digits asked.how bytes end h

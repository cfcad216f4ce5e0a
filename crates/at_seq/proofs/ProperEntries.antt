-- The features of a sequence without a fault are proper: rings are closed, coordinates are in range, and offsets rise. So the entries of a join can be joined.
-- For `part_seq`.
use Rattle.std.proofs.Common.{◌≡◌, ℕ, ◌+◌, ◌≤◌, inl, inr, Bool, true, false, List, [], ◌∷◌, ◌++◌, length, map, drop, Option, Some, None, Result, Ok, Err, MatchResult, IfOk, refl, sym, ap, ◌∙◌, subst, arith}
use Rattle.std.specs.List.{AllByRecursion, slice_split}
use Rattle.std.proofs.lemmas.Option.{none-some}
use Rattle.std.proofs.lemmas.List.{map-append}
use Rattle.std.proofs.ByRecursion.{All-append}
use Rattle.at_text.specs.declared.faults.Fault.{Fault}
use Rattle.at_text.specs.Texts.{base_of, utf8_fault}
use Rattle.at_fixed.specs.declared.rounding.Coords.{Coords}
use Rattle.at_nest.specs.Tree.{Tree, IsTextOf}
use Rattle.at_nest.proofs.OneTree.{one_tree}
use Rattle.at_query.specs.declared.query.queries.Verb.{Verb}
use Rattle.at_query.specs.declared.query.queries.Verb.TheVariants as verbs
use Rattle.at_query.specs.declared.query.queries.Query.{Query}
use Rattle.at_query.specs.declared.features.Feature.{Feature}
use Rattle.at_query.specs.declared.answer.parts.Entry.{Entry}
use Rattle.at_query.specs.declared.answer.parts.Part.{Part}
use Rattle.at_query.specs.declared.answer.parts.Part.TheVariants.{Count, Area, Entries, Hull}
use Rattle.at_query.specs.Parts.{IsKeptOf, IsProperFeature, AreProperFeatures}
use Rattle.at_query.specs.Keeping.{Asked}
use Rattle.at_query.proofs.ProperEntries.{entries_are_proper}
use Rattle.at_geojson.specs.Roles.{features_of}
use Rattle.at_geojson.specs.Wholes.{faults_of}
use Rattle.at_query.proofs.ProperShapes.{empties, not_empty, no_first, at_of}
use Rattle.at_seq.proofs.JsonFeatures.{Climbs, climbs_rise, climbs_wider, climbs_on, text_climbs, text_features_proper}
use Rattle.at_text.specs.Separated.{Piece, placed}
use Rattle.at_seq.specs.Records.{are_spaces, is_separator, pieces_of, records_in}
use Rattle.at_seq.proofs.PieceRecords.{records_in-append, no_record, one_record}
use Rattle.at_seq.specs.Sequences.{head_faults, HasRecordFaults, HaveRecordFaults, HasSeqFaultBehind, HasSeqFault, AreRecordFeatures, AreSeqFeatures}
use Rattle.at_text.specs.declared.refusals.Refusal.{Refusal}
use Rattle.at_text.specs.Refusals.{IfFound}
use Rattle.at_seq.specs.Answers.{IsSeqPart, HasProperEntries}

module _ (digits : ℕ) (how : Coords) where
  -- a record without faults spells a tree without faults
  record_none : (r : Piece) (faults : List Fault) (t : Tree) → HasRecordFaults digits how r faults → faults ≡ [] → IsTextOf r.at r.text t → faults_of digits how t ≡ []
  record_none r faults t (inl (fault, h, e)) none is = absurd (not_empty fault [] (sym e ∙ none))
  record_none r faults t (inr (u, also, e)) none is = ap (faults_of digits how) (sym (one_tree r.at r.text t u is also)) ∙ (sym e ∙ none)

  -- the features of records are proper, one by one
  records_proper : (rs : List Piece) (faults : List Fault) (fs : List Feature) → HaveRecordFaults digits how rs faults → faults ≡ [] → AreRecordFeatures digits how rs fs → AllByRecursion IsProperFeature fs
  records_proper [] faults fs h none e = subst (AllByRecursion IsProperFeature) (sym e) tt
  records_proper (r ∷ rs) faults fs (first, more, hf, hs, e) none (t, others, is, are, k) =
      let (a, b) = empties first more (sym e ∙ none) in
      subst (AllByRecursion IsProperFeature) (sym k) (All-append IsProperFeature (features_of digits how t) others (text_features_proper digits how t (record_none r first t hf a is)) (records_proper rs more others hs b are))

  -- where the pieces end
  abbrev end_of : ℕ → List (List ℕ) → ℕ
  end_of at [] = at
  end_of at (text ∷ rest) = end_of (at + length text + 1) rest

  end_behind : (at : ℕ) (texts : List (List ℕ)) → at ≤ end_of at texts
  end_behind at [] = omega arith
  end_behind at (text ∷ rest) = let h = end_behind (at + length text + 1) rest in omega (arith, h)

  abbrev Faultless : List Piece → Type 0
  Faultless rs = (faults : List Fault) × HaveRecordFaults digits how rs faults × (faults ≡ [])

  abbrev Rises : ℕ → List (List ℕ) → List Feature → Type 0
  Rises at texts fs = Climbs at (end_of at texts) (map at_of fs)

  rise_more : (at : ℕ) (text : List ℕ) (rest : List (List ℕ)) (fs : List Feature)
      → ((gs : List Feature) → Faultless (records_in (placed (at + length text + 1) rest)) → AreRecordFeatures digits how (records_in (placed (at + length text + 1) rest)) gs → Rises (at + length text + 1) rest gs)
      → Faultless (record { at = at; text = text } ∷ records_in (placed (at + length text + 1) rest)) → AreRecordFeatures digits how (record { at = at; text = text } ∷ records_in (placed (at + length text + 1) rest)) fs → Rises at (text ∷ rest) fs
  rise_more at text rest fs further (faults, (first, others, hf, hs, k), empty) (t, gs, is, also, same) =
      let (a, b) = empties first others (sym k ∙ empty) in
      let high = end_of (at + length text + 1) rest in
      let low = end_behind (at + length text + 1) rest in
      let here = text_climbs digits how t at text is (record_none (record { at = at; text = text }) first t hf a is) in
      let behind = further gs (others, hs, b) also in
      subst (λ z. Climbs at high (map at_of z)) (sym same)
      (subst (Climbs at high) (sym (map-append at_of (features_of digits how t) gs)) (climbs_on at (at + length text) high (map at_of (features_of digits how t)) (map at_of gs) (omega arith) (omega (arith, low)) here behind))

  rise_step : (at : ℕ) (text : List ℕ) (rest : List (List ℕ)) (fs : List Feature) (test : Bool) → are_spaces text ≡ test
      → ((gs : List Feature) → Faultless (records_in (placed (at + length text + 1) rest)) → AreRecordFeatures digits how (records_in (placed (at + length text + 1) rest)) gs → Rises (at + length text + 1) rest gs)
      → Faultless (records_in (placed at (text ∷ rest))) → AreRecordFeatures digits how (records_in (placed at (text ∷ rest))) fs → Rises at (text ∷ rest) fs
  rise_step at text rest fs true e further none are =
      let p : Piece = record { at = at; text = text } in
      let behind : List Piece = placed (at + length text + 1) rest in
      let same : records_in (p ∷ behind) ≡ records_in behind = records_in-append (p ∷ []) behind ∙ ap (λ z. z ++ records_in behind) (no_record p e) in
      climbs_wider (at + length text + 1) (end_of (at + length text + 1) rest) at (end_of (at + length text + 1) rest) (map at_of fs) (omega arith) (omega arith)
      (further fs (subst Faultless same none) (subst (λ z. AreRecordFeatures digits how z fs) same are))
  rise_step at text rest fs false e further none are =
      let p : Piece = record { at = at; text = text } in
      let behind : List Piece = placed (at + length text + 1) rest in
      let same : records_in (p ∷ behind) ≡ p ∷ records_in behind = records_in-append (p ∷ []) behind ∙ ap (λ z. z ++ records_in behind) (one_record p e) in
      rise_more at text rest fs further (subst Faultless same none) (subst (λ z. AreRecordFeatures digits how z fs) same are)

  records_rise : (at : ℕ) (texts : List (List ℕ)) (fs : List Feature) → Faultless (records_in (placed at texts)) → AreRecordFeatures digits how (records_in (placed at texts)) fs → Rises at texts fs
  records_rise at [] fs none are = subst (λ z. Climbs at at (map at_of z)) (sym are) tt
  records_rise at (text ∷ rest) fs none are = rise_step at text rest fs (are_spaces text) refl (λ gs. records_rise (at + length text + 1) rest gs) none are

  pub seq_features_proper : (bytes : List ℕ) (fs : List Feature) → HasSeqFault digits how bytes None → AreSeqFeatures digits how bytes fs → AreProperFeatures fs
  seq_features_proper bytes fs h are = by_encoding (utf8_fault bytes) h where
    by_pieces : (at : ℕ) (texts : List (List ℕ)) → Faultless (records_in (drop 1 (placed at texts))) → AreRecordFeatures digits how (records_in (drop 1 (placed at texts))) fs → AreProperFeatures fs
    by_pieces at [] (faults, have, none) also = record { rising = climbs_rise at at (map at_of fs) (records_rise at [] fs (faults, have, none) also); features = records_proper [] faults fs have none also }
    by_pieces at (text ∷ rest) (faults, have, none) also = record {
      rising = climbs_rise (at + length text + 1) (end_of (at + length text + 1) rest) (map at_of fs) (records_rise (at + length text + 1) rest fs (faults, have, none) also);
      features = records_proper (records_in (placed (at + length text + 1) rest)) faults fs have none also;
    }

    by_encoding : (encoding : Option Fault) → HasSeqFaultBehind digits how encoding bytes None → AreProperFeatures fs
    by_encoding (Some fault) e = absurd (none-some fault e)
    by_encoding None (faults, have, e) =
        by_pieces (base_of bytes) (slice_split is_separator (drop (base_of bytes) bytes)) (faults, have, (empties (head_faults (pieces_of bytes)) faults (no_first (head_faults (pieces_of bytes) ++ faults) e)).1) are

  -- entries are the part of a join alone
  joins_entries : (verb : Verb) (kept : List Feature) (es : List Entry) → IsKeptOf verb kept (Entries es) → verb ≡ verbs.Join
  joins_entries verbs.Select kept es e = absurd (cc)
  joins_entries verbs.Count kept es e = absurd (cc)
  joins_entries verbs.Area kept es e = absurd (cc)
  joins_entries verbs.Extent kept es e = absurd (cc)
  joins_entries verbs.Hull kept es (h, e, k) = absurd (cc)
  joins_entries verbs.Join kept es e = refl

  pub part_proper : (query : Query) (bytes : List ℕ) (part : Part) → IsSeqPart digits how query bytes part → HasProperEntries part
  part_proper query bytes (Entries es) h =
      let (kept, keeps, e) = h.is_part in
      entries_are_proper query h.features es (joins_entries query.verb kept es e) h.is_part (seq_features_proper bytes h.features h.faultless h.are_features)
  part_proper query bytes _ h = tt

pub proper_end : (asked : Asked) (bytes : List ℕ) (end : Result Part Refusal) → MatchResult end (IsSeqPart asked.digits asked.how asked.query bytes) (λ e. IfFound e (λ fault. HasSeqFault asked.digits asked.how bytes (Some fault))) → IfOk end HasProperEntries
proper_end asked bytes (Ok part) h = part_proper asked.digits asked.how asked.query bytes part h
proper_end asked bytes (Err end) h = tt

-- What is gathered of no record, of one, and of those of two lists.
-- For `part_seq`.
use Rattle.std.proofs.Common.{◌≡◌, ℕ, ◌+◌, List, [], ◌∷◌, ◌++◌, length, Option, Some, None, Result, Ok, Err, inl, inr, refl, sym, ap, ◌∙◌, subst, append-nil, append_assoc}
use Rattle.at_text.specs.Faults.{fault_at, first_fault, first_of}
use Rattle.at_text.specs.Syntax.{IsSyntaxFault}
use Rattle.at_text.specs.declared.faults.Fault.{Fault}
use Rattle.at_text.specs.declared.faults.FaultKind.TheVariants as kinds
use Rattle.at_fixed.specs.declared.rounding.Coords.{Coords}
use Rattle.at_text.proofs.FaultOrder.{first_of-append}
use Rattle.at_nest.specs.Tree.{Tree, IsTextOf}
use Rattle.at_nest.specs.Syntax.{JsonText}
use Rattle.at_nest.specs.TextAnswers.{Answers, IsEnd}
use Rattle.at_nest.specs.declared.finishing.NestEnd.{NestEnd}
use Rattle.at_nest.specs.declared.finishing.NestEnd.TheVariants as texts
use Rattle.at_query.specs.declared.features.Feature.{Feature}
use Rattle.at_query.specs.declared.query.queries.Query.{Query}
use Rattle.at_query.specs.declared.answer.parts.Part.{Part}
use Rattle.at_query.specs.declared.answer.accumulators.Accumulator.{Accumulator}
use Rattle.at_query.specs.Parts.{IsPart, IsProper}
use Rattle.at_query.specs.Accumulators.{IsAccumulated}
use Rattle.at_query.specs.Keeping.{Asked}
use Rattle.at_query.proofs.Joining.{part_is_proper}
use Rattle.at_query.proofs.Accumulating.{are_of_one_verb}
use Rattle.at_geojson.specs.declared.atoms.atom.GeoAtom.{GeoAtom}
use Rattle.at_text.specs.declared.refusals.Refusal.{Refusal}
use Rattle.at_geojson.specs.Atoms.{IsFold, IsGeoAtom}
use Rattle.at_geojson.specs.Roles.{features_of}
use Rattle.at_geojson.specs.Wholes.{faults_of, found_end, IsAnswer}
use Rattle.at_query.specs.declared.answer.gathered.Gathered.{Gathered}
use Rattle.at_query.specs.declared.answer.gathered.Gathered.TheVariants.{Kept, Failed}
use Rattle.at_query.specs.GatheredParts.{AreJoinable, IsJoinOf}
use Rattle.at_text.specs.Separated.{Piece}
use Rattle.at_seq.specs.Sequences.{HasRecordFaults, HaveRecordFaults, AreRecordFeatures}
use Rattle.at_seq.specs.Gathering.{IsFirstOfRecords, IsGathered, AddsRecords, HasRecordPart, IsEndFault}

module _ (digits : ℕ) (how : Coords) where
  have_more : (rs ss : List Piece) (fs gs : List Fault) → HaveRecordFaults digits how rs fs → HaveRecordFaults digits how ss gs → HaveRecordFaults digits how (rs ++ ss) (fs ++ gs)
  have_more [] ss fs gs e h = let P : List Fault → Type 0 = λ z. HaveRecordFaults digits how ss (z ++ gs) in subst P (sym e) h
  have_more (r ∷ rs) ss fs gs (first, others, hf, ho, e) h = (first, others ++ gs, hf, have_more rs ss others gs ho h, ap (λ z. z ++ gs) e ∙ append_assoc first others gs)

  first_joined : (rs ss : List Piece) (a b c : Option Fault) → IsFirstOfRecords digits how rs a → IsFirstOfRecords digits how ss b → c ≡ first_fault a b → IsFirstOfRecords digits how (rs ++ ss) c
  first_joined rs ss a b c (fs, h, ea) (gs, k, eb) e =
      (fs ++ gs, have_more rs ss fs gs h k, e ∙ (ap (λ z. first_fault z b) ea ∙ (ap (first_fault (first_of fs)) eb ∙ sym (first_of-append fs gs))))

  first_one : (r : Piece) (fs : List Fault) (first : Option Fault) → HasRecordFaults digits how r fs → first ≡ first_of fs → IsFirstOfRecords digits how (r ∷ []) first
  first_one r fs first h e = (fs, (fs, [], h, refl, sym (append-nil fs)), e)

  features_more : (rs ss : List Piece) (fs gs : List Feature) → AreRecordFeatures digits how rs fs → AreRecordFeatures digits how ss gs → AreRecordFeatures digits how (rs ++ ss) (fs ++ gs)
  features_more [] ss fs gs e k = let P : List Feature → Type 0 = λ z. AreRecordFeatures digits how ss (z ++ gs) in subst P (sym e) k
  features_more (r ∷ rs) ss fs gs (t, others, is, more, e) k =
      (t, others ++ gs, is, features_more rs ss others gs more k, ap (λ z. z ++ gs) e ∙ append_assoc (features_of digits how t) others gs)

module _ (asked : Asked) where
  pub gathered_none : (kept : Accumulator) → IsAccumulated asked.query [] kept → IsGathered asked (Kept kept) []
  gathered_none kept is = (([], refl, refl), ([], refl, is))

  -- what is gathered can be joined
  pub gathered_joinable : (left right : Gathered) (rs ss : List Piece) → IsGathered asked left rs → IsGathered asked right ss → AreJoinable left right
  gathered_joinable (Kept a) (Kept b) rs ss (h, (fs, hf, pa)) (k, (gs, kg, pb)) = are_of_one_verb asked.query fs gs a b pa pb
  gathered_joinable (Kept a) (Failed f) rs ss h k = tt
  gathered_joinable (Failed f) (Kept b) rs ss h k = tt
  gathered_joinable (Failed f) (Failed g) rs ss h k = tt

  pub gathered_joined : (left right both : Gathered) (rs ss : List Piece) → IsJoinOf left right both → IsGathered asked left rs → IsGathered asked right ss → IsGathered asked both (rs ++ ss)
  gathered_joined (Kept a) (Kept b) both rs ss (c, e, joins) (h, (fs, hf, pa)) (k, (gs, kg, pb)) =
      subst (λ z. IsGathered asked z (rs ++ ss)) (sym e) (
        first_joined asked.digits asked.how rs ss None None None h k refl,
        (fs ++ gs, features_more asked.digits asked.how rs ss fs gs hf kg, joins asked.query fs gs pa pb),
      )
  gathered_joined (Kept a) (Failed f) both rs ss e h k = subst (λ z. IsGathered asked z (rs ++ ss)) (sym e) (first_joined asked.digits asked.how rs ss None (Some f) (Some f) h.0 k refl)
  gathered_joined (Failed f) (Kept b) both rs ss e h k = subst (λ z. IsGathered asked z (rs ++ ss)) (sym e) (first_joined asked.digits asked.how rs ss (Some f) None (Some f) h k.0 refl)
  gathered_joined (Failed f) (Failed g) both rs ss (first, e, is) h k = subst (λ z. IsGathered asked z (rs ++ ss)) (sym e) (first_joined asked.digits asked.how rs ss (Some f) (Some g) (Some first) h k is)

  -- ---- one record

  module _ (r : Piece) where
    -- that spells a tree
    pub tree_part : (t : Tree) (part : Result Part Fault) → IsTextOf r.at r.text t → IsAnswer asked t (found_end part) → HasRecordPart asked r part
    tree_part t (Ok part) is (none, part_is) = (
      first_one asked.digits asked.how r (faults_of asked.digits asked.how t) None (inr (t, is, refl)) (sym (ap first_of none)),
      (features_of asked.digits asked.how t, (t, [], is, refl, sym (append-nil (features_of asked.digits asked.how t))), part_is),
    )
    tree_part t (Err fault) is h = first_one asked.digits asked.how r (faults_of asked.digits asked.how t) (Some fault) (inr (t, is, refl)) (sym h)

    -- as its atom says it
    pub root_has : (atom : GeoAtom) (end : Result Part Refusal) (part : Result Part Fault) → Answers (IsGeoAtom asked) r.at r.text (Ok atom)
        → ((t : Tree) → IsFold asked atom t → IsAnswer asked t end) → end ≡ found_end part → HasRecordPart asked r part
    root_has atom end part (t, (is, only), (own, fold)) h e = tree_part t part is (subst (IsAnswer asked t) e (h t fold))

    syntax_has : (fault : Fault) → IsSyntaxFault (JsonText r.at) r.at r.text fault → HasRecordPart asked r (Err fault)
    syntax_has fault h = first_one asked.digits asked.how r (fault ∷ []) (Some fault) (inl (fault, h, refl)) refl

    -- and one that is no JSON text
    pub end_has : (to : ℕ) (end : NestEnd) (fault : Fault) → to ≡ r.at + length r.text → IsEnd r.at r.text end → IsEndFault to end fault → HasRecordPart asked r (Err fault)
    end_has to (texts.Syntax place) fault same h e = subst (λ f. HasRecordPart asked r (Err f)) (sym e) (syntax_has (fault_at kinds.Syntax place) h)
    end_has to texts.Ended fault same h e =
        subst (λ f. HasRecordPart asked r (Err f)) (sym (e ∙ ap (λ n. fault_at kinds.Ended n) same)) (syntax_has (fault_at kinds.Ended (r.at + length r.text)) h)
    end_has to texts.Memory fault same h e = absurd e

    -- its part is proper, and gives what is kept of it
    pub part_proper : (part : Part) → HasRecordPart asked r (Ok part) → IsProper part
    part_proper part (none, (fs, are, is)) = part_is_proper asked.query fs part is

    pub part_kept : (part : Part) (kept : Accumulator) → HasRecordPart asked r (Ok part) → ((query : Query) (fs : List Feature) → IsPart query fs part → IsAccumulated query fs kept)
        → IsGathered asked (Kept kept) (r ∷ [])
    part_kept part kept (none, (fs, are, is)) keeps = (none, (fs, are, keeps asked.query fs is))

  -- ---- one more record

  -- white space alone is passed over
  pub adds_none : (old : Gathered) (more : List Piece) → more ≡ [] → AddsRecords asked old more old
  adds_none old more e before h = subst (IsGathered asked old) (sym (ap (λ z. before ++ z) e ∙ append-nil before)) h

  pub adds_one : (old kept new : Gathered) (r : Piece) → IsGathered asked kept (r ∷ []) → IsJoinOf old kept new → AddsRecords asked old (r ∷ []) new
  adds_one old kept new r k joins before h = gathered_joined old kept new before (r ∷ []) joins h k

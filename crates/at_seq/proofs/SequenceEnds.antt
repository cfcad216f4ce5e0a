-- What a whole sequence ends in, and a record that is read at once.
-- For `part_seq`.
use Rattle.std.proofs.Common.{◌≡◌, ◌≢◌, ℕ, zero, suc, ◌+◌, ◌<◌, true, false, if◌then◌else◌, slice_index, List, [], ◌∷◌, ◌++◌, length, take, drop, Option, Some, None, Result, Ok, Err, MatchResult, refl, sym, ap, ◌∙◌, subst, arith, append-nil, length-take, ◌-◌, ◌≤◌}
use Rattle.std.proofs.Math.Seq.{drop-append_seam, take-add}
use Rattle.std.proofs.lemmas.List.{take-append-drop, take_rest, drop-take, length-drop}
use Rattle.at_text.specs.Faults.{fault_at, first_fault, first_of}
use Rattle.at_text.specs.Spans.{span_of, StandsAt}
use Rattle.at_text.specs.Texts.{base_of, is_space, utf8_fault}
use Rattle.at_text.specs.declared.faults.Fault.{Fault}
use Rattle.at_text.specs.declared.faults.FaultKind.TheVariants.{Syntax}
use Rattle.at_lex.specs.Fronts.{IsFront}
use Rattle.at_lex.specs.Spans.{AreSpaces}
use Rattle.at_lex.proofs.FrontLemmas.{front_all}
use Rattle.at_nest.specs.Tree.{Tree, Spells, IsTextOf}
use Rattle.at_nest.specs.Folds.{IsAttempt}
use Rattle.at_nest.specs.declared.algebra.Attempt.TheVariants.{Whole}
use Rattle.at_nest.specs.TextAnswers.{Answers}
use Rattle.at_nest.proofs.OneTree.{one_tree}
use Rattle.at_nest.proofs.TreeParts.{text_made}
use Rattle.at_query.specs.declared.answer.parts.Part.{Part}
use Rattle.at_query.specs.Keeping.{Asked}
use Rattle.at_text.proofs.FaultOrder.{first_of-append}
use Rattle.at_wkt.proofs.LineMerges.{base_within, length-span_of}
use Rattle.at_geojson.specs.declared.atoms.atom.GeoAtom.{GeoAtom}
use Rattle.at_geojson.specs.declared.asked.GeoAlgebra.{GeoAlgebra}
use Rattle.at_nest.specs.declared.fragments.Fragment.{Fragment}
use Rattle.at_geojson.specs.Atoms.{IsOwn, IsFold, IsGeoAtom}
use Rattle.at_query.specs.declared.answer.gathered.Gathered.{Gathered}
use Rattle.at_query.specs.declared.answer.gathered.Gathered.TheVariants.{Kept, Failed}
use Rattle.at_text.specs.declared.refusals.Refusal.{Refusal}
use Rattle.at_seq.specs.declared.fragments.PartedText.{PartedText}
use Rattle.at_seq.specs.declared.fragments.SeqRead.{SeqRead}
use Rattle.at_seq.specs.declared.fragments.SeqText.{SeqText}
use Rattle.at_seq.specs.declared.fragments.SeqText.TheVariants.{Lone, Parted}
use Rattle.at_seq.specs.declared.fragments.SeqFragment.TheVariants.{Read}
use Rattle.at_blocks.specs.Encodings.{IsValidIn}
use Rattle.at_seq.specs.Records.{pieces_from, pieces_of, records_in, records_of}
use Rattle.at_seq.specs.Sequences.{stray_faults, head_faults, HasSeqFaultBehind, HasSeqFault}
use Rattle.at_text.specs.Refusals.{IfFound}
use Rattle.at_seq.specs.Answers.{IsSeqPart}
use Rattle.at_seq.specs.Gathering.{IsFirstOfRecords, IsGathered, AddsRecords}
use Rattle.at_seq.specs.Fragments.{SeqAsks, piece_in, pieces_in, HoldsParted, HoldsText, HoldsSpan, HoldsFragment, StandsInFile}
use Rattle.at_seq.specs.declared.fragments.SeqFragment.{SeqFragment}
use Rattle.at_seq.specs.Ends.{IsEndOf}
use Rattle.at_seq.proofs.PieceRecords.{records_in-append, all_spaces}

-- ---- a text that is to be white space alone

pub no_stray : (at : ℕ) (w : List ℕ) → AreSpaces w → stray_faults at w ≡ []
no_stray at [] h = refl
no_stray at (b ∷ w) (h, hs) = ap (λ z. if z then stray_faults (at + 1) w else fault_at Syntax at ∷ []) h ∙ no_stray (at + 1) w hs

stray_stands : (at : ℕ) (w : List ℕ) (n : ℕ) → ((k : ℕ) → k < n → is_space (slice_index w k) ≡ true) → n < length w → is_space (slice_index w n) ≡ false → stray_faults at w ≡ fault_at Syntax (at + n) ∷ []
stray_stands at [] n h inside e = absurd (omega arith)
stray_stands at (b ∷ w) zero h inside e =
    let here : at ≡ at + 0 = omega arith in
    ap (λ z. if z then stray_faults (at + 1) w else fault_at Syntax at ∷ []) e ∙ ap (λ n. fault_at Syntax n ∷ []) here
stray_stands at (b ∷ w) (suc n) h inside e =
    let here : at + 1 + n ≡ at + suc n = omega arith in
    ap (λ z. if z then stray_faults (at + 1) w else fault_at Syntax at ∷ []) (h 0 (omega arith))
    ∙ (stray_stands (at + 1) w n (λ k less. h (suc k) (omega arith)) (omega arith) e ∙ ap (λ n. fault_at Syntax n ∷ []) here)

pub stray_none : (at : ℕ) (w : List ℕ) (n : ℕ) → IsFront is_space w n → n ≡ length w → None ≡ first_of (stray_faults at w)
stray_none at w n h e = sym (ap first_of (no_stray at w (all_spaces w n h e)))

pub stray_some : (at : ℕ) (w : List ℕ) (n : ℕ) → IsFront is_space w n → n ≢ length w → Some (fault_at Syntax (at + n)) ≡ first_of (stray_faults at w)
stray_some at w n h e = let inside : n < length w = omega (arith, h.fits, e) in sym (ap first_of (stray_stands at w n h.passes inside (h.stops inside)))

-- ---- a record that is read at once

module _ (asked : Asked) where
  -- white space, a value and white space
  pub at_once : (at : ℕ) (text : List ℕ) (spaces len more : ℕ) (atom : GeoAtom) → IsFront is_space text spaces
      → IsAttempt (IsOwn asked) (IsFold asked) (at + spaces) (drop spaces text) (Whole len atom) → IsFront is_space (drop len (drop spaces text)) more → more ≡ length (drop len (drop spaces text))
      → Answers (IsGeoAtom asked) at text (Ok atom)
  at_once at text spaces len more atom front (v, r, same, size, t, spelled, own, fold) rest ends =
      let left : drop len (drop spaces text) ≡ r = ap (drop len) same ∙ (ap (λ n. drop n (v ++ r)) size ∙ drop-append_seam v r) in
      let behind : AreSpaces r = subst AreSpaces left (all_spaces (drop len (drop spaces text)) more rest ends) in
      let width : length (take spaces text) ≡ spaces = omega (arith, length-take spaces text, front.fits) in
      let whole : text ≡ take spaces text ++ (v ++ (r ++ [])) =
      sym (take-append-drop spaces text) ∙ ap (λ z. take spaces text ++ z) (same ∙ ap (λ z. v ++ z) (sym (append-nil r))) in
      let is : IsTextOf at text t = text_made t at text (take spaces text, v, r, [], whole, front_all is_space text spaces front, behind, subst (λ n. Spells (at + n) v t) (sym width) spelled, refl) in
      (t, (is, λ u other_is. one_tree at text t u is other_is), (own, fold))

  -- as the code's slices show it
  pub read_at_once : (at : ℕ) (text value behind : List ℕ) (spaces len more : ℕ) (atom : GeoAtom) → value ≡ drop spaces text → behind ≡ drop len value → IsFront is_space text spaces
      → IsAttempt (IsOwn asked) (IsFold asked) (at + spaces) value (Whole len atom) → IsFront is_space behind more → more ≡ length behind
      → Answers (IsGeoAtom asked) at text (Ok atom)
  read_at_once at text value behind spaces len more atom e f front attempt rest ends =
      let g : behind ≡ drop len (drop spaces text) = f ∙ ap (drop len) e in
      at_once at text spaces len more atom front (subst (λ z. IsAttempt (IsOwn asked) (IsFold asked) (at + spaces) z (Whole len atom)) e attempt)
      (subst (λ z. IsFront is_space z more) g rest) (ends ∙ ap length g)

-- ---- a value that is read from more than the record

-- what an attempt takes of the bytes, it takes of their first ones too
attempt_front : {X : Type 0} (Own : X → Type 0) (Fold : X → Tree → Type 0) (at : ℕ) (w : List ℕ) (n len : ℕ) (atom : X) → len ≤ n → IsAttempt Own Fold at w (Whole len atom) → IsAttempt Own Fold at (take n w) (Whole len atom)
attempt_front Own Fold at w n len atom h (v, r, e, l, t, s, o, f) =
    let m : ℕ = n - len in let size : n ≡ len + m = omega (arith, h) in
    let bytes : take n w ≡ v ++ take m r = ap (λ k. take k w) size ∙ (take-add len m w ∙ (ap (λ z. take len z ++ take m (drop len z)) e ∙ (ap (λ k. take k (v ++ r) ++ take m (drop k (v ++ r))) l ∙ parts v r m))) in
    (v, take m r, bytes, l, t, s, o, f)
  where
    parts : (v r : List ℕ) (m : ℕ) → take (length v) (v ++ r) ++ take m (drop (length v) (v ++ r)) ≡ v ++ take m r
    parts [] r m = refl
    parts (b ∷ v) r m = ap (λ z. b ∷ z) (parts v r m)

-- the record's value begins what is ahead of it
value_front : (text ahead : List ℕ) (spaces : ℕ) → text ≡ take (length text) ahead → spaces ≤ length text → take (length text - spaces) (drop spaces text) ≡ take (length text - spaces) (take (length ahead - spaces) (drop spaces ahead))
value_front text ahead spaces e h =
    let m : ℕ = length text - spaces in let size : length text ≡ spaces + m = omega (arith, h) in
    take_rest text spaces ∙ (ap (drop spaces) (e ∙ ap (λ k. take k ahead) size) ∙ (drop-take spaces m ahead ∙ ap (take m) (sym (take_rest ahead spaces))))

pub read_ahead : (asked : Asked) (at : ℕ) (text ahead behind : List ℕ) (spaces len more : ℕ) (atom : GeoAtom) → text ≡ take (length text) ahead → spaces ≤ length text
    → len ≤ length (take (length text - spaces) (drop spaces text)) → behind ≡ drop len (take (length text - spaces) (drop spaces text)) → IsFront is_space text spaces
    → IsAttempt (IsOwn asked) (IsFold asked) (at + spaces) (take (length ahead - spaces) (drop spaces ahead)) (Whole len atom) → IsFront is_space behind more → more ≡ length behind
    → Answers (IsGeoAtom asked) at text (Ok atom)
read_ahead asked at text ahead behind spaces len more atom begins h short f front attempt rest ends =
    let value : List ℕ = take (length text - spaces) (drop spaces text) in
    let size : length value ≡ length text - spaces = ap (λ z. length z) (take_rest text spaces) ∙ length-drop spaces text in
    let fits : len ≤ length text - spaces = subst (λ n. len ≤ n) size short in
    let taken = attempt_front (IsOwn asked) (IsFold asked) (at + spaces) (take (length ahead - spaces) (drop spaces ahead)) (length text - spaces) len atom fits attempt in
    read_at_once asked at text value behind spaces len more atom (take_rest text spaces) f front
    (subst (λ z. IsAttempt (IsOwn asked) (IsFold asked) (at + spaces) z (Whole len atom)) (sym (value_front text ahead spaces begins h)) taken) rest ends

-- ---- the end of a sequence

-- what stands before the first separator, and all records
module _ (asked : Asked) (bytes : List ℕ) where
  all_bytes : span_of bytes (base_of bytes) (length bytes) ≡ drop (base_of bytes) bytes
  all_bytes = take_rest bytes (base_of bytes)

  pieces_are : pieces_of bytes ≡ pieces_in bytes (base_of bytes) (length bytes)
  pieces_are = ap (pieces_from (base_of bytes)) (sym all_bytes)

  -- with a separator
  module _ (parted : PartedText) (h : HoldsParted asked bytes (base_of bytes) (length bytes) parted) where
    whole_pieces : pieces_of bytes ≡ piece_in bytes (base_of bytes) parted.first ∷ (h.inner ++ piece_in bytes parted.last (length bytes) ∷ [])
    whole_pieces = pieces_are ∙ h.pieces

    pub all_gathered : (kept : Gathered) → AddsRecords asked parted.kept (records_in (piece_in bytes parted.last (length bytes) ∷ [])) kept → IsGathered asked kept (records_of bytes)
    all_gathered kept adds =
        let same : records_of bytes ≡ records_in h.inner ++ records_in (piece_in bytes parted.last (length bytes) ∷ []) =
        ap (λ z. records_in (drop 1 z)) whole_pieces ∙ records_in-append h.inner (piece_in bytes parted.last (length bytes) ∷ []) in
        subst (IsGathered asked kept) (sym same) (adds (records_in h.inner) h.kept)

    pub parted_head : head_faults (pieces_of bytes) ≡ stray_faults (base_of bytes) (span_of bytes (base_of bytes) parted.first)
    parted_head = ap head_faults whole_pieces

  -- without one
  module _ (whole : pieces_in bytes (base_of bytes) (length bytes) ≡ piece_in bytes (base_of bytes) (length bytes) ∷ []) where
    pub lone_gathered : (kept : Gathered) → IsGathered asked kept [] → IsGathered asked kept (records_of bytes)
    lone_gathered kept h = subst (IsGathered asked kept) (sym (ap (λ z. records_in (drop 1 z)) (pieces_are ∙ whole))) h

    pub lone_head : head_faults (pieces_of bytes) ≡ stray_faults (base_of bytes) (span_of bytes (base_of bytes) (length bytes))
    lone_head = ap head_faults (pieces_are ∙ whole)

  -- ---- the first fault, or the part

  first_behind : (head b first : Option Fault) → utf8_fault bytes ≡ None → head ≡ first_of (head_faults (pieces_of bytes)) → IsFirstOfRecords asked.digits asked.how (records_of bytes) b → first ≡ first_fault head b
      → HasSeqFault asked.digits asked.how bytes first
  first_behind head b first valid head_is (faults, have, is) e =
      let P : Option Fault → Type 0 = λ o. HasSeqFaultBehind asked.digits asked.how o bytes first in
      subst P (sym valid) (faults, have, e ∙ (ap (λ z. first_fault z b) head_is ∙ (ap (first_fault (first_of (head_faults (pieces_of bytes)))) is ∙ sym (first_of-append (head_faults (pieces_of bytes)) faults))))

  abbrev Ended : Result Part Refusal → Type 0
  Ended end = MatchResult end (IsSeqPart asked.digits asked.how asked.query bytes) (λ e. IfFound e (λ fault. HasSeqFault asked.digits asked.how bytes (Some fault)))

  pub ended : (kept : Gathered) (head : Option Fault) (result : Result Part Refusal) → utf8_fault bytes ≡ None → head ≡ first_of (head_faults (pieces_of bytes)) → IsGathered asked kept (records_of bytes) → IsEndOf kept head result
      → MatchResult result (IsSeqPart asked.digits asked.how asked.query bytes) (λ e. IfFound e (λ fault. HasSeqFault asked.digits asked.how bytes (Some fault)))
  ended (Kept kept) None (Ok part) valid head_is (none, (features, are, is)) e =
      record { faultless = first_behind None None None valid head_is none refl; features = features; are_features = are; is_part = e asked.query features is }
  ended (Kept kept) None (Err end) valid head_is h e = let P : Refusal → Type 0 = λ z. IfFound z (λ fault. HasSeqFault asked.digits asked.how bytes (Some fault)) in subst P (sym e) tt
  ended (Kept kept) (Some fault) result valid head_is (none, part_is) e = subst Ended (sym e) (first_behind (Some fault) None (Some fault) valid head_is none refl)
  ended (Failed fault) head result valid head_is h (first, e, is) = subst Ended (sym e) (first_behind head (Some fault) (Some first) valid head_is h is)

-- what stands for all bytes of the reader's file, as a crew says it
pub whole_stands : (asks : SeqAsks) (whole : SeqFragment) → StandsAt (StandsInFile asks) asks.bytes (base_of asks.bytes) (length asks.bytes) whole → HoldsFragment asks.asked asks.bytes (base_of asks.bytes) (length asks.bytes) whole
whole_stands asks whole h =
    let size = length-span_of asks.bytes (base_of asks.bytes) (length asks.bytes) (base_within asks.bytes) (omega arith) in
    subst (λ n. HoldsFragment asks.asked asks.bytes (base_of asks.bytes) n whole) size h

-- the span of the whole file that is said to be UTF-8
pub valid_stands : (asked : Asked) (bytes : List ℕ) (whole : SeqFragment) (read : SeqRead) → whole ≡ Read read → HoldsFragment asked bytes (base_of bytes) (length bytes) whole → IsValidIn (base_of bytes) (drop (base_of bytes) bytes) read.valid
valid_stands asked bytes whole read e h =
    let held : HoldsSpan asked bytes (base_of bytes) (length bytes) read = subst (HoldsFragment asked bytes (base_of bytes) (length bytes)) e h in
    subst (λ z. IsValidIn (base_of bytes) z read.valid) (take_rest bytes (base_of bytes)) held.valid

-- the fault of what stands before the first separator
pub head_found : (asked : Asked) (bytes : List ℕ) (text : SeqText) (parted : PartedText) (base : ℕ) (head : Option Fault) → text ≡ Parted parted → base ≡ base_of bytes → HoldsText asked bytes (base_of bytes) (length bytes) text
    → head ≡ first_of (stray_faults base (span_of bytes base parted.first)) → head ≡ first_of (head_faults (pieces_of bytes))
head_found asked bytes text parted base head e same h is =
    let held : HoldsParted asked bytes (base_of bytes) (length bytes) parted = subst (HoldsText asked bytes (base_of bytes) (length bytes)) e h in
    subst (λ n. head ≡ first_of (stray_faults n (span_of bytes n parted.first))) same is ∙ ap first_of (sym (parted_head asked bytes parted held))

-- the same where there is no separator, and what is then gathered
pub lone_found : (asked : Asked) (bytes : List ℕ) (text : SeqText) (whole : Fragment GeoAlgebra GeoAtom) (base : ℕ) (head : Option Fault) → text ≡ Lone whole → base ≡ base_of bytes → HoldsText asked bytes (base_of bytes) (length bytes) text
    → head ≡ first_of (stray_faults base (span_of bytes base (length bytes))) → head ≡ first_of (head_faults (pieces_of bytes))
lone_found asked bytes text whole base head e same h is =
    let held = subst (HoldsText asked bytes (base_of bytes) (length bytes)) e h in
    subst (λ n. head ≡ first_of (stray_faults n (span_of bytes n (length bytes)))) same is ∙ ap first_of (sym (lone_head asked bytes held.0))

pub lone_kept : (asked : Asked) (bytes : List ℕ) (text : SeqText) (whole : Fragment GeoAlgebra GeoAtom) (kept : Gathered) → text ≡ Lone whole → HoldsText asked bytes (base_of bytes) (length bytes) text
    → IsGathered asked kept [] → IsGathered asked kept (records_of bytes)
lone_kept asked bytes text whole kept e h none =
    let held = subst (HoldsText asked bytes (base_of bytes) (length bytes)) e h in lone_gathered asked bytes held.0 kept none

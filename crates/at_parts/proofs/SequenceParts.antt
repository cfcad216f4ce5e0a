-- A text sequence that is cut before a separator: its records are those of both parts, and so are its features and its faults.
-- For `sequence_features` and `sequence_faults`.
use Rattle.std.proofs.Common.{◌≡◌, inl, inr, ℕ, ◌+◌, not, List, [], ◌∷◌, ◌++◌, length, drop, map, Option, Some, None, option_map, refl, sym, ◌∙◌, ap, subst, arith, append_assoc}
use Rattle.std.specs.List.{slice_split}
use Rattle.std.proofs.lemmas.List.{map-append}
use Rattle.std.proofs.lemmas.List.Elements.{filter-append}
use Rattle.at_text.specs.declared.faults.Fault.{Fault}
use Rattle.at_text.specs.Faults.{first_fault, first_of}
use Rattle.at_text.specs.Separated.{Piece}
use Rattle.at_text.specs.Texts.{base_of, utf8_fault}
use Rattle.at_text.proofs.Separated.{pieces_parted, pieces_some}
use Rattle.at_fixed.specs.declared.rounding.Coords.{Coords}
use Rattle.at_text.proofs.FaultOrder.{first_of-append}
use Rattle.at_nest.specs.Tree.{Tree}
use Rattle.at_nest.specs.Twins.{twins_of}
use Rattle.at_nest.specs.Syntax.{JsonText}
use Rattle.at_query.specs.declared.features.Feature.{Feature}
use Rattle.at_geojson.specs.Roles.{features_of, role_faults_of}
use Rattle.at_geojson.specs.Wholes.{faults_of}
use Rattle.at_geojson.proofs.Tiers.{twins_third, roles_fourth}
use Rattle.at_seq.specs.Records.{is_separator, pieces_from, pieces_of, are_spaces, records_in, records_of}
use Rattle.at_seq.specs.Sequences.{stray_faults, head_faults, HasRecordFaults, HaveRecordFaults, HasSeqFaultBehind, AreRecordFeatures}
use Rattle.at_parts.specs.Moved.{feature_moved, fault_moved}
use Rattle.at_parts.specs.Records.{SequencesHaveFeaturesOfParts, SequencesHaveFaultsOfParts}
use Rattle.at_parts.proofs.MovedTrees.{moved, text_moved, json_moved}
use Rattle.at_parts.proofs.MovedReadings.{features_of_moved, tree_faults_moved}
use Rattle.at_parts.proofs.Moves.{syntax_moved}
use Rattle.at_parts.proofs.Cuts.{piece_moved, placed_moved, file_cut}
use Rattle.at_parts.proofs.Firsts.{first_of_moved}
use Rattle.at_parts.proofs.LaterFaults.{AreLater, later_append, later_by, syntax_later, IsLater, first_later}
use Rattle.at_parts.proofs.Encodings.{first_told, second_told, encoding_of_both}

-- ---- pieces and records

records_moved : (d : ℕ) (ps : List Piece) → records_in (map (piece_moved d) ps) ≡ map (piece_moved d) (records_in ps)
records_moved d [] = refl
records_moved d (p ∷ ps) = grind (arith, records_moved d ps)

-- a separator is no byte of a byte order mark
base_before : (a rest : List ℕ) → base_of (a ++ 0x1E ∷ rest) ≡ base_of a
base_before (x ∷ y ∷ z ∷ a) rest = refl
base_before _ rest = refl

module _ (a rest : List ℕ) where
  pieces_both : pieces_of (a ++ 0x1E ∷ rest) ≡ pieces_of a ++ map (piece_moved (length a)) (pieces_from 1 rest)
  pieces_both = file_cut is_separator 0x1E a rest refl (base_before a rest) ∙ ap (λ z. pieces_of a ++ z) (placed_moved (length a) 1 (slice_split is_separator rest))

  records_behind : records_of (0x1E ∷ rest) ≡ records_in (pieces_from 1 rest)
  records_behind = ap (λ z. records_in (drop 1 z)) (pieces_parted is_separator 0 0x1E rest refl)

  heads_behind : head_faults (pieces_of (0x1E ∷ rest)) ≡ []
  heads_behind = ap head_faults (pieces_parted is_separator 0 0x1E rest refl)

  -- the records are those of both parts, those of the second behind the first
  pub records_both : records_of (a ++ 0x1E ∷ rest) ≡ records_of a ++ map (piece_moved (length a)) (records_of (0x1E ∷ rest))
  records_both =
      let (t, ps, e) = pieces_some is_separator (base_of a) (drop (base_of a) a) in
      let further : List Piece = map (piece_moved (length a)) (pieces_from 1 rest) in
      rw (pieces_both, e) (filter-append (λ (p : Piece). not (are_spaces p.text)) ps further
      ∙ ap (λ z. records_in ps ++ z) (records_moved (length a) (pieces_from 1 rest) ∙ ap (map (piece_moved (length a))) (sym records_behind)))

  heads_both : head_faults (pieces_of (a ++ 0x1E ∷ rest)) ≡ head_faults (pieces_of a)
  heads_both = let (t, ps, e) = pieces_some is_separator (base_of a) (drop (base_of a) a) in rw (pieces_both, e)

-- ---- features and faults of records

module _ (digits : ℕ) (how : Coords) where
  features_moved : (d : ℕ) (rs : List Piece) (fs : List Feature) → AreRecordFeatures digits how rs fs → AreRecordFeatures digits how (map (piece_moved d) rs) (map (feature_moved d) fs)
  features_moved d [] fs e = ap (map (feature_moved d)) e
  features_moved d (r ∷ rs) fs (t, others, h, hs, e) = (
    moved d t,
    map (feature_moved d) others,
    text_moved d r.at r.text t h,
    features_moved d rs others hs,
    ap (map (feature_moved d)) e ∙ (map-append (feature_moved d) (features_of digits how t) others ∙ ap (λ z. z ++ map (feature_moved d) others) (sym (features_of_moved d digits how t))),
  )

  features_joined : (rs qs : List Piece) (fs gs : List Feature) → AreRecordFeatures digits how rs fs → AreRecordFeatures digits how qs gs → AreRecordFeatures digits how (rs ++ qs) (fs ++ gs)
  features_joined [] qs fs gs e k = subst (λ z. AreRecordFeatures digits how qs (z ++ gs)) (sym e) k
  features_joined (r ∷ rs) qs fs gs (t, others, h, hs, e) k = (
    t,
    others ++ gs,
    h,
    features_joined rs qs others gs hs k,
    ap (λ z. z ++ gs) e ∙ append_assoc (features_of digits how t) others gs,
  )

  pub features_of_both : SequencesHaveFeaturesOfParts digits how
  features_of_both a b fs gs (rest, e) h k =
      rw (e, records_both a rest) (features_joined (records_of a) (map (piece_moved (length a)) (records_of (0x1E ∷ rest))) fs (map (feature_moved (length a)) gs) h
      (features_moved (length a) (records_of (0x1E ∷ rest)) gs (rw e at k)))

  one_moved : (d : ℕ) (r : Piece) (fs : List Fault) → HasRecordFaults digits how r fs → HasRecordFaults digits how (piece_moved d r) (map (fault_moved d) fs)
  one_moved d r fs (inl (f, h, e)) = inl (fault_moved d f, syntax_moved d r.at (JsonText r.at) (JsonText (d + r.at)) (λ v. (json_moved d r.at v).0) (λ v. (json_moved d r.at v).1) r.text f h, ap (map (fault_moved d)) e)
  one_moved d r fs (inr (t, h, e)) = inr (moved d t, text_moved d r.at r.text t h, ap (map (fault_moved d)) e ∙ sym (tree_faults_moved d digits how t))

  faults_moved : (d : ℕ) (rs : List Piece) (fs : List Fault) → HaveRecordFaults digits how rs fs → HaveRecordFaults digits how (map (piece_moved d) rs) (map (fault_moved d) fs)
  faults_moved d [] fs e = ap (map (fault_moved d)) e
  faults_moved d (r ∷ rs) fs (first, others, h, hs, e) = (
    map (fault_moved d) first,
    map (fault_moved d) others,
    one_moved d r first h,
    faults_moved d rs others hs,
    ap (map (fault_moved d)) e ∙ map-append (fault_moved d) first others,
  )

  faults_joined : (rs qs : List Piece) (fs gs : List Fault) → HaveRecordFaults digits how rs fs → HaveRecordFaults digits how qs gs → HaveRecordFaults digits how (rs ++ qs) (fs ++ gs)
  faults_joined [] qs fs gs e k = subst (λ z. HaveRecordFaults digits how qs (z ++ gs)) (sym e) k
  faults_joined (r ∷ rs) qs fs gs (first, others, h, hs, e) k = (
    first,
    others ++ gs,
    h,
    faults_joined rs qs others gs hs k,
    ap (λ z. z ++ gs) e ∙ append_assoc first others gs,
  )

-- ---- no fault of a record is one of the encoding

pub tree_later : (digits : ℕ) (how : Coords) (t : Tree) → AreLater (faults_of digits how t)
tree_later digits how t = later_append (twins_of t) (role_faults_of digits how t) (later_by 3 (twins_of t) (omega arith) (twins_third t)) (later_by 4 (role_faults_of digits how t) (omega arith) (roles_fourth digits how t))

stray_later : (at : ℕ) (w : List ℕ) → AreLater (stray_faults at w)
stray_later at [] = tt
stray_later at (b ∷ w) = grind (arith, stray_later (at + 1) w)

head_later : (ps : List Piece) → AreLater (head_faults ps)
head_later [] = tt
head_later (p ∷ ps) = stray_later p.at p.text

records_later : (digits : ℕ) (how : Coords) (rs : List Piece) (fs : List Fault) → HaveRecordFaults digits how rs fs → AreLater fs
records_later digits how [] fs e = subst AreLater (sym e) tt
records_later digits how (r ∷ rs) fs (first, others, inl (f, h, k), hs, e) = rw (e, k) (syntax_later (JsonText r.at) r.at r.text f h, records_later digits how rs others hs)
records_later digits how (r ∷ rs) fs (first, others, inr (t, h, k), hs, e) = rw (e, k) (later_append (faults_of digits how t) others (tree_later digits how t) (records_later digits how rs others hs))

-- ---- the first fault

module _ (digits : ℕ) (how : Coords) (a rest : List ℕ) where
  by_encoding : (o p f g : Option Fault) → utf8_fault a ≡ o → utf8_fault (0x1E ∷ rest) ≡ p → HasSeqFaultBehind digits how o a f → HasSeqFaultBehind digits how p (0x1E ∷ rest) g
      → HasSeqFaultBehind digits how (first_fault o (option_map (fault_moved (length a)) p)) (a ++ 0x1E ∷ rest) (first_fault f (option_map (fault_moved (length a)) g))
  by_encoding (Some x) p f g u v h k =
      subst (λ z. HasSeqFaultBehind digits how z (a ++ 0x1E ∷ rest) (first_fault f (option_map (fault_moved (length a)) g))) (sym (first_told a x p u))
      (ap (λ z. first_fault z (option_map (fault_moved (length a)) g)) h ∙ first_told a x g u)
  by_encoding None (Some y) f g u v (faults, h, e) k =
      let later : AreLater (head_faults (pieces_of a) ++ faults) = later_append (head_faults (pieces_of a)) faults (head_later (pieces_of a)) (records_later digits how (records_of a) faults h) in
      ap (λ z. first_fault f (option_map (fault_moved (length a)) z)) k ∙ second_told (0x1E ∷ rest) (length a) y f v (subst IsLater (sym e) (first_later (head_faults (pieces_of a) ++ faults) later))
  by_encoding None None f g u v (fs, h, e) (gs, k, i) =
      let heads : List Fault = head_faults (pieces_of a) in
      let further : List Fault = map (fault_moved (length a)) gs in
      let second : g ≡ first_of gs = i ∙ ap (λ z. first_of (z ++ gs)) (heads_behind a rest) in (
        fs ++ further,
        rw (records_both a rest) (faults_joined digits how (records_of a) (map (piece_moved (length a)) (records_of (0x1E ∷ rest))) fs further h (faults_moved digits how (length a) (records_of (0x1E ∷ rest)) gs k)),
        cc (e, second, first_of_moved (length a) gs, first_of-append (heads ++ fs) further, append_assoc heads fs further, heads_both a rest),
      )

pub faults_of_both : (digits : ℕ) (how : Coords) → SequencesHaveFaultsOfParts digits how
faults_of_both digits how a b f g (rest, e) h k =
    let both = encoding_of_both a (0x1E ∷ rest) (inr (0x1E, rest, refl, omega arith)) in
    rw (e, both) (by_encoding digits how a rest (utf8_fault a) (utf8_fault (0x1E ∷ rest)) f g refl refl h (rw e at k))

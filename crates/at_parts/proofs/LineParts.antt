-- A file of lines that is cut behind a line feed: the lines of both parts, and what they say.
-- For `line_features` and `line_faults`.
use Rattle.std.proofs.Common.{◌≡◌, ℕ, ◌+◌, List, [], ◌∷◌, ◌++◌, length, drop, map, Option, Some, None, option_map, arith, refl, sym, ◌∙◌, ap, subst, inl, inr, append-nil, append_assoc, length-append}
use Rattle.std.proofs.lemmas.List.{map-append}
use Rattle.std.specs.List.{slice_split}
use Rattle.at_text.specs.declared.faults.Fault.{Fault}
use Rattle.at_text.specs.Faults.{first_fault}
use Rattle.at_text.specs.Texts.{utf8_fault, base_of}
use Rattle.at_fixed.specs.declared.rounding.Coords.{Coords}
use Rattle.at_wkt.specs.Lines.{FileLine, is_line_feed, pieces_from, lines_in, lines_of}
use Rattle.at_text.proofs.FaultOrder.{first_of-append}
use Rattle.at_wkt.proofs.LineMerges.{lines_in-append}
use Rattle.at_query.specs.declared.features.Feature.{Feature}
use Rattle.at_run.specs.Features.{IsLineFeature, AreLineFeatures}
use Rattle.at_run.specs.Labels.{LabelledLine}
use Rattle.at_run.specs.LineFaults.{HasFaults, HaveFaults, HasLinesFaultBehind}
use Rattle.at_parts.specs.Moved.{feature_moved, fault_moved}
use Rattle.at_parts.specs.Records.{AreLinesCut, LinesHaveFeaturesOfParts, LinesHaveFaultsOfParts}
use Rattle.at_parts.proofs.Cuts.{piece_moved, placed_moved, file_pieces, file_cut}
use Rattle.at_parts.proofs.Firsts.{first_of_moved}
use Rattle.at_parts.proofs.MovedGeometries.{geometry_moved, shape_moved, faults_moved}
use Rattle.at_parts.proofs.MovedLines.{labelled_moved, labelled_line_moved, labelled_line_unmoved}
use Rattle.at_parts.proofs.Moves.{syntax_moved}
use Rattle.at_parts.proofs.LineTiers.{all_faults_later}
use Rattle.at_parts.proofs.LaterFaults.{IsLater, first_later}
use Rattle.at_parts.proofs.Encodings.{first_told, second_told, encoding_of_both}

-- ---- the lines of both parts

-- a byte order mark has no line feed
base_cut : (front rest : List ℕ) → base_of (front ++ 0x0A ∷ rest) ≡ base_of front
base_cut (a ∷ b ∷ c ∷ front) rest = refl
base_cut _ rest = refl

lines_cut : (front rest : List ℕ) → lines_of (front ++ 0x0A ∷ rest) ≡ lines_of front ++ lines_in (pieces_from (length front + 1) rest)
lines_cut front rest = ap lines_in (file_cut is_line_feed 0x0A front rest refl (base_cut front rest)) ∙ lines_in-append (file_pieces is_line_feed front) (pieces_from (length front + 1) rest)

-- ---- the same lines further on

lines_moved : (d : ℕ) (ps : List FileLine) → lines_in (map (piece_moved d) ps) ≡ map (piece_moved d) (lines_in ps)
lines_moved d [] = refl
lines_moved d (p ∷ ps) = grind (arith, lines_moved d ps)

lines_behind : (d : ℕ) (b : List ℕ) → base_of b ≡ 0 → lines_in (pieces_from d b) ≡ map (piece_moved d) (lines_of b)
lines_behind d b none =
    let here : d ≡ d + 0 = omega arith in
    ap (λ n. lines_in (pieces_from n b)) here
    ∙ (ap lines_in (placed_moved d 0 (slice_split is_line_feed b))
    ∙ (lines_moved d (pieces_from 0 b) ∙ ap (λ n. map (piece_moved d) (lines_in (pieces_from n (drop n b)))) (sym none)))

-- the lines of a file that is cut behind a line feed are those of the first part, and those of the second further on
lines_of_parts : (a b : List ℕ) → AreLinesCut a b → lines_of (a ++ b) ≡ lines_of a ++ map (piece_moved (length a)) (lines_of b)
lines_of_parts a b ((front, e), none) =
    let whole : a ++ b ≡ front ++ 0x0A ∷ b = ap (λ z. z ++ b) e ∙ append_assoc front (0x0A ∷ []) b in
    let size : length front + 1 ≡ length a = omega (arith, ap length e, length-append front (0x0A ∷ [])) in
    let first : lines_of front ≡ lines_of a = sym (ap lines_of e ∙ (lines_cut front [] ∙ append-nil (lines_of front))) in
    ap lines_of whole ∙ (lines_cut front b
    ∙ (ap (λ n. lines_of front ++ lines_in (pieces_from n b)) size
    ∙ (ap (λ z. z ++ lines_in (pieces_from (length a) b)) first ∙ ap (λ z. lines_of a ++ z) (lines_behind (length a) b none))))

module _ (digits : ℕ) (how : Coords) where
  -- ---- features

  feature_moves : (d : ℕ) (l : FileLine) (f : Feature) → IsLineFeature digits how l f → IsLineFeature digits how (piece_moved d l) (feature_moved d f)
  feature_moves d l f h = record {
    label = h.label;
    geometry = geometry_moved d h.geometry;
    spelled = labelled_moved d l.at h.label h.geometry l.text h.spelled;
    at = ap (λ n. d + n) h.at;
    shape = h.shape ∙ sym (shape_moved d digits how h.geometry);
    texts = h.texts;
  }

  features_move : (d : ℕ) (ls : List FileLine) (fs : List Feature) → AreLineFeatures digits how ls fs → AreLineFeatures digits how (map (piece_moved d) ls) (map (feature_moved d) fs)
  features_move d [] fs e = ap (map (feature_moved d)) e
  features_move d (l ∷ ls) fs (f, rest, e, is, more) = (feature_moved d f, map (feature_moved d) rest, ap (map (feature_moved d)) e, feature_moves d l f is, features_move d ls rest more)

  features_joined : (ls ms : List FileLine) (fs gs : List Feature) → AreLineFeatures digits how ls fs → AreLineFeatures digits how ms gs → AreLineFeatures digits how (ls ++ ms) (fs ++ gs)
  features_joined [] ms fs gs e k = let P : List Feature → Type 0 = λ z. AreLineFeatures digits how ms (z ++ gs) in subst P (sym e) k
  features_joined (l ∷ ls) ms fs gs (f, rest, e, is, more) k = (f, rest ++ gs, ap (λ z. z ++ gs) e, is, features_joined ls ms rest gs more k)

  pub features_of_parts : LinesHaveFeaturesOfParts digits how
  features_of_parts a b fs gs cut h k =
      rw (lines_of_parts a b cut) (features_joined (lines_of a) (map (piece_moved (length a)) (lines_of b)) fs (map (feature_moved (length a)) gs) h (features_move (length a) (lines_of b) gs k))

  -- ---- faults

  faults_move : (d : ℕ) (l : FileLine) (fs : List Fault) → HasFaults digits how l fs → HasFaults digits how (piece_moved d l) (map (fault_moved d) fs)
  faults_move d l fs (inl (fault, h, e)) = inl (fault_moved d fault, syntax_moved d l.at (LabelledLine l.at) (LabelledLine (d + l.at)) (labelled_line_moved d l.at) (labelled_line_unmoved d l.at) l.text fault h, ap (map (fault_moved d)) e)
  faults_move d l fs (inr (label, g, h, e)) = inr (label, geometry_moved d g, labelled_moved d l.at label g l.text h, ap (map (fault_moved d)) e ∙ sym (faults_moved d digits how g))

  all_faults_move : (d : ℕ) (ls : List FileLine) (fs : List Fault) → HaveFaults digits how ls fs → HaveFaults digits how (map (piece_moved d) ls) (map (fault_moved d) fs)
  all_faults_move d [] fs e = ap (map (fault_moved d)) e
  all_faults_move d (l ∷ ls) fs (first, others, h, hs, e) =
      (map (fault_moved d) first, map (fault_moved d) others, faults_move d l first h, all_faults_move d ls others hs, ap (map (fault_moved d)) e ∙ map-append (fault_moved d) first others)

  faults_joined : (ls ms : List FileLine) (fs gs : List Fault) → HaveFaults digits how ls fs → HaveFaults digits how ms gs → HaveFaults digits how (ls ++ ms) (fs ++ gs)
  faults_joined [] ms fs gs e h = let P : List Fault → Type 0 = λ z. HaveFaults digits how ms (z ++ gs) in subst P (sym e) h
  faults_joined (l ∷ ls) ms fs gs (first, others, hf, ho, e) h = (first, others ++ gs, hf, faults_joined ls ms others gs ho h, ap (λ z. z ++ gs) e ∙ append_assoc first others gs)

  module _ (a b : List ℕ) (cut : AreLinesCut a b) where
    abbrev moved : Option Fault → Option Fault
    moved o = option_map (fault_moved (length a)) o

    by_encodings : (p q f g : Option Fault) → utf8_fault a ≡ p → utf8_fault b ≡ q → HasLinesFaultBehind digits how p a f → HasLinesFaultBehind digits how q b g
        → HasLinesFaultBehind digits how (first_fault p (moved q)) (a ++ b) (first_fault f (moved g))
    by_encodings (Some p) q f g pe qe h k =
        subst (λ z. HasLinesFaultBehind digits how z (a ++ b) (first_fault f (moved g))) (sym (first_told a p q pe)) (ap (λ o. first_fault o (moved g)) h ∙ first_told a p g pe)
    by_encodings None (Some q) f g pe qe (fs, hs, e) k =
        ap (λ o. first_fault f (moved o)) k ∙ second_told b (length a) q f qe (subst IsLater (sym e) (first_later fs (all_faults_later digits how (lines_of a) fs hs)))
    by_encodings None None f g pe qe (fs, hs, e) (gs, ks, k) =
        let all : List Fault = fs ++ map (fault_moved (length a)) gs in (
          all,
          rw (lines_of_parts a b cut) (faults_joined (lines_of a) (map (piece_moved (length a)) (lines_of b)) fs (map (fault_moved (length a)) gs) hs (all_faults_move (length a) (lines_of b) gs ks)),
          cc (first_of_moved (length a) gs, first_of-append fs (map (fault_moved (length a)) gs)),
        )

  pub faults_of_parts : LinesHaveFaultsOfParts digits how
  faults_of_parts a b f g cut h k =
      let ((front, e), none) = cut in
      let both = encoding_of_both a b (inl (front, 0x0A, e, omega arith)) in
      rw both (by_encodings a b cut (utf8_fault a) (utf8_fault b) f g refl refl h k)

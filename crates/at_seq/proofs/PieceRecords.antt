-- The pieces of a file by their places: of two neighbouring spans, of one that begins with a piece, and the records among them.
-- For `part_seq`.
use Rattle.std.proofs.Common.{◌≡◌, ℕ, ◌+◌, ◌-◌, ◌<◌, ◌≤◌, zero, suc, Bool, true, false, not, ◌&&◌, List, [], ◌∷◌, ◌++◌, length, slice_index, take, drop, refl, sym, ◌∙◌, ap, subst, arith, append_assoc, take_all}
use Rattle.std.specs.List.{position_or_len}
use Rattle.std.proofs.Math.Seq.{take-append_seam, drop-append_seam}
use Rattle.std.proofs.lemmas.List.Elements.{filter-append}
use Rattle.at_text.specs.Spans.{span_of}
use Rattle.at_text.specs.Texts.{is_space}
use Rattle.at_text.proofs.Separated.{glued, pieces_joined, pieces_first, pieces_last}
use Rattle.at_lex.specs.Fronts.{IsFront}
use Rattle.at_lex.specs.Spans.{AreSpaces}
use Rattle.at_lex.proofs.FrontLemmas.{front_all}
use Rattle.at_wkt.proofs.LineMerges.{span_of-joined, length-span_of}
use Rattle.at_text.specs.Separated.{Piece}
use Rattle.at_seq.specs.Records.{pieces_from, is_separator, are_spaces, records_in}
use Rattle.at_seq.specs.Fragments.{piece_in, pieces_in}

-- ---- records

abbrev is_record : Piece → Bool
is_record p = not (are_spaces p.text)

pub records_in-append : (ps qs : List Piece) → records_in (ps ++ qs) ≡ records_in ps ++ records_in qs
records_in-append ps qs = filter-append is_record ps qs

pub records_around : (ps : List Piece) (p : Piece) (qs : List Piece) → records_in (ps ++ (p ∷ qs)) ≡ (records_in ps ++ records_in (p ∷ [])) ++ records_in qs
records_around ps p qs = records_in-append ps (p ∷ qs) ∙ (ap (λ z. records_in ps ++ z) (records_in-append (p ∷ []) qs) ∙ sym (append_assoc (records_in ps) (records_in (p ∷ [])) (records_in qs)))

one_by : (p : Piece) (test : Bool) → are_spaces p.text ≡ test → (test ≡ true → records_in (p ∷ []) ≡ []) × (test ≡ false → records_in (p ∷ []) ≡ p ∷ [])
one_by p true e = (λ t. rw (e) refl, λ f. absurd (cc))
one_by p false e = (λ t. absurd (cc), λ f. rw (e) refl)

-- white space alone is no record
pub no_record : (p : Piece) → are_spaces p.text ≡ true → records_in (p ∷ []) ≡ []
no_record p e = (one_by p (are_spaces p.text) refl).0 e

pub one_record : (p : Piece) → are_spaces p.text ≡ false → records_in (p ∷ []) ≡ p ∷ []
one_record p e = (one_by p (are_spaces p.text) refl).1 e

-- white space, by how much of it stands at the front
spaces_test : (w : List ℕ) → AreSpaces w → are_spaces w ≡ true
spaces_test [] h = refl
spaces_test (b ∷ w) (h, hs) = ap (λ z. z && are_spaces w) h ∙ spaces_test w hs

pub all_spaces : (w : List ℕ) (n : ℕ) → IsFront is_space w n → n ≡ length w → AreSpaces w
all_spaces w n h e = subst AreSpaces (take_all n w (omega (arith, e))) (front_all is_space w n h)

pub are_all_spaces : (w : List ℕ) (n : ℕ) → IsFront is_space w n → n ≡ length w → are_spaces w ≡ true
are_all_spaces w n h e = spaces_test w (all_spaces w n h e)

and_false : (b : Bool) → (b && false) ≡ false
and_false true = refl
and_false false = refl

-- a byte that is none
pub other_stands : (w : List ℕ) (n : ℕ) → n < length w → is_space (slice_index w n) ≡ false → are_spaces w ≡ false
other_stands [] n h e = absurd (omega arith)
other_stands (b ∷ w) zero h e = ap (λ z. z && are_spaces w) e
other_stands (b ∷ w) (suc n) h e = ap (λ z. is_space b && z) (other_stands w n (omega arith) e) ∙ and_false (is_space b)

pub not_all_spaces : (w : List ℕ) (n : ℕ) → IsFront is_space w n → n < length w → are_spaces w ≡ false
not_all_spaces w n h inside = other_stands w n inside (h.stops inside)

-- ---- pieces by their places

module _ (bytes : List ℕ) where
  -- the pieces of two neighbouring spans
  pub pieces_both : (i j k : ℕ) → i ≤ j → j ≤ k → k ≤ length bytes → pieces_in bytes i k ≡ glued (pieces_in bytes i j) (pieces_in bytes j k)
  pieces_both i j k h g l =
      ap (pieces_from i) (span_of-joined bytes i j k h g) ∙ (pieces_joined is_separator i (span_of bytes i j) (span_of bytes j k)
      ∙ ap (λ n. glued (pieces_in bytes i j) (pieces_from n (span_of bytes j k))) (length-span_of bytes i j h (omega (arith, g, l))))

  -- two neighbouring parts as one piece
  pub piece_both : (i j k : ℕ) → i ≤ j → j ≤ k → record { at = i; text = span_of bytes i j ++ span_of bytes j k } ≡ piece_in bytes i k
  piece_both i j k h g = ap (λ z. record { at = i; text = z }) (sym (span_of-joined bytes i j k h g))

  pub part_front : (i p k : ℕ) → i + p ≤ k → k ≤ length bytes → take p (span_of bytes i k) ≡ span_of bytes i (i + p)
  part_front i p k h l =
      let width : i + p - i ≡ p = omega arith in
      let joined = span_of-joined bytes i (i + p) k (omega arith) h in
      let size : length (span_of bytes i (i + p)) ≡ p = omega (arith, length-span_of bytes i (i + p) (omega arith) (omega (arith, h, l))) in
      ap (take p) joined ∙ (ap (λ n. take n (span_of bytes i (i + p) ++ span_of bytes (i + p) k)) (sym size) ∙ take-append_seam (span_of bytes i (i + p)) (span_of bytes (i + p) k))

  part_rest : (i p k : ℕ) → i + p ≤ k → k ≤ length bytes → drop p (span_of bytes i k) ≡ span_of bytes (i + p) k
  part_rest i p k h l =
      let joined = span_of-joined bytes i (i + p) k (omega arith) h in
      let size : length (span_of bytes i (i + p)) ≡ p = omega (arith, length-span_of bytes i (i + p) (omega arith) (omega (arith, h, l))) in
      ap (drop p) joined ∙ (ap (λ n. drop n (span_of bytes i (i + p) ++ span_of bytes (i + p) k)) (sym size) ∙ drop-append_seam (span_of bytes i (i + p)) (span_of bytes (i + p) k))

  -- the bytes up to the first separator, and the pieces behind it
  pub pieces_ahead : (i k p : ℕ) → i ≤ k → k ≤ length bytes → p ≡ position_or_len is_separator (span_of bytes i k) → i + p < k
      → pieces_in bytes i k ≡ piece_in bytes i (i + p) ∷ pieces_in bytes (i + p + 1) k
  pieces_ahead i k p h l e inside =
      let size : i + length (span_of bytes i k) ≡ k = length-span_of bytes i k h l in
      let place : i + (p + 1) ≡ i + p + 1 = omega arith in
      pieces_first is_separator i (span_of bytes i k) p e (omega (arith, size, inside))
      ∙ (ap (λ z. record { at = i; text = z } ∷ pieces_from (i + p + 1) (drop (p + 1) (span_of bytes i k))) (part_front i p k (omega (arith, inside)) l)
      ∙ ap (λ z. piece_in bytes i (i + p) ∷ pieces_from (i + p + 1) z) (part_rest i (p + 1) k (omega (arith, inside)) l ∙ ap (λ n. span_of bytes n k) place))

  -- bytes without a separator
  pub pieces_alone : (i k p : ℕ) → i ≤ k → k ≤ length bytes → p ≡ position_or_len is_separator (span_of bytes i k) → i + p ≡ k → pieces_in bytes i k ≡ piece_in bytes i k ∷ []
  pieces_alone i k p h l e ends =
      let size : i + length (span_of bytes i k) ≡ k = length-span_of bytes i k h l in
      pieces_last is_separator i (span_of bytes i k) (sym e ∙ omega (arith, size, ends))

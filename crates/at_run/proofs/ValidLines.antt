-- A file of lines is valid UTF-8 exactly where each line that isn't blank is: the bytes between them are ASCII.
-- For `answer`, `answer_join`, `finish_pieces` and `part`.
use Rattle.std.proofs.Common.{◌≡◌, ℕ, ◌+◌, ◌<◌, ◌==◌, ◌↔◌, Bool, true, false, not, nat_eq, cond, if◌then◌else◌, List, [], ◌∷◌, ◌++◌, length, take, drop, slice_index, None, refl, sym, subst, arith, append-nil, append_assoc, length-append, take-append-drop}
use Rattle.std.specs.List.{AllByRecursion, starts_with, slice_split, onto_first}
use Rattle.std.specs.Str.{IsUtf8}
use Rattle.std.proofs.lemmas.Str.{IsUtf8-nil, IsUtf8-append, IsUtf8-take, IsUtf8-drop, IsCharBoundary-before_ascii, IsCharBoundary-after_ascii, IsCharBoundary-from_take}
use Rattle.std.proofs.Math.Seq.{take-append_seam, drop-append-add, get_or-append_seam}
use Rattle.std.proofs.lemmas.Slice.Eq.{bytes_eq-Decides}
use Rattle.at_text.specs.Texts.{utf8_fault, base_of, byte_order_mark}
use Rattle.at_text.specs.Separated.{placed}
use Rattle.at_wkt.specs.Lines.{FileLine, pieces_from, is_line_feed, without_return, line_of, is_blank_text, lines_in, lines_of}
use Rattle.at_wkt.proofs.LineMerges.{base_within}
use Rattle.at_run.specs.Gathering.{AreValid}
use Rattle.at_query.proofs.LineBytes.{blank_text_valid, byte_valid}
use Rattle.at_blocks.proofs.ValidSpans.{faultless, valid_faultless}

-- ---- text before and behind an ASCII byte

-- what is valid is so before an ASCII byte and behind it
cut_at : (u v : List ℕ) (b : ℕ) → b < 128 → IsUtf8 (u ++ b ∷ v) → IsUtf8 u × IsUtf8 v
cut_at u v b small h =
    let w : List ℕ = u ++ b ∷ v in
    let n = length-append u (b ∷ v) in
    let inside : length u < length w = omega (arith, n) in
    let ascii : slice_index w (length u) < 128 = subst (λ z. z < 128) (sym (get_or-append_seam u b v 0)) small in (
      subst IsUtf8 (take-append_seam u (b ∷ v)) (IsUtf8-take w (length u) h (IsCharBoundary-before_ascii w (length u) inside ascii)),
      subst IsUtf8 (drop-append-add u (b ∷ v) 1) (IsUtf8-drop w (length u + 1) h (IsCharBoundary-after_ascii w (length u) h inside ascii)),
    )

-- and the other way round
put_at : (u v : List ℕ) (b : ℕ) → b < 128 → IsUtf8 u → IsUtf8 v → IsUtf8 (u ++ b ∷ v)
put_at u v b small h k = IsUtf8-append u (b ∷ v) h (IsUtf8-append (b ∷ []) v (byte_valid b small) k)

-- ---- the carriage return of a line's end

-- with it and without
returned : (front w : List ℕ) → IsUtf8 (front ++ without_return w) ↔ IsUtf8 (front ++ w)
returned front [] = (λ h. h, λ h. h)
returned front (b ∷ []) = go (b == 0x0D) refl where
  go : (t : Bool) → (b == 0x0D) ≡ t → IsUtf8 (front ++ (if t then [] else b ∷ [])) ↔ IsUtf8 (front ++ b ∷ [])
  go true e = (λ h. put_at front [] b (grind (arith, e)) (rw append-nil at h) IsUtf8-nil, λ h. rw append-nil (cut_at front [] b (grind (arith, e)) h).0)
  go false e = (λ h. h, λ h. h)
returned front (b ∷ c ∷ w) = simp append_assoc at (returned (front ++ b ∷ []) (c ∷ w))

-- ---- pieces between line feeds

chained : {A B C : Type 0} → A ↔ B → B ↔ C → A ↔ C
chained (f, g) (h, k) = (λ a. h (f a), λ c. g (k c))

abbrev AreTexts : List (List ℕ) → Type 0
AreTexts ts = AllByRecursion IsUtf8 ts

-- with these bytes before the first
abbrev AreBehind : List ℕ → List (List ℕ) → Type 0
AreBehind front [] = IsUtf8 front
AreBehind front (t ∷ ts) = IsUtf8 (front ++ t) × AreTexts ts

behind_more : (front : List ℕ) (b : ℕ) (ts : List (List ℕ)) → AreBehind (front ++ b ∷ []) ts ↔ AreBehind front (onto_first b ts)
behind_more front b [] = (λ h. (h, tt), λ h. h.0)
behind_more front b (t ∷ ts) = simp append_assoc (λ h. h, λ h. h)

behind_none : (ts : List (List ℕ)) → AreBehind [] ts ↔ AreTexts ts
behind_none [] = (λ h. tt, λ h. IsUtf8-nil)
behind_none (t ∷ ts) = (λ h. h, λ h. h)

split_valid : (front w : List ℕ) → IsUtf8 (front ++ w) ↔ AreBehind front (slice_split is_line_feed w)
split_valid front [] = (λ h. (h, tt), λ h. h.0)
split_valid front (b ∷ w) = go (is_line_feed b) refl (split_valid (front ++ b ∷ []) w) (chained (split_valid [] w) (behind_none (slice_split is_line_feed w))) where
  go : (t : Bool) → is_line_feed b ≡ t → IsUtf8 ((front ++ b ∷ []) ++ w) ↔ AreBehind (front ++ b ∷ []) (slice_split is_line_feed w) → IsUtf8 w ↔ AreTexts (slice_split is_line_feed w)
      → IsUtf8 (front ++ b ∷ w) ↔ AreBehind front (cond t ([] ∷ slice_split is_line_feed w) (onto_first b (slice_split is_line_feed w)))
  go true e on anew = (
    λ h. let (p, q) = cut_at front w b (grind (arith, e)) h in (rw append-nil p, anew.0 q),
    λ (p, ps). put_at front w b (grind (arith, e)) (rw append-nil at p) (anew.1 ps),
  )
  go false e on anew = chained (rw append_assoc at on) (behind_more front b (slice_split is_line_feed w))

-- ---- pieces with their offsets, and the lines of them

placed_valid : (at : ℕ) (ts : List (List ℕ)) → AreTexts ts ↔ AreValid (placed at ts)
placed_valid at [] = (λ h. h, λ h. h)
placed_valid at (t ∷ ts) = let more = placed_valid (at + length t + 1) ts in (λ h. (h.0, more.0 h.1), λ h. (h.0, more.1 h.1))

lines_of_pieces : (ps : List FileLine) → AreValid ps ↔ AreValid (lines_in ps)
lines_of_pieces [] = (λ h. h, λ h. h)
lines_of_pieces (p ∷ ps) = go (is_blank_text (without_return p.text)) refl (lines_of_pieces ps) (returned [] p.text) where
  go : (t : Bool) → is_blank_text (without_return p.text) ≡ t → AreValid ps ↔ AreValid (lines_in ps) → IsUtf8 (without_return p.text) ↔ IsUtf8 p.text
      → AreValid (p ∷ ps) ↔ AreValid (cond (not t) (line_of p ∷ lines_in ps) (lines_in ps))
  go true e rest first = (λ h. rest.0 h.1, λ h. (first.0 (blank_text_valid (without_return p.text) e), rest.1 h))
  go false e rest first = (λ h. (first.1 h.0, rest.0 h.1), λ h. (first.0 h.0, rest.1 h.1))

text_lines : (at : ℕ) (w : List ℕ) → IsUtf8 w ↔ AreValid (lines_in (pieces_from at w))
text_lines at w = let ts = slice_split is_line_feed w in chained (split_valid [] w) (chained (behind_none ts) (chained (placed_valid at ts) (lines_of_pieces (pieces_from at w))))

-- ---- the file

-- a byte order mark is one character
mark_valid : (bytes : List ℕ) (t : Bool) → starts_with nat_eq bytes byte_order_mark ≡ t → IsUtf8 (take (if t then 3 else 0) bytes)
unfolding lib.Utf8.encode
mark_valid bytes true e = subst IsUtf8 ((bytes_eq-Decides byte_order_mark (take 3 bytes)).0 e) (0xFEFF ∷ [], (refl, refl))
mark_valid bytes false e = IsUtf8-nil

mark_taken : (bytes : List ℕ) → IsUtf8 (take (base_of bytes) bytes)
mark_taken bytes = mark_valid bytes (starts_with nat_eq bytes byte_order_mark) refl

-- where each line of a file is valid, its encoding has no fault
pub file_valid : (bytes : List ℕ) → AreValid (lines_of bytes) → utf8_fault bytes ≡ None
file_valid bytes h =
    let n = base_of bytes in
    valid_faultless bytes (subst IsUtf8 (take-append-drop n bytes) (IsUtf8-append (take n bytes) (drop n bytes) (mark_taken bytes) ((text_lines n (drop n bytes)).1 h)))

-- and the other way round
pub lines_valid : (bytes : List ℕ) → None ≡ utf8_fault bytes → AreValid (lines_of bytes)
lines_valid bytes none =
    let n = base_of bytes in
    let whole = faultless bytes none in
    (text_lines n (drop n bytes)).0 (IsUtf8-drop bytes n whole (IsCharBoundary-from_take bytes n whole (base_within bytes) (mark_taken bytes)))

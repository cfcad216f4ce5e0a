-- The encoding of bytes that are cut before or behind one of ASCII: no character is cut there.
-- For `encoding_of_parts`, `line_faults`, `sequence_faults` and `sound_parts`.
use Rattle.std.proofs.Common.{◌≡◌, inl, inr, ℕ, zero, suc, ◌+◌, ◌-◌, ◌<◌, ◌≤◌, Bool, true, false, if◌then◌else◌, List, [], ◌∷◌, ◌++◌, length, take, get_or, Option, Some, None, option_map, refl, sym, ◌∙◌, ap, subst, arith, length-append, append_assoc, take_all, ⊎_elim}
use native.Mathlib.Decide.{dec_lt}
use Rattle.std.proofs.Math.Seq.{take-append_seam, drop-append_seam, get_or-append_seam, take-append-add}
use Rattle.std.proofs.lemmas.Bool.{cases_Bool}
use Rattle.std.proofs.lemmas.List.{take-append-le}
use Rattle.std.specs.Str.{IsUtf8, IsCharBoundary, IsValidUpTo, is_utf8}
use Rattle.std.specs.Str.Lossy.{utf8_valid_len, valid_len_up_to}
use Rattle.std.proofs.lemmas.Str.{IsUtf8-nil, IsUtf8-append, IsUtf8-take, IsUtf8-drop, IsUtf8-from_is_utf8, is_utf8-from_IsUtf8, IsCharBoundary-before_ascii, IsCharBoundary-after_ascii, utf8_valid_len-IsValidUpTo}
use Rattle.std.proofs.lemmas.Option.{same_Some}
use Rattle.at_text.specs.declared.faults.Fault.{Fault}
use Rattle.at_text.specs.declared.faults.FaultKind.TheVariants.{NotUtf8}
use Rattle.at_text.specs.Faults.{first_fault, fault_at}
use Rattle.at_text.specs.Texts.{utf8_fault}
use Rattle.at_parts.specs.Moved.{fault_moved}
use Rattle.at_parts.specs.Records.{IsCutByAscii, EncodingIsOfTheParts}
use Rattle.at_parts.proofs.LaterFaults.{IsLater, encoding_before, encoding_first}

-- ---- the longest front

no_text : (w : List ℕ) → is_utf8 w ≡ false → ¬ IsUtf8 w
no_text w e h = absurd (let k = is_utf8-from_IsUtf8 w h in cc)

is_no_text : (w : List ℕ) → ¬ IsUtf8 w → is_utf8 w ≡ false
is_no_text w h = ⊎_elim (λ yes. absurd (h (IsUtf8-from_is_utf8 w yes))) (λ no. no) (cases_Bool (is_utf8 w))

-- the front of m bytes is text, and no front up to n is that is longer
abbrev IsLongest : List ℕ → ℕ → ℕ → Type 0
IsLongest w n m = IsUtf8 (take m w) × ((k : ℕ) → k ≤ n → IsUtf8 (take k w) → k ≤ m)

longest_by : (w : List ℕ) (m n : ℕ) (b : Bool) → is_utf8 (take (suc n) w) ≡ b → IsLongest w n m → IsLongest w (suc n) (if b then suc n else m)
longest_by w m n true e h = (IsUtf8-from_is_utf8 (take (suc n) w) e, λ k within t. within)
longest_by w m n false e (front, longest) = (
  front,
  λ k within t. elim (dec_lt n k) [
    | yes above ↦ (let all : k ≡ suc n = omega (arith, above, within) in absurd (no_text (take (suc n) w) e (subst (λ i. IsUtf8 (take i w)) all t)))
    | no below ↦ longest k (omega (arith, below)) t
  ],
)

longest_up_to : (w : List ℕ) (n : ℕ) → IsLongest w n (valid_len_up_to w n)
longest_up_to w zero = (IsUtf8-nil, λ k within t. within)
longest_up_to w (suc n) = longest_by w (valid_len_up_to w n) n (is_utf8 (take (suc n) w)) refl (longest_up_to w n)

-- bytes that are no text go on behind their longest front
valid_up_to : (w : List ℕ) → ¬ IsUtf8 w → IsValidUpTo w (utf8_valid_len w)
unfolding utf8_valid_len
valid_up_to w not =
    let (front, longest) = longest_up_to w (length w) in
    record {
      short = elim (dec_lt (utf8_valid_len w) (length w)) [
        | yes below ↦ below
        | no above ↦ absurd (not (subst IsUtf8 (take_all (utf8_valid_len w) w (omega (arith, above))) front))
      ];
      front = front;
      longest = λ m above h. elim (dec_lt m (length w)) [
        | yes below ↦ (let k = longest m (omega (arith, below)) h in absurd (omega (arith, k, above)))
        | no beyond ↦ not (subst IsUtf8 (take_all m w (omega (arith, beyond))) h)
      ];
    }

-- ---- the cut

cut_boundary : (a b : List ℕ) → IsCutByAscii a b → IsUtf8 (a ++ b) → IsCharBoundary (a ++ b) (length a)
cut_boundary a b (inl (front, c, e, small)) h =
    let size : length front + 1 ≡ length a = omega (arith, ap length e, length-append front (c ∷ [])) in
    let inside : length front < length (a ++ b) = omega (arith, length-append a b) in
    let byte : get_or (a ++ b) (length front) 0 ≡ c = ap (λ w. get_or (w ++ b) (length front) 0) e ∙ ap (λ w. get_or w (length front) 0) (append_assoc front (c ∷ []) b) ∙ get_or-append_seam front c b 0 in
    subst (IsCharBoundary (a ++ b)) size (IsCharBoundary-after_ascii (a ++ b) (length front) h inside (omega (arith, byte, small)))
cut_boundary a b (inr (c, rest, e, small)) h =
    let inside : length a < length (a ++ b) = omega (arith, ap length e, length-append a b) in
    let byte : get_or (a ++ b) (length a) 0 ≡ c = ap (λ w. get_or (a ++ w) (length a) 0) e ∙ get_or-append_seam a c rest 0 in
    IsCharBoundary-before_ascii (a ++ b) (length a) inside (omega (arith, byte, small))

parts_text : (a b : List ℕ) → IsCutByAscii a b → IsUtf8 (a ++ b) → IsUtf8 a × IsUtf8 b
parts_text a b cut h =
    let at = cut_boundary a b cut h in
    (subst IsUtf8 (take-append_seam a b) (IsUtf8-take (a ++ b) (length a) h at), subst IsUtf8 (drop-append_seam a b) (IsUtf8-drop (a ++ b) (length a) h at))

-- the cut is so before each front of what follows it that has a byte
cut_short : (a b : List ℕ) (k : ℕ) → 0 < k → IsCutByAscii a b → IsCutByAscii a (take k b)
cut_short a b k some (inl h) = inl h
cut_short a b zero some (inr h) = absurd (omega (arith, some))
cut_short a b (suc k) some (inr (c, rest, e, small)) = inr (c, take k rest, ap (take (suc k)) e, small)

-- a front of the whole that goes beyond the cut
beyond : (a b : List ℕ) (m : ℕ) → IsCutByAscii a b → length a < m → IsUtf8 (take m (a ++ b)) → IsUtf8 a × IsUtf8 (take (m - length a) b)
beyond a b m cut above h =
    let e : m ≡ length a + (m - length a) = omega (arith, above) in
    let front : take m (a ++ b) ≡ a ++ take (m - length a) b = ap (λ n. take n (a ++ b)) e ∙ take-append-add a b (m - length a) in
    parts_text a (take (m - length a) b) (cut_short a b (m - length a) (omega (arith, above)) cut) (subst IsUtf8 front h)

-- ---- the fault

-- the first part is no text
first_len : (a b : List ℕ) → IsCutByAscii a b → ¬ IsUtf8 a → utf8_valid_len (a ++ b) ≡ utf8_valid_len a
first_len a b cut not =
    let v = valid_up_to a not in
    utf8_valid_len-IsValidUpTo (a ++ b) (utf8_valid_len a) (record {
      short = omega (arith, v.short, length-append a b);
      front = subst IsUtf8 (sym (take-append-le (utf8_valid_len a) a b (omega (arith, v.short)))) v.front;
      longest = λ m above h. elim (dec_lt (length a) m) [
        | yes more ↦ not (beyond a b m cut more h).0
        | no less ↦ v.longest m above (subst IsUtf8 (take-append-le m a b (omega (arith, less))) h)
      ];
    })

-- the first part is text, and the second is none
second_len : (a b : List ℕ) → IsCutByAscii a b → IsUtf8 a → ¬ IsUtf8 b → utf8_valid_len (a ++ b) ≡ length a + utf8_valid_len b
second_len a b cut text not =
    let v = valid_up_to b not in
    utf8_valid_len-IsValidUpTo (a ++ b) (length a + utf8_valid_len b) (record {
      short = omega (arith, v.short, length-append a b);
      front = subst IsUtf8 (sym (take-append-add a b (utf8_valid_len b))) (IsUtf8-append a (take (utf8_valid_len b) b) text v.front);
      longest = λ m above h. v.longest (m - length a) (omega (arith, above)) (beyond a b m cut (omega (arith, above)) h).1;
    })

fault_is : (w : List ℕ) (n : ℕ) → ¬ IsUtf8 w → utf8_valid_len w ≡ n → utf8_fault w ≡ Some (fault_at NotUtf8 n)
fault_is w n h e = rw (is_no_text w h) (ap (λ k. Some (fault_at NotUtf8 k)) e)

by_parts : (a b : List ℕ) → IsCutByAscii a b → (p q : Bool) → is_utf8 a ≡ p → is_utf8 b ≡ q
    → utf8_fault (a ++ b) ≡ first_fault (if p then None else Some (fault_at NotUtf8 (utf8_valid_len a))) (option_map (fault_moved (length a)) (if q then None else Some (fault_at NotUtf8 (utf8_valid_len b))))
by_parts a b cut true true e f = rw (is_utf8-from_IsUtf8 (a ++ b) (IsUtf8-append a b (IsUtf8-from_is_utf8 a e) (IsUtf8-from_is_utf8 b f)))
by_parts a b cut true false e f = fault_is (a ++ b) (length a + utf8_valid_len b) (λ h. no_text b f (parts_text a b cut h).1) (second_len a b cut (IsUtf8-from_is_utf8 a e) (no_text b f))
by_parts a b cut false q e f =
    fault_is (a ++ b) (utf8_valid_len a) (λ h. no_text a e (parts_text a b cut h).0) (first_len a b cut (no_text a e))
    ∙ sym (encoding_first (utf8_valid_len a) (length a) (if q then None else Some (fault_at NotUtf8 (utf8_valid_len b))) (valid_up_to a (no_text a e)).short)

pub encoding_of_both : EncodingIsOfTheParts
encoding_of_both a b cut = by_parts a b cut (is_utf8 a) (is_utf8 b) refl refl

-- where a fault of the encoding stands
pub encoding_fault : (w : List ℕ) (fault : Fault) → utf8_fault w ≡ Some fault → (n : ℕ) × (fault ≡ fault_at NotUtf8 n) × (n < length w)
encoding_fault w fault e = by_test (is_utf8 w) refl e where
  by_test : (b : Bool) → is_utf8 w ≡ b → (if b then None else Some (fault_at NotUtf8 (utf8_valid_len w))) ≡ Some fault → (n : ℕ) × (fault ≡ fault_at NotUtf8 n) × (n < length w)
  by_test true f k = absurd (cc)
  by_test false f k = (utf8_valid_len w, sym (same_Some (fault_at NotUtf8 (utf8_valid_len w)) fault k), (valid_up_to w (no_text w f)).short)

-- a fault of the first part's encoding is told before all faults of the second part
pub first_told : (a : List ℕ) (x : Fault) (o : Option Fault) → utf8_fault a ≡ Some x → first_fault (Some x) (option_map (fault_moved (length a)) o) ≡ Some x
first_told a x o u = let (n, e, inside) = encoding_fault a x u in rw e (encoding_first n (length a) o inside)

-- and one of the second part's before later faults of the first part
pub second_told : (b : List ℕ) (d : ℕ) (y : Fault) (o : Option Fault) → utf8_fault b ≡ Some y → IsLater o → first_fault o (Some (fault_moved d y)) ≡ Some (fault_moved d y)
second_told b d y o u later = let (n, e, inside) = encoding_fault b y u in rw e (encoding_before o (d + n) later)

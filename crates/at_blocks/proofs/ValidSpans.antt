-- Spans of a file's bytes that are UTF-8, how two of neighbouring parts are joined, and the file around one.
-- For most public calls of the crate, `answer`, `answer_join`, `finish_pieces` among them.
use Rattle.std.proofs.Common.{◌≡◌, ℕ, zero, suc, ◌+◌, ◌-◌, ◌≤◌, Bool, true, false, ◌&&◌, if◌then◌else◌, nat_eq, List, [], ◌∷◌, ◌++◌, length, take, drop, Option, Some, None, is_some, not, IsTrue, ◌↔◌, refl, sym, ap, subst, ◌∙◌, arith, drop-drop, take-take, take-append-drop, length-drop}
use Rattle.std.specs.List.{starts_with}
use Rattle.std.specs.Str.{IsUtf8, is_utf8}
use Rattle.std.specs.Str.Lossy.{utf8_valid_len, valid_len_up_to}
use Rattle.std.proofs.lemmas.List.{drop-take, take_rest, length-take-le}
use Rattle.std.proofs.lemmas.Str.{IsUtf8-nil, IsUtf8-append, IsUtf8-from_is_utf8, is_utf8-from_IsUtf8, utf8_valid_len_le, utf8_valid_len-IsUtf8}
use Rattle.at_text.specs.Faults.{fault_at}
use Rattle.at_text.specs.Spans.{span_of, StandsAt, IsMerged}
use Rattle.at_text.specs.Texts.{byte_order_mark, base_of, utf8_fault}
use Rattle.at_text.specs.declared.faults.Fault.{Fault}
use Rattle.at_text.specs.declared.faults.FaultKind.TheVariants.{NotUtf8}
use Rattle.at_text.specs.declared.texts.Span.{Span}
use Rattle.at_blocks.specs.Encodings.{IsValidIn}

-- ---- where the text begins, and parts of the bytes

marked_within : (bytes mark : List ℕ) → starts_with nat_eq bytes mark ≡ true → length mark ≤ length bytes
marked_within bytes [] h = omega arith
marked_within [] (m ∷ mark) h = absurd (cc)
marked_within (b ∷ bytes) (m ∷ mark) h = omega (arith, marked_within bytes mark (and_right (nat_eq m b) (starts_with nat_eq bytes mark) h)) where
  and_right : (x y : Bool) → (x && y) ≡ true → y ≡ true
  and_right true y e = e
  and_right false y e = absurd (cc)

pub text_within : (bytes : List ℕ) → base_of bytes ≤ length bytes
text_within bytes = by_test (starts_with nat_eq bytes byte_order_mark) refl where
  by_test : (test : Bool) → starts_with nat_eq bytes byte_order_mark ≡ test → (if test then 3 else 0) ≤ length bytes
  by_test true e = marked_within bytes byte_order_mark e
  by_test false e = omega arith

span_length : (bytes : List ℕ) (i j : ℕ) → i ≤ j → j ≤ length bytes → i + length (span_of bytes i j) ≡ j
span_length bytes i j h k = let n = length-take-le (j - i) (drop i bytes) (omega (arith, length-drop i bytes)) in omega (arith, n)

fronts_joined : (w : List ℕ) (n m : ℕ) → take n w ++ take m (drop n w) ≡ take (n + m) w
fronts_joined w n m = ap (λ z. z ++ take m (drop n w)) (sym (take-take n (n + m) w (omega arith))) ∙ (ap (λ z. take n (take (n + m) w) ++ z) (sym (drop-take n m w)) ∙ take-append-drop n (take (n + m) w))

neighbours_joined : (bytes : List ℕ) (i j k : ℕ) → i ≤ j → j ≤ k → span_of bytes i j ++ span_of bytes j k ≡ span_of bytes i k
neighbours_joined bytes i j k h g = let e : i + (j - i) ≡ j = omega arith in let f : (j - i) + (k - j) ≡ k - i = omega arith in
    ap (λ z. span_of bytes i j ++ take (k - j) (drop z bytes)) (sym e) ∙ (ap (λ z. span_of bytes i j ++ take (k - j) z) (sym (drop-drop (j - i) i bytes)) ∙ (fronts_joined (drop i bytes) (j - i) (k - j) ∙ ap (λ z. take z (drop i bytes)) f))

-- ---- what a fault of the encoding says

front_by : (bytes : List ℕ) (m n : ℕ) (b : Bool) → is_utf8 (take m bytes) ≡ b → IsUtf8 (take n bytes) → IsUtf8 (take (if b then m else n) bytes)
front_by bytes m n true is below = IsUtf8-from_is_utf8 (take m bytes) is
front_by bytes m n false is below = below

front_up_to : (bytes : List ℕ) (n : ℕ) → IsUtf8 (take (valid_len_up_to bytes n) bytes)
front_up_to bytes zero = IsUtf8-nil
front_up_to bytes (suc n) = front_by bytes (suc n) (valid_len_up_to bytes n) (is_utf8 (take (suc n) bytes)) refl (front_up_to bytes n)

valid_front : (bytes : List ℕ) → IsUtf8 (take (utf8_valid_len bytes) bytes)
unfolding utf8_valid_len
valid_front bytes = front_up_to bytes (length bytes)

none_by : (b : Bool) (fault : Fault) → None ≡ (if b then None else Some fault) → b ≡ true
none_by true fault e = refl
none_by false fault e = absurd (cc)

some_by : (b : Bool) (one other : Fault) → Some other ≡ (if b then None else Some one) → one ≡ other
some_by true one other e = absurd (cc)
some_by false one other e = cc

pub faultless : (bytes : List ℕ) → None ≡ utf8_fault bytes → IsUtf8 bytes
faultless bytes none = IsUtf8-from_is_utf8 bytes (none_by (is_utf8 bytes) (fault_at NotUtf8 (utf8_valid_len bytes)) none)

pub valid_faultless : (bytes : List ℕ) → IsUtf8 bytes → utf8_fault bytes ≡ None
valid_faultless bytes valid = rw (is_utf8-from_IsUtf8 bytes valid)

-- what a test for no fault says
pub faultless_iff : (bytes : List ℕ) (found : Option Fault) (tested : Bool) → found ≡ utf8_fault bytes → is_some found ≡ not tested → IsTrue tested ↔ IsUtf8 bytes
faultless_iff bytes None true is same = (λ passed. faultless bytes is, λ valid. refl)
faultless_iff bytes None false is same = absurd (cc)
faultless_iff bytes (Some fault) true is same = absurd (cc)
faultless_iff bytes (Some fault) false is same = (λ passed. absurd (cc), λ valid. absurd (let none = valid_faultless bytes valid in cc))

-- where the longest front ends
pub faultless_len : (bytes : List ℕ) → None ≡ utf8_fault bytes → length bytes ≡ utf8_valid_len bytes
faultless_len bytes none = sym (utf8_valid_len-IsUtf8 bytes (faultless bytes none))

pub fault_place : (bytes : List ℕ) (fault : Fault) → Some fault ≡ utf8_fault bytes → fault.at ≡ utf8_valid_len bytes
fault_place bytes fault some = sym (ap (λ (f : Fault). f.at) (some_by (is_utf8 bytes) (fault_at NotUtf8 (utf8_valid_len bytes)) fault some))

pub fault_within : (bytes : List ℕ) (fault : Fault) → Some fault ≡ utf8_fault bytes → fault.at ≤ length bytes
fault_within bytes fault some = omega (arith, fault_place bytes fault some, utf8_valid_len_le bytes)

-- ---- a part of a part

part_within : (bytes : List ℕ) (i k m n : ℕ) → i ≤ m → m ≤ n → n ≤ k → span_of (span_of bytes i k) (m - i) (n - i) ≡ span_of bytes m n
part_within bytes i k m n low order high =
    let e : k - i ≡ (m - i) + (k - m) = omega arith in
    let f : i + (m - i) ≡ m = omega arith in
    let g : n - i - (m - i) ≡ n - m = omega arith in
    ap (λ z. take (n - i - (m - i)) (drop (m - i) (take z (drop i bytes)))) e
    ∙ (ap (take (n - i - (m - i))) (drop-take (m - i) (k - m) (drop i bytes) ∙ ap (take (k - m)) (drop-drop (m - i) i bytes ∙ ap (λ z. drop z bytes) f))
    ∙ (ap (λ z. take z (take (k - m) (drop m bytes))) g ∙ take-take (n - m) (k - m) (drop m bytes) (omega arith)))

-- the longest front of what stands behind the first bytes of a piece
pub span_stands : (piece : List ℕ) (base skipped len : ℕ) → skipped ≤ length piece → len ≡ utf8_valid_len (span_of piece skipped (length piece)) → IsValidIn base piece (record { from = base + skipped; to = base + skipped + len })
span_stands piece base skipped len within longest =
    let rest : List ℕ = drop skipped piece in
    let is : len ≡ utf8_valid_len rest = longest ∙ ap utf8_valid_len (take_rest piece skipped) in
    let short : utf8_valid_len rest ≤ length rest = utf8_valid_len_le rest in
    let left : length rest ≡ length piece - skipped = length-drop skipped piece in
    let from : base + skipped - base ≡ skipped = omega arith in
    let count : base + skipped + len - base - (base + skipped - base) ≡ utf8_valid_len rest = omega (arith, is) in
    record {
      begins = omega arith;
      order = omega arith;
      ends = omega (arith, is, short, left, within);
      utf8 = subst IsUtf8 (sym (ap (λ z. take (base + skipped + len - base - (base + skipped - base)) (drop z piece)) from ∙ ap (λ z. take z rest) count)) (valid_front rest);
    }

module _ (bytes : List ℕ) where
  ends_in : (i k : ℕ) (valid : Span) → i ≤ k → k ≤ length bytes → StandsAt IsValidIn bytes i k valid → valid.to ≤ k
  ends_in i k valid order within h = let n = span_length bytes i k order within in let e = h.ends in omega (arith, n, e)

  utf8_in : (i k : ℕ) (valid : Span) → i ≤ k → k ≤ length bytes → StandsAt IsValidIn bytes i k valid → IsUtf8 (span_of bytes valid.from valid.to)
  utf8_in i k valid order within h = subst IsUtf8 (part_within bytes i k valid.from valid.to h.begins h.order (ends_in i k valid order within h)) h.utf8

  stands_in : (i k : ℕ) (valid : Span) → k ≤ length bytes → i ≤ valid.from → valid.from ≤ valid.to → valid.to ≤ k → IsUtf8 (span_of bytes valid.from valid.to) → StandsAt IsValidIn bytes i k valid
  stands_in i k valid within begins order ends utf8 = record {
    begins = begins;
    order = order;
    ends = (let n = span_length bytes i k (omega arith) within in omega (arith, n));
    utf8 = subst IsUtf8 (sym (part_within bytes i k valid.from valid.to begins order ends)) utf8;
  }

  utf8_joined : (i j k : ℕ) → i ≤ j → j ≤ k → IsUtf8 (span_of bytes i j) → IsUtf8 (span_of bytes j k) → IsUtf8 (span_of bytes i k)
  utf8_joined i j k low high left right = subst IsUtf8 (neighbours_joined bytes i j k low high) (IsUtf8-append (span_of bytes i j) (span_of bytes j k) left right)

  -- ---- two neighbours

  pub spans_joined : (left right : Span) → IsUtf8 (span_of bytes left.to right.from) → IsMerged IsValidIn bytes left right (record { from = left.from; to = right.to })
  spans_joined left right between i j k n =
      let l_ends : left.to ≤ j = ends_in i j left n.first (omega arith) n.left in
      let r_ends : right.to ≤ k = ends_in j k right n.second n.within n.right in
      let begins = n.right.begins in let order = n.right.order in let l_order = n.left.order in
      let front : IsUtf8 (span_of bytes left.from right.from) = utf8_joined left.from left.to right.from l_order (omega arith) (utf8_in i j left n.first (omega arith) n.left) between in
      stands_in i k (record { from = left.from; to = right.to }) n.within n.left.begins (omega arith) r_ends (utf8_joined left.from right.from right.to (omega arith) order front (utf8_in j k right n.second n.within n.right))

  pub left_alone : (left right : Span) → IsMerged IsValidIn bytes left right left
  left_alone left right i j k n =
      let l_ends : left.to ≤ j = ends_in i j left n.first (omega arith) n.left in
      stands_in i k left n.within n.left.begins n.left.order (omega arith) (utf8_in i j left n.first (omega arith) n.left)

  -- ---- the whole file

  pub span_ends : (at : ℕ) (valid : Span) → at ≤ length bytes → IsValidIn at (drop at bytes) valid → valid.to ≤ length bytes
  span_ends at valid within h = let n = length-drop at bytes in let e = h.ends in omega (arith, n, e)

  pub valid_around : (at : ℕ) (valid : Span) → at ≤ length bytes → IsValidIn at (drop at bytes) valid → IsUtf8 (take valid.from bytes) → IsUtf8 (span_of bytes valid.to (length bytes)) → utf8_fault bytes ≡ None
  valid_around at valid within h front back =
      let own : IsUtf8 (span_of bytes valid.from valid.to) = utf8_in at (length bytes) valid within (omega arith) (rw take_rest h) in
      let rest : IsUtf8 (span_of bytes valid.from (length bytes)) = utf8_joined valid.from valid.to (length bytes) h.order (span_ends at valid within h) own back in
      let split : take valid.from bytes ++ span_of bytes valid.from (length bytes) ≡ bytes = ap (λ z. take valid.from bytes ++ z) (take_rest bytes valid.from) ∙ take-append-drop valid.from bytes in
      valid_faultless bytes (subst IsUtf8 split (IsUtf8-append (take valid.from bytes) (span_of bytes valid.from (length bytes)) front rest))

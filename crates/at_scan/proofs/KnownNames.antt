-- Words that are looked at sixteen bytes together, and the names of members that they are. For `field_name`, `next_name` and `known_kind`.
use Rattle.std.proofs.Common.{◌≡◌, ℕ, ◌+◌, ◌-◌, ◌<◌, ◌≤◌, ◌%◌, ◌^◌, Bool, true, not, cond, eqb, List, map, take, drop, length, get_or, slice_index, refl, sym, ◌∙◌, ap, subst, arith}
use Rattle.std.proofs.lemmas.Grind.{same_number_lists}
use Rattle.std.proofs.lemmas.List.Folds.{list_all_at}
use Rattle.std.specs.List.{list_all}
use Rattle.std.proofs.lemmas.Simd.{length-chunk, length-zip2, mask_l-mod, first_set_mask_l, get_or-zip2}
use Rattle.std.proofs.lemmas.List.{length-map, get_or-take, get_or-drop}
use Rattle.std.proofs.lemmas.List.Sums.{prefix_len_passes, prefix_len-le-length}
use Rattle.std.specs.List.{prefix_len}
use Rattle.std.specs.Simd.Lanes.{zip2}
use lib.Lanes.{chunk, mask_l, top}
use Rattle.at_fixed.specs.Eights.{first_set}
use Rattle.at_fixed.specs.NumberSoFar.{between}
use Rattle.at_fixed.proofs.DigitParts.{part-none}
use Rattle.at_lex.specs.Strings.{JsonString}
use Rattle.at_scan.proofs.Taken.{rest_to}
use Rattle.at_scan.specs.Places.{is_simple, is_common, IsTextAt, IsSimpleTextAt, IsNameAt}
use Rattle.at_lex.specs.Spans.{AreSpaces}
use Rattle.at_scan.specs.declared.kinds.Kind.{Kind}
use Rattle.at_scan.specs.declared.fields.Field.{Field}
use Rattle.at_scan.specs.Names.{kind_of_text}
use Rattle.at_scan.specs.declared.places.NamePlace.{NamePlace}
use Rattle.at_scan.specs.Fields.{field_of}
use Rattle.at_scan.specs.Members.{name_in, from_name, IsPlainName}
use Rattle.at_scan.specs.KnownNames.{BeginsAlike, StandsWord, IsQuoted, NamesField, NamesKind, IsFieldName, IsKindName}
use Rattle.at_scan.proofs.ShortStrings.{short_text}
use Rattle.at_scan.proofs.SimpleTexts.{plain_text_is, plain_name_is}

-- ---- lanes that are compared

abbrev pub differs : ℕ → ℕ → ℕ
differs a b = cond (not (eqb a b)) 255 0

no_mark : (a b : ℕ) → not (top 7 (differs a b)) ≡ true → a ≡ b
no_mark a b h = grind arith

pub begins_alike : (w : List ℕ) (at : ℕ) (word : List ℕ) (r : ℕ) → at + 16 ≤ length w → 16 ≤ length word → r ≡ first_set (mask_l (map (top 7) (zip2 differs (chunk at 16 w) (chunk 0 16 word))) % 2 ^ 64) 16 → BeginsAlike w at word r
begins_alike w at word r room long found = record {
  few = omega (arith, counted, prefix_len-le-length (λ x. not (top 7 x)) m, size);
  same = λ k h. lane k (omega (arith, h, counted, prefix_len-le-length (λ x. not (top 7 x)) m, size)) (omega (arith, h, counted));
}
  where
    v : List ℕ
    v = chunk at 16 w

    u : List ℕ
    u = chunk 0 16 word

    m : List ℕ
    m = zip2 differs v u

    size_v : length v ≡ 16
    size_v = length-chunk at 16 w room

    size_u : length u ≡ 16
    size_u = length-chunk 0 16 word long

    size : length m ≡ 16
    size = length-zip2 differs v u (size_v ∙ sym size_u) ∙ size_v

    counted : r ≡ prefix_len (λ x. not (top 7 x)) m
    counted = found ∙ (ap (λ n. first_set n 16) (mask_l-mod (map (top 7) m) 64 (omega (arith, length-map m (top 7), size))) ∙ first_set_mask_l (top 7) m 16 size (omega arith))

    lane : (k : ℕ) → k < 16 → k < prefix_len (λ x. not (top 7 x)) m → slice_index w (at + k) ≡ slice_index word k
    lane k few h =
        let same = no_mark (get_or v k 0) (get_or u k 0) (ap (λ x. not (top 7 x)) (sym (get_or-zip2 differs v u k 0 0 0 (omega (arith, few, size_v)) (omega (arith, few, size_u)))) ∙ prefix_len_passes (λ x. not (top 7 x)) m k 0 h) in
        sym (get_or-take 16 (drop at w) k 0 few ∙ get_or-drop at w k 0) ∙ (same ∙ get_or-take 16 word k 0 few)

-- ---- words

chunk_at : (xs : List ℕ) (i n k : ℕ) → k < n → get_or (chunk i n xs) k 0 ≡ slice_index xs (i + k)
chunk_at xs i n k h = get_or-take n (drop i xs) k 0 h ∙ get_or-drop i xs k 0

all_at : (p : ℕ → Bool) (xs : List ℕ) (i : ℕ) → i < length xs → list_all p xs ≡ true → p (get_or xs i 0) ≡ true
all_at p xs i h k = grind (arith, list_all_at)

module _ (w : List ℕ) (at : ℕ) (word : List ℕ) (m n : ℕ) (h : IsQuoted word m) (s : StandsWord w at word n) (more : m < n) where
  abbrev inner : List ℕ
  inner = chunk 1 (m - 1) word

  size : length inner ≡ m - 1
  size = length-chunk 1 (m - 1) word (omega (arith, h.long, h.some, h.few))

  -- a byte between the quotes
  inside : (k : ℕ) → at + 1 ≤ k → k < at + m → is_common (slice_index w k) ≡ true
  inside k after before =
      let j : ℕ = k - (at + 1) in
      let here : k ≡ at + (1 + j) = omega (arith, after) in
      let few : j < m - 1 = omega (arith, after, before, h.some) in
      ap (λ i. is_common (slice_index w i)) here ∙ (ap is_common (s.same (1 + j) (omega (arith, few, more)) ∙ sym (chunk_at word 1 (m - 1) j few)) ∙ all_at is_common inner j (omega (arith, few, size)) h.common)

  pub word_text : (end : ℕ) → end ≡ at + m + 1 → IsSimpleTextAt w at end
  word_text end e =
      let zeroth : at + 0 ≡ at = omega arith in
      subst (IsSimpleTextAt w at) (sym e) (short_text w at (at + m) (omega (arith, h.some)) (omega (arith, s.within, more)) (ap (slice_index w) (sym zeroth) ∙ (s.same 0 (omega (arith, more)) ∙ h.opens)) (s.same m more ∙ h.closes) inside)

  pub word_inner : (i k : ℕ) → i ≡ at + 1 → k ≡ m - 1 → inner ≡ take k (drop i w)
  word_inner i k e f =
      let long : length (chunk i k w) ≡ k = length-chunk i k w (omega (arith, e, f, s.within, more)) in
      same_number_lists inner (chunk i k w) (size ∙ (sym f ∙ sym long))
      (λ j l. let here : at + (1 + j) ≡ i + j = omega (arith, e) in
      chunk_at word 1 (m - 1) j (omega (arith, l, size)) ∙ (sym (s.same (1 + j) (omega (arith, l, size, more))) ∙ (ap (slice_index w) here ∙ sym (chunk_at w i k j (omega (arith, l, size, f))))))

module _ (w : List ℕ) (at : ℕ) (word : List ℕ) (n : ℕ) (s : StandsWord w at word n) where
  none : (i : ℕ) → i ≤ length w → AreSpaces (between w i i)
  none i l = subst AreSpaces (sym (part-none w i l)) tt

  pub word_named : (field : Field) (h : NamesField word n field) (from : ℕ) → from ≤ at → AreSpaces (between w from at) → IsFieldName w from (record { place = record { first = at; end = at + n - 1; colon = at + n - 1 }; field = field })
  word_named field h from before spaces =
      let place : NamePlace = record { first = at; end = at + n - 1; colon = at + n - 1 } in
      let last : at + (n - 1) ≡ at + n - 1 = omega (arith, h.some) in
      let more : n - 2 < n = omega (arith, h.some) in
      let text = word_text w at word (n - 2) n h.quoted s more (at + n - 1) (omega (arith, h.some)) in
      let name : IsNameAt w from place = record {
        before = before;
        spaces = spaces;
        text = text.0;
        behind = omega arith;
        more_spaces = none (at + n - 1) (omega (arith, s.within));
        inside = omega (arith, s.within, h.some);
        byte = ap (slice_index w) (sym last) ∙ (s.same (n - 1) (omega (arith, h.some)) ∙ h.colon);
      } in
      record {
        place = name;
        plain = plain_name_is w from place name text.1;
        field = sym h.names ∙ ap field_of (word_inner w at word (n - 2) n h.quoted s more (at + 1) (at + n - 1 - 1 - (at + 1)) refl (omega (arith, h.some)));
      }

  pub kind_word : (kind : Kind) (h : NamesKind word n kind) → IsKindName w at (record { end = at + n; kind = kind })
  kind_word kind h =
      let more : n - 1 < n = omega (arith, h.some) in
      record {
        text = word_text w at word (n - 1) n h.quoted s more (at + n) (omega (arith, h.some));
        kind = ap kind_of_text (sym (word_inner w at word (n - 1) n h.quoted s more (at + 1) (at + n - 1 - (at + 1)) refl (omega (arith, h.some)))) ∙ h.names;
      }

-- where as many bytes are those of a name
pub stands_of : (w : List ℕ) (b : NamePlace) (first : ℕ) → IsPlainName w b → first + (b.end - b.first) ≤ length w → take (first + (b.end - b.first) - first) (drop first w) ≡ take (b.end - b.first) (drop b.first w) → StandsWord w first (from_name w b) (b.end - b.first)
stands_of w b first h k l = grind (arith, chunk_at)

-- where the bytes of a name stand, that name stands
pub text_again : (w : List ℕ) (b : NamePlace) (first : ℕ) (word : List ℕ) → IsPlainName w b → word ≡ chunk b.first (length w - b.first) w → StandsWord w first word (b.end - b.first) → IsSimpleTextAt w first (first + (b.end - b.first))
text_again w b first word k there s =
    let n : ℕ = b.end - b.first in
    let behind : first + n - first ≡ n = omega arith in
    let long_a : length (chunk first n w) ≡ n = length-chunk first n w s.within in
    let long_b : length (chunk b.first n w) ≡ n = length-chunk b.first n w (omega (arith, k.order, k.within)) in
    let same : take (first + n - first) (drop first w) ≡ take n (drop b.first w) = ap (λ i. take i (drop first w)) behind ∙ same_number_lists (chunk first n w) (chunk b.first n w) (long_a ∙ sym long_b)
    (λ j l. let inside : j < n = omega (arith, l, long_a) in
    chunk_at w first n j inside ∙ (s.same j inside ∙ (ap (λ xs. slice_index xs j) there
    ∙ (chunk_at w b.first (length w - b.first) j (omega (arith, inside, k.order, k.within)) ∙ sym (chunk_at w b.first n j inside))))) in
    let spelled : between w first (first + n) ≡ between w b.first b.end = sym (rest_to w first (first + n) (omega arith)) ∙ (same ∙ rest_to w b.first b.end (omega (arith, k.order))) in
    ((omega (arith, k.order), s.within, subst JsonString (sym spelled) k.text.0.2), subst (λ xs. list_all is_simple xs ≡ true) (sym same) k.text.1)

-- a name whose bytes are those of another one is that name
pub same_name : (w : List ℕ) (a b : NamePlace) (word : List ℕ) → IsPlainName w a → IsPlainName w b → a.end - a.first ≡ b.end - b.first → word ≡ chunk b.first (length w - b.first) w → StandsWord w a.first word (a.end - a.first) → name_in w a ≡ name_in w b
same_name w a b word h k size there s =
    let m : ℕ = a.end - 1 - (a.first + 1) in
    let n : ℕ = b.end - 1 - (b.first + 1) in
    let few : m ≡ n = omega (arith, h.order, k.order, size) in
    let long_a : length (chunk (a.first + 1) m w) ≡ m = length-chunk (a.first + 1) m w (omega (arith, h.order, h.within)) in
    let long_b : length (chunk (b.first + 1) n w) ≡ n = length-chunk (b.first + 1) n w (omega (arith, k.order, k.within)) in
    same_number_lists (chunk (a.first + 1) m w) (chunk (b.first + 1) n w) (long_a ∙ (few ∙ sym long_b))
    (λ j l. let here : a.first + 1 + j ≡ a.first + (1 + j) = omega arith in
    let other : b.first + (1 + j) ≡ b.first + 1 + j = omega arith in
    let inside : j < m = omega (arith, l, long_a) in
    chunk_at w (a.first + 1) m j inside ∙ (ap (slice_index w) here ∙ (s.same (1 + j) (omega (arith, inside, h.order)) ∙ (ap (λ xs. slice_index xs (1 + j)) there
    ∙ (chunk_at w b.first (length w - b.first) (1 + j) (omega (arith, inside, few, k.order, k.within)) ∙ (ap (slice_index w) other ∙ sym (chunk_at w (b.first + 1) n j (omega (arith, inside, few)))))))))

pub name_there : (w : List ℕ) (m b : NamePlace) (first : ℕ) (word : List ℕ) → IsPlainName w b → m.first ≡ first → m.end ≡ first + (b.end - b.first) → word ≡ chunk b.first (length w - b.first) w → StandsWord w first word (b.end - b.first) → name_in w m ≡ name_in w b
name_there w m b first word k e f there s =
    let text = subst (IsSimpleTextAt w first) (sym f) (text_again w b first word k there s) in
    let plain = plain_text_is w m (subst (λ i. IsTextAt w i m.end) (sym e) text.0) (subst (λ i. list_all is_simple (take (m.end - i) (drop i w)) ≡ true) (sym e) text.1) in
    let size : m.end - m.first ≡ b.end - b.first = omega (arith, e, f) in
    same_name w m b word plain k size there (subst (λ i. StandsWord w i word (m.end - m.first)) (sym e) (subst (StandsWord w first word) (sym size) s))

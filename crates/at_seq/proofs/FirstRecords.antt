-- The record with which a span begins, where a feature that is read at once stands up to the first separator.
-- For `part_seq`.
use Rattle.std.proofs.Common.{◌≡◌, ℕ, zero, suc, ◌+◌, ◌-◌, ◌<◌, ◌≤◌, Bool, true, false, slice_index, List, [], ◌∷◌, ◌++◌, length, take, drop, refl, sym, ap, ◌∙◌, subst, arith, append-nil, length-append, length-take, drop-drop}
use Rattle.std.specs.List.{AllByRecursion, position_or_len}
use Rattle.std.proofs.Math.Seq.{take-append_seam, drop-append_seam, take-add, drop-cons}
use Rattle.std.proofs.lemmas.List.{take-append-drop, take_rest, get_or-take, get_or_at}
use Rattle.std.proofs.lemmas.List.Sums.{position_or_len_is}
use Rattle.at_text.specs.Spans.{span_of}
use Rattle.at_text.specs.Texts.{is_space}
use Rattle.at_text.specs.declared.texts.Span.{Span}
use Rattle.at_text.specs.Separated.{Piece}
use Rattle.at_fixed.specs.Numerals.{Numeral, IsJsonWhole, IsJsonNumeral, fraction_text, exponent_text, numeral_text}
use Rattle.at_lex.specs.Fronts.{IsFront}
use Rattle.at_lex.specs.Runs.{Literal, the_null, the_true, the_false, literal_text}
use Rattle.at_lex.proofs.FrontLemmas.{front_all}
use Rattle.at_wkt.proofs.LineMerges.{length-span_of}
use Rattle.at_nest.specs.Tree.{Tree, literal, number, text, array, object, Spells, IsTextOf}
use Rattle.at_nest.proofs.TreeParts.{array_parts, object_parts, text_made}
use Rattle.at_query.specs.Keeping.{Asked}
use Rattle.at_geojson.specs.declared.root.FeatureFront.{FeatureFront}
use Rattle.at_geojson.specs.Wholes.{IsFeatureFront}
use Rattle.at_query.specs.declared.answer.gathered.Gathered.{Gathered}
use Rattle.at_seq.specs.Records.{is_separator, are_spaces, records_in}
use Rattle.at_seq.specs.Gathering.{AddsRecords, HasRecordPart, IsSeparatorBehind, AddsFirst}
use Rattle.at_seq.proofs.PieceRecords.{one_record, other_stands, part_front}
use Rattle.at_seq.proofs.Gathers.{tree_part}
use Rattle.at_seq.proofs.WholeRecords.{text_unparted, without_rs}

-- ---- a value's spelling has a byte

whole_some : (w : List ℕ) → IsJsonWhole w → 0 < length w
whole_some [] h = absurd h
whole_some (b ∷ w) h = omega arith

begun : (w v : List ℕ) (b : ℕ) → w ≡ b ∷ v → 0 < length w
begun w v b e = let some : 0 < length (b ∷ v) = omega arith in subst (λ z. 0 < length z) (sym e) some

number_some : (n : Numeral) → IsJsonNumeral n → 0 < length (numeral_text n)
number_some n h =
    let behind : List ℕ = fraction_text n.fraction ++ exponent_text n.exponent in
    let size : length (numeral_text n) ≡ length n.sign + (length n.whole + length behind) = length-append n.sign (n.whole ++ behind) ∙ ap (λ k. length n.sign + k) (length-append n.whole behind) in
    omega (arith, size, whole_some n.whole h.whole)

literal_some : (l : Literal) → 0 < length (literal_text l)
literal_some the_null = begun (literal_text the_null) _ 0x6E refl
literal_some the_true = begun (literal_text the_true) _ 0x74 refl
literal_some the_false = begun (literal_text the_false) _ 0x66 refl

spelled_some : (t : Tree) (at : ℕ) (w : List ℕ) → Spells at w t → 0 < length w
spelled_some (literal i l) at w (o, e) = subst (λ z. 0 < length z) (sym e) (literal_some l)
spelled_some (number i n) at w (o, (is, e)) = subst (λ z. 0 < length z) (sym e) (number_some n is)
spelled_some (text i cs) at w (o, (is, e)) = begun w _ 0x22 e
spelled_some (array i ts) at w k = let (o, (v, e, h)) = array_parts ts i at w k in begun w _ 0x5B e
spelled_some (object i ms) at w k = let (o, (v, e, h)) = object_parts ms i at w k in begun w _ 0x7B e

-- ---- the first separator

none_passes : (test : ℕ → Bool) (v rest : List ℕ) (k : ℕ) → AllByRecursion (λ x. test x ≡ false) v → k < length v → test (slice_index (v ++ rest) k) ≡ false
none_passes test [] rest k h less = absurd (omega arith)
none_passes test (x ∷ v) rest zero (h, hs) less = h
none_passes test (x ∷ v) rest (suc k) (h, hs) less = none_passes test v rest k hs (omega arith)

position_behind : (test : ℕ → Bool) (v : List ℕ) (b : ℕ) (rest : List ℕ) → AllByRecursion (λ x. test x ≡ false) v → test b ≡ true → position_or_len test (v ++ b ∷ rest) ≡ length v
position_behind test v b rest h e = position_or_len_is test (v ++ b ∷ rest) (length v) 0 (omega (arith, length-append v (b ∷ rest)))
    (λ k less. none_passes test v (b ∷ rest) k h less) (λ less. ap test (get_or_at v b rest 0 (length v) refl) ∙ e)

-- ---- white space, a feature, white space and a separator

module _ (asked : Asked) (w : List ℕ) (at first : ℕ) (front : FeatureFront) (end : ℕ) (begins : IsFront is_space w first)
    (is : IsFeatureFront asked (at + first) (drop first w) front) (ends : IsSeparatorBehind w (first + front.len) end) where
  behind_is : drop front.len (drop first w) ≡ is.behind
  behind_is = ap (drop front.len) is.split ∙ (ap (λ n. drop n (is.text ++ is.behind)) is.len ∙ drop-append_seam is.text is.behind)

  text_is : take front.len (drop first w) ≡ is.text
  text_is = ap (take front.len) is.split ∙ (ap (λ n. take n (is.text ++ is.behind)) is.len ∙ take-append_seam is.text is.behind)

  spaces_behind : IsFront is_space is.behind ends.more
  spaces_behind = subst (λ z. IsFront is_space z ends.more) (sym (drop-drop front.len first w) ∙ behind_is) ends.spaces

  record_is : take end w ≡ take first w ++ (is.text ++ (take ends.more is.behind ++ []))
  record_is =
      let place : end ≡ first + (front.len + ends.more) = omega (arith, ends.end_is) in
      ap (λ n. take n w) place ∙ (take-add first (front.len + ends.more) w
      ∙ ap (λ z. take first w ++ z) (take-add front.len ends.more (drop first w)
      ∙ (ap (λ z. z ++ take ends.more (drop front.len (drop first w))) text_is
      ∙ ap (λ z. is.text ++ z) (ap (take ends.more) behind_is ∙ sym (append-nil (take ends.more is.behind))))))

  abbrev record_text : List ℕ
  record_text = take end w

  record_spells : IsTextOf at record_text is.tree
  record_spells =
      let width : length (take first w) ≡ first = omega (arith, length-take first w, begins.fits) in
      text_made is.tree at record_text (
        take first w,
        is.text,
        take ends.more is.behind,
        [],
        record_is,
        front_all is_space w first begins,
        front_all is_space is.behind ends.more spaces_behind,
        subst (λ n. Spells (at + n) is.text is.tree) (sym width) is.spells,
        refl,
      )

  pub feature_has : HasRecordPart asked (record { at = at; text = record_text }) front.part
  feature_has = tree_part asked (record { at = at; text = record_text }) is.tree front.part record_spells is.answer

  record_width : length record_text ≡ end
  record_width = omega (arith, length-take end w, ends.inside)

  first_separator : position_or_len is_separator w ≡ end
  first_separator =
      ap (position_or_len is_separator) (sym (take-append-drop end w) ∙ ap (λ z. record_text ++ z) (drop-cons w end 0 ends.inside))
      ∙ (position_behind is_separator record_text (slice_index w end) (drop (suc end) w) (without_rs record_text (text_unparted is.tree at record_text record_spells)) ends.separator ∙ record_width)

  record_some : are_spaces record_text ≡ false
  record_some =
      let less : first < end = omega (arith, ends.end_is, is.len, spelled_some is.tree (at + first) is.text is.spells) in
      other_stands record_text first (omega (arith, record_width, less)) (ap is_space (get_or-take end w first 0 less) ∙ begins.stops (omega (arith, less, ends.inside)))

  pub record_added : (old new : Gathered) → AddsRecords asked old (record { at = at; text = record_text } ∷ []) new → AddsRecords asked old (records_in (record { at = at; text = record_text } ∷ [])) new
  record_added old new adds = subst (λ more. AddsRecords asked old more new) (sym (one_record (record { at = at; text = record_text }) record_some)) adds

  pub separator_first : end ≡ position_or_len is_separator w
  separator_first = sym first_separator

module _ (asked : Asked) (bytes : List ℕ) (span : Span) (order : span.from ≤ span.to) (within : span.to ≤ length bytes) (first : ℕ) (front : FeatureFront) (end : ℕ)
    (begins : IsFront is_space (span_of bytes span.from span.to) first)
    (is : IsFeatureFront asked (span.from + first) (take (length (span_of bytes span.from span.to) - first) (drop first (span_of bytes span.from span.to))) front)
    (ends : IsSeparatorBehind (span_of bytes span.from span.to) (first + front.len) end) where
  abbrev ahead : List ℕ
  ahead = span_of bytes span.from span.to

  front_is : IsFeatureFront asked (span.from + first) (drop first ahead) front
  front_is = subst (λ z. IsFeatureFront asked (span.from + first) z front) (take_rest ahead first) is

  abbrev pub the_record : Piece
  the_record = record { at = span.from; text = take end ahead }

  pub the_record_has : HasRecordPart asked the_record front.part
  the_record_has = feature_has asked ahead span.from first front end begins front_is ends

  pub feature_added : (old new : Gathered) → ((question : Asked) (r : Piece) → HasRecordPart question r front.part → AddsRecords question old (r ∷ []) new) → AddsFirst asked bytes span old new (span.from + end)
  feature_added old new adds =
      let size : span.from + length ahead ≡ span.to = length-span_of bytes span.from span.to order within in
      let inside : span.from + end < span.to = omega (arith, size, ends.inside) in
      let width : span.from + end - span.from ≡ end = omega arith in
      let text_is : take end ahead ≡ span_of bytes span.from (span.from + end) = part_front bytes span.from end span.to (omega (arith, inside)) within in
      record {
        begins = omega arith;
        inside = inside;
        first = width ∙ separator_first asked ahead span.from first front end begins front_is ends;
        adds = subst (λ z. AddsRecords asked old (records_in (record { at = span.from; text = z } ∷ [])) new) text_is
            (record_added asked ahead span.from first front end begins front_is ends old new (adds asked the_record the_record_has));
      }

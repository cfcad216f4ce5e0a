-- What the reader of a label finds of a line: where a label stands, and that no line goes on where none does.
-- For `answer`, `answer_join`, `finish_pieces`, `join_into` and `part`.
use Rattle.std.proofs.Common.{IsTrue, ◌≡◌, ℕ, suc, ◌+◌, ◌-◌, ◌<◌, ◌≤◌, inl, inr, List, [], ◌∷◌, ◌++◌, length, take, drop, slice_index, flat_map, codes, Option, Some, None, refl, sym, ◌∙◌, ap, subst, arith, append-nil, append_assoc, length-append, length-take, length-drop, take-append-drop, take-take, drop-drop, lit≤}
use native.Mathlib.Decide.{dec_lt}
use Rattle.std.proofs.Math.Seq.{take-length, take-append_seam, take-append-add, get_or-append_seam}
use Rattle.std.proofs.lemmas.List.{drop_more, drop-take, length-take-le}
use Rattle.std.specs.Str.{IsUtf8}
use Rattle.std.proofs.ByRecursion.{All-take}
use Rattle.std.proofs.lemmas.Str.{IsUtf8-take, IsUtf8-drop, IsCharBoundary-before_ascii, IsCharBoundary-after_ascii}
use Rattle.at_text.specs.declared.faults.Fault.{Fault}
use Rattle.at_text.specs.Prefix.{Viable, LongestViable}
use Rattle.at_text.specs.Spans.{span_of}
use Rattle.at_text.specs.Syntax.{IsSyntaxFault, stop_fault}
use Rattle.at_lex.specs.Strings.{Character, character_text, SpellsString}
use Rattle.at_lex.proofs.FrontLemmas.{suffix_is}
use Rattle.at_wkt.specs.Geometry.{Geometry, point, SpellsGeometry, IsLineOf, WktLine, is_blank}
use Rattle.at_wkt.proofs.Leads.{append_cases}
use Rattle.at_fixed.specs.NumberSoFar.{between}
use Rattle.at_query.specs.Readers.{Text, Stops, past, over}
use Rattle.at_run.specs.Labels.{SpellsLabelled, LabelledLine}
use Rattle.at_run.specs.declared.labels.Behind.{Behind}
use Rattle.at_run.specs.Labelling.{QuoteStands, QuoteIs, LabelStands, IsBehind}
use Rattle.at_run.proofs.LabelledLines.{AreBlanks, BeginsQuoted, string_begins, quoted_front, same_blanks, quote_stops, quoted_not_plain, label_added, line_with_label, label_taken, longest_behind, stop_behind}

-- ---- lists

rest_split : (text : List ℕ) (i j : ℕ) → i ≤ j → span_of text i j ++ drop j text ≡ drop i text
rest_split text i j h =
    let e : i + (j - i) ≡ j = omega arith in
    let rest : drop (j - i) (drop i text) ≡ drop j text = drop-drop (j - i) i text ∙ ap (λ z. drop z text) e in
    ap (λ z. take (j - i) (drop i text) ++ z) (sym rest) ∙ take-append-drop (j - i) (drop i text)

-- a line behind a place, as it is taken of the bytes ahead
pub rest_is : (w : List ℕ) (len end : ℕ) → end ≤ len → take (len - end) (take (length w - end) (drop end w)) ≡ drop end (take len w)
rest_is w len end h =
    let e : end + (len - end) ≡ len = omega arith in
    ap (take (len - end)) (suffix_is w end) ∙ (sym (drop-take end (len - end) w) ∙ ap (λ n. drop end (take n w)) e)

-- and a part of it
pub part_front : (w : List ℕ) (len i j : ℕ) → i ≤ j → j ≤ len → span_of w i j ≡ span_of (take len w) i j
part_front w len i j h k =
    let e : i + (len - i) ≡ len = omega arith in
    let cut : drop i (take len w) ≡ take (len - i) (drop i w) = ap (λ n. drop i (take n w)) (sym e) ∙ drop-take i (len - i) w in
    sym (ap (take (j - i)) cut ∙ take-take (j - i) (len - i) (drop i w) (omega arith))

pub line_end : (w : List ℕ) (len quote end : ℕ) → len ≤ length w → LabelStands (take len w) quote end → end ≤ len
line_end w len quote end h label = omega (arith, length-take-le len w h, label.within)

-- ---- the quote

-- no quote begins the text past its blanks
abbrev pub Unquoted : List ℕ → Type 0
Unquoted text = (a v : List ℕ) → AreBlanks a → BeginsQuoted v → text ≡ a ++ v → ⊥

pub without_quote : (text : List ℕ) → QuoteIs text None → Unquoted text
without_quote text none a v ha (t, q) e =
    let whole : text ≡ a ++ 0x22 ∷ t = e ∙ ap (λ z. a ++ z) q in
    none (length a) (record {
      inside = omega (arith, ap length whole, length-append a (0x22 ∷ t));
      blanks = subst AreBlanks (sym (ap (take (length a)) whole ∙ take-append_seam a (0x22 ∷ t))) ha;
      byte = ap (λ z. slice_index z (length a)) whole ∙ get_or-append_seam a 0x22 t 0;
    })

-- ---- a line without a label

some_geometry : (at : ℕ) → SpellsGeometry at (codes "POINTEMPTY") (point None)
some_geometry at = (2, (codes "POINT", codes "EMPTY", refl, refl, ([], codes "EMPTY", refl, tt, ([], codes "EMPTY", refl, inl (refl, lit≤ tt, lit≤ tt), ([], codes "EMPTY", refl, tt, refl)))))

some_line : (at : ℕ) (a : List ℕ) → AreBlanks a → WktLine at (a ++ codes "POINTEMPTY")
some_line at a h = (point None, (a, codes "POINTEMPTY", refl, h, (codes "POINTEMPTY", [], refl, some_geometry (at + length a), tt)))

-- the longest beginning of a plain text is that of a line where no label begins it
pub plain_syntax : (at : ℕ) (text : List ℕ) (fault : Fault) → Unquoted text → IsSyntaxFault (WktLine at) at text fault → IsSyntaxFault (LabelledLine at) at text fault
plain_syntax at text fault none h = record {
  no_word = λ (l, g, p). by_label l g p;
  taken = h.taken;
  longest = record {
    fits = h.longest.fits;
    front = (let (more, (g, line)) = h.longest.front in (more, (None, g, line)));
    longest = λ below (more, (l, g, p)). h.longest.longest below (by_front (take (h.taken + 1) text) (drop (h.taken + 1) text) more (sym (take-append-drop (h.taken + 1) text)) l g p);
  };
  place = h.place;
} where
  by_label : (l : Option (List Character)) (g : Geometry) → SpellsLabelled l g at text → ⊥
  by_label None g p = h.no_word (g, p)
  by_label (Some cs) g (a, v, e, ha, (s, r, f, hs, hr)) = none a v ha (quoted_front s r v (string_begins cs (at + length a) s hs) f) e

  by_front : (u rest more : List ℕ) → text ≡ u ++ rest → (l : Option (List Character)) (g : Geometry) → SpellsLabelled l g at (u ++ more) → Viable (WktLine at) u
  by_front u rest more whole None g p = (more, (g, p))
  by_front u rest more whole (Some cs) g (a, v, e, ha, (s, r, f, hs, hr)) = elim (append_cases u more a v e) [
    | inl (same, behind) ↦ (codes "POINTEMPTY", some_line at u (subst AreBlanks (sym same) ha))
    | inr (inl (m, ms, i, j)) ↦ (codes "POINTEMPTY", some_line at u (subst AreBlanks (take-append_seam u (m ∷ ms)) (All-take (λ b. IsTrue (is_blank b)) (length u) (u ++ (m ∷ ms)) (subst AreBlanks i ha))))
    | inr (inr (m, ms, i, j)) ↦ absurd (
        let (t, q) = quoted_front s r v (string_begins cs (at + length a) s hs) f in
        let first : m ≡ 0x22 = (let both_are : m ∷ (ms ++ more) ≡ 0x22 ∷ t = sym j ∙ q in cc) in
        none a ((m ∷ ms) ++ rest) ha (ms ++ rest, ap (λ z. z ∷ (ms ++ rest)) first) (whole ∙ (ap (λ z. z ++ rest) i ∙ append_assoc a (m ∷ ms) rest)))
  ]

-- ---- a label that doesn't end

regrouped : (a p m e : List ℕ) → (a ++ p) ++ (m ++ e) ≡ a ++ ((p ++ m) ++ e)
regrouped a p m e = append_assoc a p (m ++ e) ∙ ap (λ z. a ++ z) (sym (append_assoc p m e))

module _ (at : ℕ) (text : List ℕ) (quote n : ℕ) (q : QuoteStands text quote) (stops : Stops Text text quote n) where
  front_is : (m : ℕ) → quote ≤ m → take m text ≡ take quote text ++ between text quote m
  front_is m h = sym (ap (λ z. z ++ between text quote m) (sym (take-take quote m text h)) ∙ take-append-drop quote (take m text))

  quoted_rest : (m : ℕ) → quote < m → BeginsQuoted (between text quote m)
  quoted_rest m h =
      let size : m ≡ quote + suc (m - quote - 1) = omega (arith, h) in
      let cut : between text quote m ≡ take (suc (m - quote - 1)) (drop quote text) = ap (between text quote) size ∙ drop-take quote (suc (m - quote - 1)) text in
      let byte : drop quote text ≡ 0x22 ∷ drop (quote + 1) text = drop_more text quote 0 q.inside ∙ ap (λ z. z ∷ drop (quote + 1) text) q.byte in
      (take (m - quote - 1) (drop (quote + 1) text), cut ∙ ap (take (suc (m - quote - 1))) byte)

  -- the words of lines that go on with a beginning of the text beyond the quote begin with a label
  beyond : (m : ℕ) (more : List ℕ) → quote < m → LabelledLine at (take m text ++ more) → (cs : List Character) × (v r : List ℕ) × SpellsString cs quote v × (v ++ r ≡ between text quote m ++ more)
  beyond m more h (l, g, p) = go l g (subst (SpellsLabelled l g at) whole p) where
    whole : take m text ++ more ≡ take quote text ++ (between text quote m ++ more)
    whole = ap (λ z. z ++ more) (front_is m (omega (arith, h))) ∙ append_assoc (take quote text) (between text quote m) more

    go : (l : Option (List Character)) (g : Geometry) → SpellsLabelled l g at (take quote text ++ (between text quote m ++ more)) → (cs : List Character) × (v r : List ℕ) × SpellsString cs quote v × (v ++ r ≡ between text quote m ++ more)
    go None g p = absurd (quoted_not_plain (take quote text) (between text quote m ++ more) at (take quote text ++ (between text quote m ++ more)) g q.blanks (quoted_front (between text quote m) more _ (quoted_rest m h) refl) refl p)
    go (Some cs) g (a, v, e, ha, (s, r, f, hs, hr)) =
        let (same, behind) = same_blanks (take quote text) a (between text quote m ++ more) v q.blanks ha (quote_stops (between text quote m ++ more) (quoted_front (between text quote m) more _ (quoted_rest m h) refl))
        (quote_stops v (quoted_front s r v (string_begins cs (at + length a) s hs) f)) e in
        (cs, s, r, hs, sym f ∙ sym behind)

  pub label_stops : IsSyntaxFault (LabelledLine at) at text (stop_fault at text n)
  label_stops = record {
    no_word = λ word. (elim (dec_lt n (length text)) [
      | yes below ↦ no_further below (drop (n + 1) text) (subst (LabelledLine at) (sym (take-append-drop (n + 1) text)) word)
      | no f ↦ (
          let end : n ≡ length text = omega (arith, f, stops.within) in
          let all : take n text ++ [] ≡ text = append-nil (take n text) ∙ (ap (λ z. take z text) end ∙ take-length text) in
          let (cs, v, r, hs, e) = beyond n [] (omega (arith, end, q.inside)) (subst (LabelledLine at) (sym all) word) in
          stops.dead _ v r (cs, refl, hs) (over end (e ∙ append-nil (between text quote n))))
    ]);
    taken = n;
    longest = record {
      fits = stops.within;
      front = (let (units, more, (cs, e, hs)) = stops.viable in
          let label : SpellsString cs (at + length (take quote text)) (between text quote n ++ more) = hs in
          let (g, line) = some_line ((at + length (take quote text)) + length (between text quote n ++ more)) [] tt in
          let word : LabelledLine at (take quote text ++ ((between text quote n ++ more) ++ codes "POINTEMPTY")) = line_with_label at (take quote text) (between text quote n ++ more) cs q.blanks label (codes "POINTEMPTY") (g, line) in
          let whole = ap (λ z. z ++ (more ++ codes "POINTEMPTY")) (front_is n stops.order) ∙ regrouped (take quote text) (between text quote n) more (codes "POINTEMPTY") in
          (more ++ codes "POINTEMPTY", subst (LabelledLine at) (sym whole) word));
      longest = λ below (more, word). no_further below more word;
    };
    place = refl;
  } where
    no_further : n < length text → (more : List ℕ) → LabelledLine at (take (n + 1) text ++ more) → ⊥
    no_further below more word =
        let (cs, v, r, hs, e) = beyond (n + 1) more (omega (arith, stops.order)) word in
        stops.dead _ v r (cs, refl, hs) (past below more e)

-- ---- a label, and the text behind it

-- what ends with a quote is valid where it begins valid bytes
valid_label : (w r front : List ℕ) → w ≡ front ++ 0x22 ∷ [] → IsUtf8 (w ++ r) → IsUtf8 w
valid_label w r front e valid =
    let whole : w ++ r ≡ front ++ 0x22 ∷ r = ap (λ z. z ++ r) e ∙ append_assoc front (0x22 ∷ []) r in
    let h : IsUtf8 (front ++ 0x22 ∷ r) = subst IsUtf8 whole valid in
    let small : slice_index (front ++ 0x22 ∷ r) (length front) < 128 = subst (λ z. z < 128) (sym (get_or-append_seam front 0x22 r 0)) (omega arith) in
    let boundary = IsCharBoundary-after_ascii (front ++ 0x22 ∷ r) (length front) h (omega (arith, length-append front (0x22 ∷ r))) small in
    subst IsUtf8 (take-append-add front (0x22 ∷ r) 1 ∙ sym e) (IsUtf8-take (front ++ 0x22 ∷ r) (length front + 1) h boundary)

module _ (at : ℕ) (text : List ℕ) (quote end : ℕ) (label : LabelStands text quote end) where
  pub label_front : text ≡ take quote text ++ (span_of text quote end ++ drop end text)
  label_front = sym (ap (λ z. take quote text ++ z) (rest_split text quote end label.order) ∙ take-append-drop quote text)

  pub label_place : (at + length (take quote text)) + length (span_of text quote end) ≡ at + end
  label_place =
      omega (arith, length-take-le quote text (omega (arith, label.order, label.within)), length-take (end - quote) (drop quote text), length-drop quote text, label.order, label.within)

  -- the label of a line that is UTF-8 is
  pub label_valid : IsUtf8 text → IsUtf8 (span_of text quote end)
  label_valid valid =
      let (cs, are, same) = label.string in
      let small : slice_index text quote < 128 = subst (λ z. z < 128) (sym label.begins.byte) (omega arith) in
      let rest : IsUtf8 (span_of text quote end ++ drop end text) = subst IsUtf8 (sym (rest_split text quote end label.order)) (IsUtf8-drop text quote valid (IsCharBoundary-before_ascii text quote label.begins.inside small)) in
      valid_label (span_of text quote end) (drop end text) (0x22 ∷ flat_map character_text cs) same rest

  module _ (cs : List Character) (hs : SpellsString cs quote (span_of text quote end)) where
    pub label_spelled : (g : Geometry) → IsLineOf (at + end) (drop end text) g → SpellsLabelled (Some cs) g at text
    label_spelled g h = subst (SpellsLabelled (Some cs) g at) (sym label_front)
        (label_added at (take quote text) (span_of text quote end) cs label.begins.blanks hs g (drop end text) (subst (λ i. IsLineOf i (drop end text) g) (sym label_place) h))

    pub label_syntax : (fault : Fault) → IsSyntaxFault (WktLine (at + end)) (at + end) (drop end text) fault → IsSyntaxFault (LabelledLine at) at text fault
    label_syntax fault h = record {
      no_word = λ word. h.no_word (taken (drop end text) (subst (LabelledLine at) label_front word));
      taken = length front + h.taken;
      longest = subst (λ w. LongestViable (LabelledLine at) w (length front + h.taken)) (sym whole)
          (longest_behind (LabelledLine at) (WktLine (at + end)) front (drop end text) h.taken (λ u m. subst (LabelledLine at) (sym (append_assoc (take quote text) (span_of text quote end) u)) (put u m))
          (λ more l. taken (take (h.taken + 1) (drop end text) ++ more) (subst (LabelledLine at) (append_assoc (take quote text) (span_of text quote end) (take (h.taken + 1) (drop end text) ++ more)) l)) h.longest);
      place = h.place ∙ (ap (λ z. stop_fault z (drop end text) h.taken) size ∙ (stop_behind at front (drop end text) h.taken ∙ ap (λ w. stop_fault at w (length front + h.taken)) (sym whole)));
    } where
      front : List ℕ
      front = take quote text ++ span_of text quote end

      whole : text ≡ front ++ drop end text
      whole = label_front ∙ sym (append_assoc (take quote text) (span_of text quote end) (drop end text))

      size : at + end ≡ at + length front
      size = omega (arith, label_place, length-append (take quote text) (span_of text quote end))

      put : (u : List ℕ) → WktLine (at + end) u → LabelledLine at (take quote text ++ (span_of text quote end ++ u))
      put u m = line_with_label at (take quote text) (span_of text quote end) cs label.begins.blanks hs u (subst (λ i. WktLine i u) (sym label_place) m)

      taken : (u : List ℕ) → LabelledLine at (take quote text ++ (span_of text quote end ++ u)) → WktLine (at + end) u
      taken u l = subst (λ i. WktLine i u) label_place (label_taken at (take quote text) (span_of text quote end) cs label.begins.blanks hs u l)

-- ---- a line as it is read

-- behind its label
pub is_behind : (ahead : List ℕ) (len at quote end : ℕ) (line : Behind) → len ≤ length ahead → LabelStands (take len ahead) quote end → IsUtf8 (span_of ahead quote end) → line.label.now ≡ span_of ahead quote end
    → line.ahead.now ≡ take (length ahead - end) (drop end ahead) → line.len ≡ len - end → line.at ≡ at + end → IsBehind ahead len at line
is_behind ahead len at quote end line inside stands valid label rest size place =
    let near = line_end ahead len quote end inside stands in
    let same = label ∙ part_front ahead len quote end stands.order near in
    let left = ap length (rest ∙ suffix_is ahead end) ∙ length-drop end ahead in
    record {
      end = end;
      front = inr (quote, stands, subst IsUtf8 (sym label) valid, same);
      text = ap (λ n. take n line.ahead.now) size ∙ (ap (take (len - end)) rest ∙ rest_is ahead len end near);
      place = place;
      inside = omega (arith, left, size, near, inside);
      reach = omega (arith, left, place, near, inside);
    }

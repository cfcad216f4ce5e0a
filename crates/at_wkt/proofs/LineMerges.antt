-- Fragments of lines: what is read of a span, what two of them make, and what a whole one makes.
-- For `run_lines` (`StandsFor`), `merge_lines` (`IsMerged`) and `finish_lines`.
use Rattle.std.proofs.Common.{◌≡◌, ℕ, ◌+◌, ◌-◌, ◌<◌, ◌≤◌, Bool, true, false, not, ◌&&◌, if◌then◌else◌, nat_eq, List, [], ◌∷◌, ◌++◌, length, map, filter, take, drop, refl, sym, ◌∙◌, ap, subst, arith, append-nil, append_assoc, length-append, length-take, length-drop, drop-drop}
use Rattle.std.specs.List.{list_any, position_or_len, starts_with}
use Rattle.std.proofs.Math.Seq.{take-add, take-append_seam, drop-append_seam}
use Rattle.std.proofs.lemmas.List.{map-append, take-append-drop}
use Rattle.std.proofs.lemmas.List.Elements.{filter-append}
use Rattle.at_wkt.proofs.Names.{Span, FileLine, pieces_from, is_line_feed}
use Rattle.at_text.specs.Texts.{base_of, byte_order_mark}
use Rattle.at_text.specs.Spans.{span_of, AreNeighbours}
use Rattle.at_text.proofs.Separated.{pieces_joined, glued, glued_end, pieces_first, pieces_last}
use Rattle.at_wkt.specs.Lines.{line_of, is_blank_text, lines_in}
use Rattle.at_wkt.specs.declared.file.fragments.WholeLines.{WholeLines}
use Rattle.at_wkt.specs.declared.file.fragments.Inner.{Inner}
use Rattle.at_wkt.specs.declared.file.fragments.LineFragment.{LineFragment}
use Rattle.at_wkt.specs.declared.file.fragments.LineFragment.TheVariants.{Piece, Lines}
use Rattle.at_wkt.specs.Folding.{IsSpanOf, OwnFold, AddsLines, HoldsPiece, HoldsLines, HoldsInner, StandsFor}
use Rattle.at_wkt.proofs.Pieces.{left_is}
use Rattle.at_wkt.proofs.LinePieces.{first_begins, last_ends, IsPieceOf, piece_of}

-- ---- the lines of pieces

abbrev some_line : FileLine → Bool
some_line l = not (is_blank_text l.text)

pub lines_in-append : (ps qs : List FileLine) → lines_in (ps ++ qs) ≡ lines_in ps ++ lines_in qs
lines_in-append ps qs = ap (filter some_line) (map-append line_of ps qs) ∙ filter-append some_line (map line_of ps) (map line_of qs)

-- the lines of pieces, of one and of more
lines_around : (ps : List FileLine) (p : FileLine) (qs : List FileLine) → lines_in (ps ++ (p ∷ qs)) ≡ (lines_in ps ++ lines_in (p ∷ [])) ++ lines_in qs
lines_around ps p qs = lines_in-append ps (p ∷ qs) ∙ (ap (λ z. lines_in ps ++ z) (lines_in-append (p ∷ []) qs) ∙ sym (append_assoc (lines_in ps) (lines_in (p ∷ [])) (lines_in qs)))

-- ---- the bytes of a span

-- the span lies in the bytes, and has those of the piece
pub record HasPiece (bytes : List ℕ) (span : Span) (p : FileLine) : Type 0 where
  pub order : span.from ≤ span.to
  pub within : span.to ≤ length bytes
  pub one : list_any is_line_feed (span_of bytes span.from span.to) ≡ false
  pub line : record { at = span.from; text = span_of bytes span.from span.to } ≡ p

text_at : (d front text rest more : List ℕ) → d ≡ (front ++ (text ++ rest)) ++ more → take (length text) (drop (length front) d) ≡ text
text_at d front text rest more e =
    let all : d ≡ front ++ (text ++ (rest ++ more)) = e ∙ (append_assoc front (text ++ rest) more ∙ ap (λ z. front ++ z) (append_assoc text rest more)) in
    ap (λ z. take (length text) (drop (length front) z)) all ∙ (ap (take (length text)) (drop-append_seam front (text ++ (rest ++ more))) ∙ take-append_seam text (rest ++ more))

-- a piece of bytes u, which stand at i, and the span that has it
pub span_has : (bytes u more : List ℕ) (i : ℕ) (span : Span) (p : FileLine) → i ≤ length bytes → drop i bytes ≡ u ++ more → IsPieceOf i u p → IsSpanOf p span → HasPiece bytes span p
span_has bytes u more i span p inside e h (from, to) =
    let all : drop i bytes ≡ (h.front ++ (p.text ++ h.rest)) ++ more = e ∙ ap (λ z. z ++ more) h.split in
    let size : length (drop i bytes) ≡ length h.front + length p.text + length h.rest + length more = ap length all ∙ (length-append (h.front ++ (p.text ++ h.rest)) more ∙ omega (arith, length-append h.front (p.text ++ h.rest), length-append p.text h.rest)) in
    let start : span.from ≡ i + length h.front = from ∙ h.place in
    let width : span.to - span.from ≡ length p.text = omega (arith, from, to) in
    let text : span_of bytes span.from span.to ≡ p.text =
    ap (λ n. take n (drop span.from bytes)) width ∙ (ap (λ n. take (length p.text) (drop n bytes)) start ∙ (ap (take (length p.text)) (sym (drop-drop (length h.front) i bytes)) ∙ text_at (drop i bytes) h.front p.text h.rest more all)) in
    record {
      order = omega (arith, from, to);
      within = omega (arith, size, length-drop i bytes, start, to, from);
      one = ap (list_any is_line_feed) text ∙ h.one;
      line = ap (λ n. record { at = n; text = span_of bytes span.from span.to }) from ∙ ap (λ z. record { at = p.at; text = z }) text;
    }

-- ---- neighbouring parts of bytes

pub length-span_of : (bytes : List ℕ) (i k : ℕ) → i ≤ k → k ≤ length bytes → i + length (span_of bytes i k) ≡ k
length-span_of bytes i k h g = omega (arith, length-take (k - i) (drop i bytes), length-drop i bytes)

pub span_of-joined : (bytes : List ℕ) (i j k : ℕ) → i ≤ j → j ≤ k → span_of bytes i k ≡ span_of bytes i j ++ span_of bytes j k
span_of-joined bytes i j k h g =
    let width : k - i ≡ (j - i) + (k - j) = omega arith in
    let place : i + (j - i) ≡ j = omega arith in
    ap (λ n. take n (drop i bytes)) width ∙ (take-add (j - i) (k - j) (drop i bytes)
    ∙ ap (λ z. span_of bytes i j ++ take (k - j) z) (drop-drop (j - i) i bytes ∙ ap (λ n. drop n bytes) place))

-- what stands behind i is the part up to k, and the rest
part_more : (bytes : List ℕ) (i k : ℕ) → i ≤ k → drop i bytes ≡ span_of bytes i k ++ drop (k - i) (drop i bytes)
part_more bytes i k h = sym (take-append-drop (k - i) (drop i bytes))

-- the pieces of both parts
pub pieces_both : (bytes : List ℕ) (i j k : ℕ) → i ≤ j → j ≤ k → k ≤ length bytes → pieces_from i (span_of bytes i k) ≡ glued (pieces_from i (span_of bytes i j)) (pieces_from j (span_of bytes j k))
pieces_both bytes i j k h g l =
    ap (pieces_from i) (span_of-joined bytes i j k h g) ∙ (pieces_joined is_line_feed i (span_of bytes i j) (span_of bytes j k)
    ∙ ap (λ n. glued (pieces_from i (span_of bytes i j)) (pieces_from n (span_of bytes j k))) (length-span_of bytes i j h (omega arith)))

-- where the text begins is in the bytes
marked_within : (bytes mark : List ℕ) → starts_with nat_eq bytes mark ≡ true → length mark ≤ length bytes
marked_within bytes [] h = omega arith
marked_within [] (m ∷ mark) h = absurd (cc)
marked_within (b ∷ bytes) (m ∷ mark) h = omega (arith, marked_within bytes mark (and_right (nat_eq m b) (starts_with nat_eq bytes mark) h)) where
  and_right : (x y : Bool) → (x && y) ≡ true → y ≡ true
  and_right true y e = e
  and_right false y e = absurd (cc)

pub base_within : (bytes : List ℕ) → base_of bytes ≤ length bytes
base_within bytes = by_test (starts_with nat_eq bytes byte_order_mark) refl where
  by_test : (test : Bool) → starts_with nat_eq bytes byte_order_mark ≡ test → (if test then 3 else 0) ≤ length bytes
  by_test true e = marked_within bytes byte_order_mark e
  by_test false e = omega arith

-- ---- two neighbouring fragments

module _ {P : Type 0} (IsOwn : P → Type 0) (IsFold : P → List FileLine → Type 0) where
  abbrev IsKept : P → List FileLine → Type 0
  IsKept = OwnFold IsOwn IsFold

  module _ (bytes : List ℕ) (i j k : ℕ) where
    pub neighbours_are : (a b c d : LineFragment P) → a ≡ c → b ≡ d → AreNeighbours (StandsFor IsKept) bytes i j k a b → AreNeighbours (StandsFor IsKept) bytes i j k c d
    neighbours_are a b c d e f h =
        let P1 : LineFragment P → Type 0 = λ z. AreNeighbours (StandsFor IsKept) bytes i j k z b in
        let P2 : LineFragment P → Type 0 = λ z. AreNeighbours (StandsFor IsKept) bytes i j k c z in
        subst P2 f (subst P1 e h)

    pub pieces_merged : (left right both : Span) → AreNeighbours (StandsFor IsKept) bytes i j k (Piece left) (Piece right) → both.from ≡ left.from → both.to ≡ right.to → HoldsPiece i (span_of bytes i k) both
    pieces_merged left right both n ef et =
        let h = n.first in let g = n.second in let l = n.within in let (p, (pf, pt)) = n.left in let (q, (qf, qt)) = n.right in
        let size = length-span_of bytes i k (omega (arith, h, g, l)) l in
        let far = length-span_of bytes j k g l in (
          pieces_both bytes i j k h g l ∙ (ap (λ z. glued z (pieces_from j (span_of bytes j k))) p ∙ (ap (glued (record { at = i; text = span_of bytes i j } ∷ [])) q
              ∙ ap (λ z. record { at = i; text = z } ∷ []) (sym (span_of-joined bytes i j k h g)))),
          (ef ∙ pf, et ∙ (qt ∙ (far ∙ sym size))),
        )

    pub piece_lines_merged : (left : Span) (right : WholeLines P) (before : Span) → AreNeighbours (StandsFor IsKept) bytes i j k (Piece left) (Lines right) → before.from ≡ left.from → before.to ≡ right.before.to
        → HoldsLines IsKept i (span_of bytes i k) (record { before = before; part = right.part; behind = right.behind })
    piece_lines_merged left right before n ef et =
        let h = n.first in let g = n.second in let l = n.within in let (p, (pf, pt)) = n.left in let r = n.right in
        let near = length-span_of bytes i j h (omega (arith, h, g, l)) in
        let begins = first_begins j (span_of bytes j k) r.first (r.inner ++ (r.last ∷ [])) r.pieces in
        let size = length-append (span_of bytes i j) r.first.text in
        let ends = r.before.1 in
        record {
          first = record { at = i; text = span_of bytes i j ++ r.first.text };
          inner = r.inner;
          last = r.last;
          pieces = pieces_both bytes i j k h g l ∙ (ap (λ z. glued z (pieces_from j (span_of bytes j k))) p ∙ ap (glued (record { at = i; text = span_of bytes i j } ∷ [])) r.pieces);
          before = (ef ∙ pf, omega (arith, et, ends, begins, size, near));
          kept = r.kept;
          behind = r.behind;
        }

    pub lines_piece_merged : (left : WholeLines P) (right : Span) (behind : Span) → AreNeighbours (StandsFor IsKept) bytes i j k (Lines left) (Piece right) → behind.from ≡ left.behind.from → behind.to ≡ right.to
        → HoldsLines IsKept i (span_of bytes i k) (record { before = left.before; part = left.part; behind = behind })
    lines_piece_merged left right behind n ef et =
        let h = n.first in let g = n.second in let l = n.within in let r = n.left in let (q, (qf, qt)) = n.right in
        let near = length-span_of bytes i j h (omega (arith, h, g, l)) in
        let ends = last_ends i (span_of bytes i j) (r.first ∷ r.inner) r.last r.pieces in
        let size = length-append r.last.text (span_of bytes j k) in
        record {
          first = r.first;
          inner = r.inner;
          last = record { at = r.last.at; text = r.last.text ++ span_of bytes j k };
          pieces = pieces_both bytes i j k h g l ∙ (ap (λ z. glued z (pieces_from j (span_of bytes j k))) r.pieces ∙ (ap (glued ((r.first ∷ r.inner) ++ (r.last ∷ []))) q
              ∙ glued_end (r.first ∷ r.inner) r.last (record { at = j; text = span_of bytes j k }) []));
          before = r.before;
          kept = r.kept;
          behind = (ef ∙ r.behind.0, omega (arith, et, qt, ends, size, near));
        }

    -- two with lines: the line that lies in both
    module _ (left right : WholeLines P) (n : AreNeighbours (StandsFor IsKept) bytes i j k (Lines left) (Lines right)) where
      abbrev hl : HoldsLines IsKept i (span_of bytes i j) left
      hl = n.left

      abbrev hr : HoldsLines IsKept j (span_of bytes j k) right
      hr = n.right

      abbrev broken : FileLine
      broken = record { at = hl.last.at; text = hl.last.text ++ hr.first.text }

      both_pieces : pieces_from i (span_of bytes i k) ≡ (hl.first ∷ hl.inner) ++ (broken ∷ (hr.inner ++ (hr.last ∷ [])))
      both_pieces = pieces_both bytes i j k n.first n.second n.within ∙ (ap (λ z. glued z (pieces_from j (span_of bytes j k))) hl.pieces ∙ (ap (glued ((hl.first ∷ hl.inner) ++ (hl.last ∷ []))) hr.pieces
          ∙ glued_end (hl.first ∷ hl.inner) hl.last hr.first (hr.inner ++ (hr.last ∷ []))))

      pub broken_has : (span : Span) → span.from ≡ left.behind.from → span.to ≡ right.before.to → HasPiece bytes span broken
      broken_has span ef et =
          let ends = last_ends i (span_of bytes i j) (hl.first ∷ hl.inner) hl.last hl.pieces in
          let near : i + length (span_of bytes i j) ≡ j = length-span_of bytes i j n.first (omega (arith, n.second, n.within)) in
          let begins = first_begins j (span_of bytes j k) hr.first (hr.inner ++ (hr.last ∷ [])) hr.pieces in
          let size = length-append hl.last.text hr.first.text in
          span_has bytes (span_of bytes i k) (drop (k - i) (drop i bytes)) i span broken (omega (arith, n.first, n.second, n.within)) (part_more bytes i k (omega (arith, n.first, n.second)))
          (piece_of i (span_of bytes i k) (hl.first ∷ hl.inner) broken (hr.inner ++ (hr.last ∷ [])) both_pieces)
          (ef ∙ hl.behind.0, omega (arith, et, hr.before.1, begins, ends, near, size))

      pub lines_merged : (span : Span) → span.from ≡ left.behind.from → span.to ≡ right.before.to → (added part : P) → IsOwn part
          → AddsLines IsFold left.part (lines_in (record { at = span.from; text = span_of bytes span.from span.to } ∷ [])) added
          → ((before behind : List FileLine) → IsFold added before → IsFold right.part behind → IsFold part (before ++ behind))
          → HoldsLines IsKept i (span_of bytes i k) (record { before = left.before; part = part; behind = right.behind })
      lines_merged span ef et added part own adds joins =
          let has = broken_has span ef et in
          let P1 : FileLine → Type 0 = λ z. IsFold added (lines_in hl.inner ++ lines_in (z ∷ [])) in
          let one : IsFold added (lines_in hl.inner ++ lines_in (broken ∷ [])) = subst P1 has.line (adds (lines_in hl.inner) hl.kept.1) in
          let all : IsFold part ((lines_in hl.inner ++ lines_in (broken ∷ [])) ++ lines_in hr.inner) = joins _ _ one hr.kept.1 in
          record {
            first = hl.first;
            inner = hl.inner ++ (broken ∷ hr.inner);
            last = hr.last;
            pieces = both_pieces ∙ ap (λ z. hl.first ∷ z) (sym (append_assoc hl.inner (broken ∷ hr.inner) (hr.last ∷ [])));
            before = hl.before;
            kept = (own, subst (λ (z : List FileLine). IsFold part z) (sym (lines_around hl.inner broken hr.inner)) all);
            behind = hr.behind;
          }

  -- ---- a whole file

  module _ (bytes : List ℕ) (at : ℕ) (inside : at ≤ length bytes) where
    whole_has : (ps : List FileLine) (p : FileLine) (qs : List FileLine) (span : Span) → pieces_from at (drop at bytes) ≡ ps ++ (p ∷ qs) → IsSpanOf p span → HasPiece bytes span p
    whole_has ps p qs span h s = span_has bytes (drop at bytes) [] at span p inside (sym (append-nil (drop at bytes))) (piece_of at (drop at bytes) ps p qs h) s

    pub piece_has : (span : Span) → HoldsPiece at (drop at bytes) span → HasPiece bytes span (record { at = at; text = drop at bytes })
    piece_has span (h, s) = whole_has [] (record { at = at; text = drop at bytes }) [] span h s

    pub held : (whole made : LineFragment P) → whole ≡ made → StandsFor IsKept at (drop at bytes) whole → StandsFor IsKept at (drop at bytes) made
    held whole made e h = let P1 : LineFragment P → Type 0 = λ z. StandsFor IsKept at (drop at bytes) z in subst P1 e h

    pub before_has : (whole : WholeLines P) (h : HoldsLines IsKept at (drop at bytes) whole) → HasPiece bytes whole.before h.first
    before_has whole h = whole_has [] h.first (h.inner ++ (h.last ∷ [])) whole.before h.pieces h.before

    pub behind_has : (whole : WholeLines P) (h : HoldsLines IsKept at (drop at bytes) whole) → HasPiece bytes whole.behind h.last
    behind_has whole h = whole_has (h.first ∷ h.inner) h.last [] whole.behind h.pieces h.behind

    pub lines_finished : (whole : WholeLines P) (none first joined part : P) → HoldsLines IsKept at (drop at bytes) whole → IsFold none []
        → AddsLines IsFold none (lines_in (record { at = whole.before.from; text = span_of bytes whole.before.from whole.before.to } ∷ [])) first
        → ((before behind : List FileLine) → IsFold first before → IsFold whole.part behind → IsFold joined (before ++ behind))
        → AddsLines IsFold joined (lines_in (record { at = whole.behind.from; text = span_of bytes whole.behind.from whole.behind.to } ∷ [])) part
        → IsFold part (lines_in (pieces_from at (drop at bytes)))
    lines_finished whole none first joined part h empty adds joins more =
        let P1 : FileLine → Type 0 = λ z. IsFold first (lines_in (z ∷ [])) in
        let one : IsFold first (lines_in (h.first ∷ [])) = subst P1 (before_has whole h).line (adds [] empty) in
        let two : IsFold joined (lines_in (h.first ∷ []) ++ lines_in h.inner) = joins _ _ one h.kept.1 in
        let P2 : FileLine → Type 0 = λ z. IsFold part ((lines_in (h.first ∷ []) ++ lines_in h.inner) ++ lines_in (z ∷ [])) in
        let three : IsFold part ((lines_in (h.first ∷ []) ++ lines_in h.inner) ++ lines_in (h.last ∷ [])) = subst P2 (behind_has whole h).line (more _ two) in
        let e : lines_in (pieces_from at (drop at bytes)) ≡ (lines_in (h.first ∷ []) ++ lines_in h.inner) ++ lines_in (h.last ∷ []) =
        ap lines_in h.pieces ∙ (lines_in-append (h.first ∷ h.inner) (h.last ∷ []) ∙ ap (λ z. z ++ lines_in (h.last ∷ [])) (lines_in-append (h.first ∷ []) h.inner)) in
        subst (λ (z : List FileLine). IsFold part z) (sym e) three

  -- what stands for all bytes from where the text begins, as a merge says it
  pub whole_stands : (bytes : List ℕ) (base : ℕ) (whole : LineFragment P) → base ≡ base_of bytes → StandsFor IsKept base (span_of bytes base (length bytes)) whole → StandsFor IsKept (base_of bytes) (drop (base_of bytes) bytes) whole
  whole_stands bytes base whole e h =
      let P1 : List ℕ → Type 0 = λ z. StandsFor IsKept base z whole in
      let P2 : ℕ → Type 0 = λ n. StandsFor IsKept n (drop n bytes) whole in
      subst P2 e (subst P1 (left_is bytes base) h)

  -- ---- what is read of a piece

  -- the pieces folded so far, and what is left of the bytes
  pub record FoldedSoFar (at : ℕ) (bytes : List ℕ) (start : ℕ) (part : P) : Type 0 where
    pub inner : List FileLine
    pub split : pieces_from at bytes ≡ inner ++ pieces_from (at + start) (drop start bytes)
    pub kept : OwnFold IsOwn IsFold part (lines_in inner)
    pub within : start ≤ length bytes

  module _ (at : ℕ) (bytes : List ℕ) (start : ℕ) (part : P) (h : FoldedSoFar at bytes start part) (p : ℕ) (first : p ≡ position_or_len is_line_feed (take (length bytes - start) (drop start bytes))) where
    first_left : p ≡ position_or_len is_line_feed (drop start bytes)
    first_left = first ∙ ap (position_or_len is_line_feed) (left_is bytes start)

    -- what the code takes for a piece
    abbrev next_piece : FileLine
    next_piece = record { at = at + start; text = take (start + p - start) (take (length bytes - start) (drop start bytes)) }

    next_pieces : start + p < length bytes → pieces_from (at + start) (drop start bytes) ≡ next_piece ∷ pieces_from (at + (start + p + 1)) (drop (start + p + 1) bytes)
    next_pieces inside =
        let short : p < length (drop start bytes) = omega (arith, length-drop start bytes) in
        let width : p ≡ start + p - start = omega arith in
        let place : at + start + p + 1 ≡ at + (start + p + 1) = omega arith in
        let further : drop (p + 1) (drop start bytes) ≡ drop (start + p + 1) bytes = drop-drop (p + 1) start bytes ∙ ap (λ n. drop n bytes) (omega arith) in
        pieces_first is_line_feed (at + start) (drop start bytes) p first_left short
        ∙ (ap (λ n. record { at = at + start; text = take p (drop start bytes) } ∷ pieces_from n (drop (p + 1) (drop start bytes))) place
        ∙ (ap (λ z. record { at = at + start; text = take p (drop start bytes) } ∷ pieces_from (at + (start + p + 1)) z) further
        ∙ (ap (λ n. record { at = at + start; text = take n (drop start bytes) } ∷ pieces_from (at + (start + p + 1)) (drop (start + p + 1) bytes)) width
        ∙ ap (λ z. record { at = at + start; text = take (start + p - start) z } ∷ pieces_from (at + (start + p + 1)) (drop (start + p + 1) bytes)) (sym (left_is bytes start)))))

    pub next_has_one : start + p < length bytes → list_any is_line_feed (take (start + p - start) (take (length bytes - start) (drop start bytes))) ≡ false
    next_has_one inside = (piece_of (at + start) (drop start bytes) [] next_piece (pieces_from (at + (start + p + 1)) (drop (start + p + 1) bytes)) (next_pieces inside)).one

    pub folded_more : start + p < length bytes → (next : P) → IsOwn next → AddsLines IsFold part (lines_in (next_piece ∷ [])) next → FoldedSoFar at bytes (start + p + 1) next
    folded_more inside next own adds = record {
      inner = h.inner ++ (next_piece ∷ []);
      split = h.split ∙ (ap (λ z. h.inner ++ z) (next_pieces inside) ∙ sym (append_assoc h.inner (next_piece ∷ []) (pieces_from (at + (start + p + 1)) (drop (start + p + 1) bytes))));
      kept = (own, subst (λ (z : List FileLine). IsFold next z) (sym (lines_in-append h.inner (next_piece ∷ []))) (adds (lines_in h.inner) h.kept.1));
      within = omega arith;
    }

    pub folded_all : start + p ≡ length bytes → HoldsInner (OwnFold IsOwn IsFold) at bytes (record { part = part; end = start })
    folded_all ends = record {
      inner = h.inner;
      pieces = h.split ∙ ap (λ z. h.inner ++ z) (pieces_last is_line_feed (at + start) (drop start bytes) (sym first_left ∙ omega (arith, length-drop start bytes, h.within)));
      kept = h.kept;
      within = h.within;
    }

  -- a piece with a line feed
  pub whole_read : (base : ℕ) (piece : List ℕ) (first : ℕ) (before behind : Span) (read : Inner P) → first ≡ position_or_len is_line_feed piece → first < length piece
      → HoldsInner (OwnFold IsOwn IsFold) (base + first + 1) (take (length piece - (first + 1)) (drop (first + 1) piece)) read
      → before.from ≡ base → before.to ≡ base + first → behind.from ≡ base + first + 1 + read.end → behind.to ≡ base + length piece
      → HoldsLines (OwnFold IsOwn IsFold) base piece (record { before = before; part = read.part; behind = behind })
  whole_read base piece first before behind read e inside h bf bt df dt =
      let rest : take (length piece - (first + 1)) (drop (first + 1) piece) ≡ drop (first + 1) piece = left_is piece (first + 1) in
      let g : HoldsInner (OwnFold IsOwn IsFold) (base + first + 1) (drop (first + 1) piece) read = subst (λ (z : List ℕ). HoldsInner (OwnFold IsOwn IsFold) (base + first + 1) z read) rest h in
      record {
        first = record { at = base; text = take first piece };
        inner = g.inner;
        last = record { at = base + first + 1 + read.end; text = drop read.end (drop (first + 1) piece) };
        pieces = pieces_first is_line_feed base piece first e inside ∙ ap (λ z. record { at = base; text = take first piece } ∷ z) g.pieces;
        before = (bf, bt ∙ ap (λ n. base + n) (omega (arith, length-take first piece)));
        kept = g.kept;
        behind = (df, dt ∙ omega (arith, length-drop read.end (drop (first + 1) piece), length-drop (first + 1) piece, g.within));
      }

  pub piece_read : (base : ℕ) (piece : List ℕ) (first : ℕ) (span : Span) → first ≡ position_or_len is_line_feed piece → first ≡ length piece → span.from ≡ base → span.to ≡ base + first → HoldsPiece base piece span
  piece_read base piece first span e ends bf bt = (pieces_last is_line_feed base piece (sym e ∙ ends), (bf, bt ∙ ap (λ n. base + n) ends))

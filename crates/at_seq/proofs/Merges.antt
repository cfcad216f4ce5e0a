-- What is read of a span, and what two neighbouring spans give.
-- For the laws of the definitions.
use Rattle.std.proofs.Common.{◌≡◌, ℕ, ◌+◌, ◌-◌, ◌<◌, ◌≤◌, List, [], ◌∷◌, ◌++◌, length, None, sym, ◌∙◌, ap, subst, arith, append_assoc}
use Rattle.std.specs.List.{position_or_len}
use Rattle.at_text.specs.Spans.{span_of, AreNeighbours, IsMerged}
use Rattle.at_text.specs.declared.texts.Span.{Span}
use Rattle.at_text.proofs.Separated.{glued, glued_end}
use Rattle.at_nest.specs.FragmentMeanings.{StandsFor}
use Rattle.at_nest.specs.declared.fragments.Fragment.{Fragment}
use Rattle.at_query.specs.Keeping.{Asked}
use Rattle.at_geojson.specs.declared.asked.GeoAlgebra.{GeoAlgebra}
use Rattle.at_geojson.specs.declared.atoms.atom.GeoAtom.{GeoAtom}
use Rattle.at_geojson.specs.Atoms.{IsGeoAtom}
use Rattle.at_query.specs.declared.answer.gathered.Gathered.{Gathered}
use Rattle.at_blocks.specs.Encodings.{IsValidIn}
use Rattle.at_query.specs.GatheredParts.{AreJoinable, IsJoinOf}
use Rattle.at_wkt.proofs.LineMerges.{length-span_of}
use Rattle.at_text.specs.Separated.{Piece}
use Rattle.at_seq.specs.Records.{is_separator, records_in}
use Rattle.at_seq.specs.Gathering.{IsGathered, AddsRecords, AddsFirst, AddsNext}
use Rattle.at_seq.specs.declared.fragments.PartedText.{PartedText}
use Rattle.at_seq.specs.declared.fragments.SeqText.{SeqText}
use Rattle.at_seq.specs.declared.fragments.SeqText.TheVariants.{Lone, Parted}
use Rattle.at_seq.specs.declared.fragments.SeqRead.{SeqRead}
use Rattle.at_seq.specs.declared.fragments.SeqFragment.{SeqFragment}
use Rattle.at_seq.specs.declared.fragments.SeqFragment.TheVariants.{Read}
use Rattle.at_seq.specs.Fragments.{SeqAsks, piece_in, pieces_in, AreBeside, IsOfBoth, HoldsJson, HoldsParted, HoldsText, HoldsSpan, HoldsFragment, HoldsInner, StandsInFile}
use Rattle.at_seq.proofs.PieceRecords.{records_in-append, records_around, pieces_both, piece_both, pieces_ahead, pieces_alone}
use Rattle.at_seq.proofs.Gathers.{gathered_joinable, gathered_joined}

module _ (asked : Asked) (bytes : List ℕ) where
  abbrev Stands : ℕ → List ℕ → Fragment GeoAlgebra GeoAtom → Type 0
  Stands = StandsFor (IsGeoAtom asked)

  -- ---- what is read

  -- the pieces gathered so far, and what is left of the span
  pub record ReadSoFar (i k start : ℕ) (gathered : Gathered) : Type 0 where
    pub inner : List Piece
    pub split : pieces_in bytes i k ≡ inner ++ pieces_in bytes start k
    pub kept : IsGathered asked gathered (records_in inner)
    pub begins : i ≤ start
    pub ends : start ≤ k

  module _ (i k start : ℕ) (kept next : Gathered) (h : ReadSoFar i k start kept) (within : k ≤ length bytes) where
    abbrev rest : Span
    rest = record { from = start; to = k }

    pub more_read : (end : ℕ) → AddsFirst asked bytes rest kept next end → ReadSoFar i k (end + 1) next
    more_read end adds =
        let begins : start ≤ end = adds.begins in
        let inside : end < k = adds.inside in
        let place : start + (end - start) ≡ end = omega (arith, begins) in
        let ahead : pieces_in bytes start k ≡ piece_in bytes start end ∷ pieces_in bytes (end + 1) k =
        pieces_ahead bytes start k (end - start) h.ends within adds.first (omega (arith, begins, inside)) ∙ ap (λ n. piece_in bytes start n ∷ pieces_in bytes (n + 1) k) place in
        record {
          inner = h.inner ++ (piece_in bytes start end ∷ []);
          split = h.split ∙ (ap (λ z. h.inner ++ z) ahead ∙ sym (append_assoc h.inner (piece_in bytes start end ∷ []) (pieces_in bytes (end + 1) k)));
          kept = subst (IsGathered asked next) (sym (records_in-append h.inner (piece_in bytes start end ∷ []))) (adds.adds (records_in h.inner) h.kept);
          begins = omega (arith, h.begins, begins);
          ends = omega (arith, inside);
        }

    pub all_read : AddsNext asked bytes rest kept next None → HoldsInner asked bytes i k (record { kept = next; last = start })
    all_read (same, first) = record {
      inner = h.inner;
      pieces = h.split ∙ ap (λ z. h.inner ++ z) (pieces_alone bytes start k (k - start) h.ends within first (omega (arith, h.ends)));
      kept = subst (λ z. IsGathered asked z (records_in h.inner)) (sym same) h.kept;
      begins = h.begins;
      ends = h.ends;
    }

  -- a span with a separator
  pub parted_read : (i k first : ℕ) (kept : Gathered) (last : ℕ) (before behind : Fragment GeoAlgebra GeoAtom) → i ≤ first → first < k → k ≤ length bytes → first - i ≡ position_or_len is_separator (span_of bytes i k)
      → HoldsInner asked bytes (first + 1) k (record { kept = kept; last = last }) → HoldsJson asked bytes i first before → HoldsJson asked bytes last k behind
      → HoldsParted asked bytes i k (record { before = before; first = first; kept = kept; last = last; behind = behind })
  parted_read i k first kept last before behind h inside within at inner front rest =
      let place : i + (first - i) ≡ first = omega (arith, h) in
      record {
        inner = inner.inner;
        pieces = pieces_ahead bytes i k (first - i) (omega (arith, h, inside)) within at (omega (arith, h, inside))
            ∙ (ap (λ n. piece_in bytes i n ∷ pieces_in bytes (n + 1) k) place ∙ ap (λ z. piece_in bytes i first ∷ z) inner.pieces);
        begins = h;
        order = omega (arith, inner.begins);
        ends = inner.ends;
        before = front;
        kept = inner.kept;
        behind = rest;
      }

  -- and one without
  pub lone_read : (i k p : ℕ) (f : Fragment GeoAlgebra GeoAtom) → i ≤ k → k ≤ length bytes → p ≡ position_or_len is_separator (span_of bytes i k) → i + p ≡ k → HoldsJson asked bytes i k f → HoldsText asked bytes i k (Lone f)
  lone_read i k p f h within first ends holds = (pieces_alone bytes i k p h within first ends, holds)

  -- ---- two neighbouring spans

  module _ (i j k : ℕ) where
    pub lone_lone : (left right both : Fragment GeoAlgebra GeoAtom) → AreBeside (HoldsText asked bytes) bytes i j k (Lone left) (Lone right) → IsMerged Stands bytes left right both → HoldsText asked bytes i k (Lone both)
    lone_lone left right both (h, g, l, (p, a), (q, b)) merged = (
      pieces_both bytes i j k h g l ∙ (ap (λ z. glued z (pieces_in bytes j k)) p ∙ (ap (glued (piece_in bytes i j ∷ [])) q ∙ ap (λ z. z ∷ []) (piece_both bytes i j k h g))),
      merged i j k (record { first = h; second = g; within = l; left = a; right = b }),
    )

    pub lone_parted : (left : Fragment GeoAlgebra GeoAtom) (right : PartedText) (both : Fragment GeoAlgebra GeoAtom) → AreBeside (HoldsText asked bytes) bytes i j k (Lone left) (Parted right) → IsMerged Stands bytes left right.before both
        → HoldsParted asked bytes i k (record { before = both; first = right.first; kept = right.kept; last = right.last; behind = right.behind })
    lone_parted left right both (h, g, l, (p, a), r) merged = record {
      inner = r.inner;
      pieces = pieces_both bytes i j k h g l ∙ (ap (λ z. glued z (pieces_in bytes j k)) p ∙ (ap (glued (piece_in bytes i j ∷ [])) r.pieces
          ∙ ap (λ z. z ∷ (r.inner ++ piece_in bytes right.last k ∷ [])) (piece_both bytes i j right.first h r.begins)));
      begins = omega (arith, h, r.begins);
      order = r.order;
      ends = r.ends;
      before = merged i j right.first (record { first = h; second = r.begins; within = omega (arith, r.order, r.ends, l); left = a; right = r.before });
      kept = r.kept;
      behind = r.behind;
    }

    pub parted_lone : (left : PartedText) (right both : Fragment GeoAlgebra GeoAtom) → AreBeside (HoldsText asked bytes) bytes i j k (Parted left) (Lone right) → IsMerged Stands bytes left.behind right both
        → HoldsParted asked bytes i k (record { before = left.before; first = left.first; kept = left.kept; last = left.last; behind = both })
    parted_lone left right both (h, g, l, r, (q, b)) merged = record {
      inner = r.inner;
      pieces = pieces_both bytes i j k h g l ∙ (ap (λ z. glued z (pieces_in bytes j k)) r.pieces ∙ (ap (glued ((piece_in bytes i left.first ∷ r.inner) ++ (piece_in bytes left.last j ∷ []))) q
          ∙ (glued_end (piece_in bytes i left.first ∷ r.inner) (piece_in bytes left.last j) (piece_in bytes j k) []
          ∙ ap (λ z. (piece_in bytes i left.first ∷ r.inner) ++ (z ∷ [])) (piece_both bytes left.last j k r.ends g))));
      begins = r.begins;
      order = r.order;
      ends = omega (arith, r.ends, g);
      before = r.before;
      kept = r.kept;
      behind = merged left.last j k (record { first = r.ends; second = g; within = l; left = r.behind; right = b });
    }

    pub texts_are : (a b c d : SeqText) → a ≡ c → b ≡ d → AreBeside (HoldsText asked bytes) bytes i j k a b → AreBeside (HoldsText asked bytes) bytes i j k c d
    texts_are a b c d e f h =
        let P1 : SeqText → Type 0 = λ z. AreBeside (HoldsText asked bytes) bytes i j k z b in
        let P2 : SeqText → Type 0 = λ z. AreBeside (HoldsText asked bytes) bytes i j k c z in
        subst P2 f (subst P1 e h)

    -- two with a separator: the record that lies in both
    module _ (left right : PartedText) (n : AreBeside (HoldsParted asked bytes) bytes i j k left right) where
      abbrev hl : HoldsParted asked bytes i j left
      hl = n.3

      abbrev hr : HoldsParted asked bytes j k right
      hr = n.4

      pub record_order : left.last ≤ right.first
      record_order = omega (arith, hl.ends, hr.begins)

      pub record_within : right.first ≤ length bytes
      record_within = omega (arith, hr.order, hr.ends, n.2)

      pub record_beside : AreNeighbours Stands bytes left.last j right.first left.behind right.before
      record_beside = record {
        first = hl.ends;
        second = hr.begins;
        within = record_within;
        left = hl.behind;
        right = hr.before;
      }

      pub record_holds : (whole : Fragment GeoAlgebra GeoAtom) → IsMerged Stands bytes left.behind right.before whole → HoldsJson asked bytes left.last right.first whole
      record_holds whole merged = merged left.last j right.first record_beside

      abbrev broken : Piece
      broken = piece_in bytes left.last right.first

      both_pieces : pieces_in bytes i k ≡ piece_in bytes i left.first ∷ ((hl.inner ++ (broken ∷ hr.inner)) ++ piece_in bytes right.last k ∷ [])
      both_pieces = pieces_both bytes i j k n.0 n.1 n.2 ∙ (ap (λ z. glued z (pieces_in bytes j k)) hl.pieces ∙ (ap (glued ((piece_in bytes i left.first ∷ hl.inner) ++ (piece_in bytes left.last j ∷ []))) hr.pieces
          ∙ (glued_end (piece_in bytes i left.first ∷ hl.inner) (piece_in bytes left.last j) (piece_in bytes j right.first) (hr.inner ++ piece_in bytes right.last k ∷ [])
          ∙ (ap (λ z. (piece_in bytes i left.first ∷ hl.inner) ++ (z ∷ (hr.inner ++ piece_in bytes right.last k ∷ []))) (piece_both bytes left.last j right.first hl.ends hr.begins)
          ∙ ap (λ z. piece_in bytes i left.first ∷ z) (sym (append_assoc hl.inner (broken ∷ hr.inner) (piece_in bytes right.last k ∷ [])))))))

      pub added_joinable : (added : Gathered) → AddsRecords asked left.kept (records_in (broken ∷ [])) added → AreJoinable added right.kept
      added_joinable added adds = gathered_joinable asked added right.kept (records_in hl.inner ++ records_in (broken ∷ [])) (records_in hr.inner) (adds (records_in hl.inner) hl.kept) hr.kept

      pub parted_parted : (added kept : Gathered) → AddsRecords asked left.kept (records_in (broken ∷ [])) added → IsJoinOf added right.kept kept
          → HoldsParted asked bytes i k (record { before = left.before; first = left.first; kept = kept; last = right.last; behind = right.behind })
      parted_parted added kept adds joins = record {
        inner = hl.inner ++ (broken ∷ hr.inner);
        pieces = both_pieces;
        begins = hl.begins;
        order = omega (arith, hl.order, record_order, hr.order);
        ends = hr.ends;
        before = hl.before;
        kept = subst (IsGathered asked kept) (sym (records_around hl.inner broken hr.inner))
            (gathered_joined asked added right.kept kept (records_in hl.inner ++ records_in (broken ∷ [])) (records_in hr.inner) joins (adds (records_in hl.inner) hl.kept) hr.kept);
        behind = hr.behind;
      }

    pub text_beside : (left right : SeqRead) → AreBeside (HoldsSpan asked bytes) bytes i j k left right → AreBeside (HoldsText asked bytes) bytes i j k left.text right.text
    text_beside left right (h, g, l, a, b) = (h, g, l, a.text, b.text)

    pub valid_beside : (left right : SeqRead) → AreBeside (HoldsSpan asked bytes) bytes i j k left right → AreNeighbours IsValidIn bytes i j k left.valid right.valid
    valid_beside left right (h, g, l, a, b) = record {
      first = h;
      second = g;
      within = l;
      left = a.valid;
      right = b.valid;
    }

    pub spans_merged : (left right : SeqRead) (text : SeqText) (valid : Span) → AreBeside (HoldsSpan asked bytes) bytes i j k left right → IsOfBoth (HoldsText asked bytes) bytes left.text right.text text
        → IsMerged IsValidIn bytes left.valid right.valid valid → HoldsSpan asked bytes i k (record { text = text; valid = valid })
    spans_merged left right text valid n texts spans = record {
      order = omega (arith, n.0, n.1);
      within = n.2;
      text = texts i j k (text_beside left right n);
      valid = spans i j k (valid_beside left right n);
    }

  -- the fragments that are merged stand for neighbouring spans
  pub lone_before : (a b : SeqText) (left : Fragment GeoAlgebra GeoAtom) (right : PartedText) → a ≡ Lone left → b ≡ Parted right → ((i : ℕ) × (j : ℕ) × (k : ℕ) × AreBeside (HoldsText asked bytes) bytes i j k a b)
      → (i : ℕ) × (j : ℕ) × (k : ℕ) × AreNeighbours Stands bytes i j k left right.before
  lone_before a b left right e f (i, j, k, n) =
      let (h, g, l, (p, x), r) = texts_are i j k a b (Lone left) (Parted right) e f n in (
        i,
        j,
        right.first,
        record {
          first = h;
          second = r.begins;
          within = omega (arith, r.order, r.ends, l);
          left = x;
          right = r.before;
        },
      )

  pub behind_lone : (a b : SeqText) (left : PartedText) (right : Fragment GeoAlgebra GeoAtom) → a ≡ Parted left → b ≡ Lone right → ((i : ℕ) × (j : ℕ) × (k : ℕ) × AreBeside (HoldsText asked bytes) bytes i j k a b)
      → (i : ℕ) × (j : ℕ) × (k : ℕ) × AreNeighbours Stands bytes i j k left.behind right
  behind_lone a b left right e f (i, j, k, n) =
      let (h, g, l, r, (q, x)) = texts_are i j k a b (Parted left) (Lone right) e f n in
      (left.last, j, k, record { first = r.ends; second = g; within = l; left = r.behind; right = x })

-- ---- the reader's pieces

module _ (asks : SeqAsks) (bytes : List ℕ) where
  abbrev Holds : ℕ → ℕ → SeqFragment → Type 0
  Holds = HoldsFragment asks.asked asks.bytes

  -- fragments that stand for neighbouring spans, as those of the reader's file
  pub read_beside : (left right : SeqRead) (i j k : ℕ) → AreNeighbours (StandsInFile asks) bytes i j k (Read left) (Read right) → AreBeside (HoldsSpan asks.asked asks.bytes) asks.bytes i j k left right
  read_beside left right i j k n =
      let h = n.first in let g = n.second in let l = n.within in let a = n.left in let b = n.right in
      let near : i + length (span_of bytes i j) ≡ j = length-span_of bytes i j h (omega (arith, g, l)) in
      let far : j + length (span_of bytes j k) ≡ k = length-span_of bytes j k g l in
      let first : HoldsSpan asks.asked asks.bytes i j left = subst (λ n. HoldsSpan asks.asked asks.bytes i n left) near a in
      let second : HoldsSpan asks.asked asks.bytes j k right = subst (λ n. HoldsSpan asks.asked asks.bytes j n right) far b in
      (h, g, second.within, first, second)

  -- and what stands for both
  pub pieces_merged : (left right : SeqRead) (both : SeqFragment) → IsOfBoth Holds asks.bytes (Read left) (Read right) both → IsMerged (StandsInFile asks) bytes (Read left) (Read right) both
  pieces_merged left right both of_both i j k n =
      let m = read_beside left right i j k n in
      let whole : i + length (span_of bytes i k) ≡ k = length-span_of bytes i k (let a = n.first in let b = n.second in omega (arith, a, b)) n.within in
      subst (λ e. Holds i e both) (sym whole) (of_both i j k (m.0, m.1, m.2, m.3, m.4))

  pub reads_beside : (a b : SeqFragment) (left right : SeqRead) → a ≡ Read left → b ≡ Read right → ((i : ℕ) × (j : ℕ) × (k : ℕ) × AreNeighbours (StandsInFile asks) bytes i j k a b)
      → (i : ℕ) × (j : ℕ) × (k : ℕ) × AreBeside (HoldsSpan asks.asked asks.bytes) asks.bytes i j k left right
  reads_beside a b left right e f (i, j, k, n) =
      let P1 : SeqFragment → Type 0 = λ z. AreNeighbours (StandsInFile asks) bytes i j k z b in
      let P2 : SeqFragment → Type 0 = λ z. AreNeighbours (StandsInFile asks) bytes i j k (Read left) z in
      (i, j, k, read_beside left right i j k (subst P2 f (subst P1 e n)))

  pub merged_as : (a b both : SeqFragment) (left right : SeqRead) → a ≡ Read left → b ≡ Read right → IsOfBoth Holds asks.bytes (Read left) (Read right) both → IsMerged (StandsInFile asks) bytes a b both
  merged_as a b both left right e f h =
      let P1 : SeqFragment → Type 0 = λ z. IsMerged (StandsInFile asks) bytes z b both in
      let P2 : SeqFragment → Type 0 = λ z. IsMerged (StandsInFile asks) bytes (Read left) z both in
      subst P1 (sym e) (subst P2 (sym f) (pieces_merged left right both h))

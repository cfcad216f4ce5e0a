-- How far reading has come, step by step, over collections of any depth.
-- For `read_line`, `read_geometry` and `Room::check_line`: the loop of `src/geometries.rt`.
use Rattle.std.proofs.Common.{◌≡◌, ℕ, zero, suc, ◌+◌, ◌-◌, ◌<◌, ◌≤◌, inl, inr, Bool, true, false, ◌==◌, List, ◌++◌, length, refl, sym, ◌∙◌, ap, subst, arith, true≢false, append-nil, append_assoc, add-one, lit≤}
use Rattle.at_wkt.proofs.Names.{first_fault, first_of, Coords, Dimension, Open, Kind, GeometryCollection, Head, Read, Gathered, between, next, Spelt, Stuck, Leads, SkipsBlanks, Delimiter, delimiter, HasCount, HeadStands, LetterStands, DelimiterStands, DelimiterBreaks, Meaning, joined, no_meaning, Body, meaning_of, Expected, BodyStands, Gathers}
use Rattle.at_wkt.specs.declared.line.positions.DelimiterRead.{DelimiterRead}
use Rattle.at_wkt.specs.declared.line.geometries.Progress.{Progress}
use Rattle.at_wkt.specs.Readers.{opens_at, Onward, Advances, StepStands, WholeStands}
use Rattle.at_fixed.proofs.DigitParts.{part-length}
use Rattle.at_wkt.proofs.Steps.{spelt_over, trans_leads}
use Rattle.at_wkt.proofs.ItemSteps.{delimiter_spelt, delimiter_stuck}
use Rattle.at_wkt.proofs.LetterSteps.{letter_order}
use Rattle.at_wkt.proofs.GeometrySteps.{joined-assoc, joined-none, Behind, Awaited, BodyAfter, open_count}
use Rattle.at_wkt.proofs.CollectionSteps.{kind_first, after_stuck, after_closes, after_goes_on, head_spelt, head_stuck, body_stuck, body_spelt, body_behind, opened_spelt, opened_stuck}
use Rattle.at_wkt.proofs.PartAnswers.{open_byte}
use Rattle.at_text.proofs.FaultOrder.{first_of-append, first_fault-assoc, none_right}

-- ---- behind a geometry

-- from the place behind a geometry the text leads to a later place
abbrev pub ClosesTo : List ℕ → ℕ → ℕ → ℕ → ℕ → Type 0
ClosesTo w i k j m = (base digits : ℕ) (how : Coords) → Leads (Behind digits how k) (Behind digits how m) base w i Open j Open (λ n. n)

pub closes_start : (w : List ℕ) (i k : ℕ) → ClosesTo w i k i k
closes_start w i k base digits how = record { spelt = λ j c m q. q; stuck = λ n q. q }

delimiter_at : (base : ℕ) (w : List ℕ) (i : ℕ) (read : DelimiterRead) (last : Bool) → DelimiterStands w i read → read.is_last ≡ last → Spelt Delimiter base w i Open read.end Open last
delimiter_at base w i read last d e = subst (λ z. Spelt Delimiter base w i Open z Open last) (sym d.end_is) (delimiter_spelt base w i d.at d.blanks last (d.byte ∙ ap delimiter e) d.inside Open open_count)

open_pred : (m : ℕ) → 0 < m → m ≡ suc (m - 1)
open_pred m h = let e : m ≡ (m - 1) + 1 = omega (arith, h) in e ∙ add-one (m - 1)

module _ (w : List ℕ) (i k j m : ℕ) (so_far : ClosesTo w i k j m) (opened : 0 < m) where
  pub closes_more : (read : DelimiterRead) → DelimiterStands w j read → read.is_last ≡ true → ClosesTo w i k read.end (m - 1)
  closes_more read d e base digits how =
      let one : Leads (Behind digits how (suc (m - 1))) (Behind digits how (m - 1)) base w j Open read.end Open (λ n. n) = after_closes digits how base w j (m - 1) read.end (delimiter_at base w j read true d e) in
      trans_leads (so_far base digits how) (subst (λ z. Leads (Behind digits how z) (Behind digits how (m - 1)) base w j Open read.end Open (λ n. n)) (sym (open_pred m opened)) one)

  pub closes_stuck : (n : ℕ) → DelimiterBreaks w j n → (base digits : ℕ) (how : Coords) → Stuck (Behind digits how k) base w i Open n
  closes_stuck n d base digits how =
      let here : Stuck Delimiter base w j Open n = delimiter_stuck base w j n d.blanks Open open_count d.byte in
      (so_far base digits how).stuck n (subst (λ z. Stuck (Behind digits how z) base w j Open n) (sym (open_pred m opened)) (after_stuck digits how base w j (m - 1) n here))

  -- a comma, and the next geometry is expected
  pub closes_next : (read : DelimiterRead) (a : ℕ) → DelimiterStands w j read → read.is_last ≡ false → SkipsBlanks w read.end a → i ≤ j
      → (base digits : ℕ) (how : Coords) → Advances digits how (Behind digits how k) base w i (record { at = a; depth = m; is_over = false }) no_meaning
  closes_next read a d e skips low base digits how =
      let one : Leads (Behind digits how (suc (m - 1))) (Awaited digits how (suc (m - 1))) base w j Open a Open (λ n. n) = after_goes_on digits how base w j (m - 1) read.end a (delimiter_at base w j read false d e) skips in
      let same : Leads (Behind digits how m) (Awaited digits how m) base w j Open a Open (λ n. n) = subst (λ z. Leads (Behind digits how z) (Awaited digits how z) base w j Open a Open (λ n. n)) (sym (open_pred m opened)) one in
      let all : Leads (Behind digits how k) (Awaited digits how m) base w i Open a Open (λ n. n) = trans_leads (so_far base digits how) same in
      record {
        within = skips.within;
        order = omega (arith, low, d.blanks.order, d.end_is, skips.order);
        spelt = λ q n h. all.spelt q Open n h;
        stuck = λ q h. all.stuck q h;
      }

-- nothing is open any more
pub closes_over : (w : List ℕ) (i k j m : ℕ) → ClosesTo w i k j m → m ≡ 0 → i ≤ j → j ≤ length w
    → (base digits : ℕ) (how : Coords) → Advances digits how (Behind digits how k) base w i (record { at = j; depth = m; is_over = true }) no_meaning
closes_over w i k j m so_far none low inside base digits how =
    let all : Leads (Behind digits how k) (Behind digits how 0) base w i Open j Open (λ n. n) = subst (λ z. Leads (Behind digits how k) (Behind digits how z) base w i Open j Open (λ n. n)) none (so_far base digits how) in
    record {
      within = inside;
      order = low;
      spelt = λ q n h. all.spelt q Open n h;
      stuck = λ q h. all.stuck q h;
    }

-- ---- a step

pub gathers_none : (a : Gathered) → Gathers a a no_meaning
gathers_none a = record { points = sym (append-nil a.points.items); lines = sym (append-nil a.lines.items); polygons = sym (append-nil a.polygons.items); fault = sym (none_right a.fault) }

-- the head of a geometry has letters
head_long : (w : List ℕ) (i : ℕ) (head : Head) → HeadStands w i head → i < head.behind.at
head_long w i head h =
    let (b, t, e, n) = kind_first head.kind (between w i h.word_end) h.word.text in
    omega (arith, part-length w i h.word_end h.word.order h.word.within, ap length e, h.blanks.order, h.further.order, letter_order w h.letter_at h.letter_end head.behind.dimension h.letter)

module _ (digits : ℕ) (how : Coords) (base : ℕ) (w : List ℕ) (i : ℕ) (k : ℕ) (head : Head) (h : HeadStands w i head) (old new after : Gathered) where
  pub simple_stuck : (n : ℕ) → Stuck (Body head.kind) base w head.behind.at head.behind.dimension n → Stuck (Awaited digits how k) base w i Open n
  simple_stuck n q = head_stuck digits how base w i k head h n (body_stuck digits how base w head.behind.at head.behind.dimension head.kind k n q)

  -- the geometry of the body, and what stands behind it
  pub simple_stands : (read : Read) (progress : Progress) → BodyStands digits how base w head old new read → Advances digits how (Behind digits how k) base w read.behind.at progress no_meaning
      → after.points.items ≡ new.points.items → after.lines.items ≡ new.lines.items → after.polygons.items ≡ new.polygons.items → after.fault ≡ first_fault new.fault read.fault
      → progress.depth ≤ progress.at → StepStands digits how (Awaited digits how k) base w i old after progress
  simple_stands read progress b a ep el eg ef deep = record {
    meaning = meaning_of digits how b.geometry;
    advances = record {
      within = a.within;
      order = omega (arith, head_long w i head h, b.spelt.order, a.order);
      spelt = λ j n q. head_spelt digits how base w i k head h j read.behind.dimension (joined (meaning_of digits how b.geometry) n)
          (body_spelt digits how base w head.behind.at head.behind.dimension head.kind k read.behind.at read.behind.dimension b.geometry b.spelt j n (a.spelt j n q));
      stuck = λ n q. head_stuck digits how base w i k head h n (body_behind digits how base w head.behind.at head.behind.dimension head.kind k read.behind.at read.behind.dimension b.geometry b.spelt n (a.stuck n q));
    };
    gathers = record {
      points = ep ∙ b.points;
      lines = el ∙ b.lines;
      polygons = eg ∙ b.polygons;
      fault = ef ∙ (ap (λ z. first_fault z read.fault) b.same ∙ ap (first_fault old.fault) b.fault);
    };
    longer = omega (arith, head_long w i head h, b.spelt.order, a.order);
    deep = deep;
  }

  -- a collection opens
  pub opening_stands : (a : ℕ) → head.kind ≡ GeometryCollection → head.behind.at < length w → next w head.behind.at ≡ 0x28 → SkipsBlanks w (head.behind.at + 1) a → HasCount head.behind.dimension → k ≤ i
      → StepStands digits how (Awaited digits how k) base w i old old (record { at = a; depth = k + 1; is_over = false })
  opening_stands a ek inside here skips some deep = record {
    meaning = no_meaning;
    advances = record {
      within = skips.within;
      order = omega (arith, head_long w i head h, skips.order);
      spelt = λ j n q. head_spelt digits how base w i k head h j head.behind.dimension n (opens_to j n q);
      stuck = λ n q. head_stuck digits how base w i k head h n (stuck_to n q);
    };
    gathers = gathers_none old;
    longer = omega (arith, head_long w i head h, skips.order);
    deep = omega (arith, head_long w i head h, skips.order, deep);
  } where
    opens_to : (j : ℕ) (n : Meaning) → Spelt (λ d. Expected digits how (k + 1)) base w a Open j Open n → Spelt (BodyAfter digits how head.kind k) base w head.behind.at head.behind.dimension j head.behind.dimension n
    opens_to j n q = subst (λ z. Spelt (BodyAfter digits how z k) base w head.behind.at head.behind.dimension j head.behind.dimension n) (sym ek)
        (opened_spelt digits how base w head.behind.at a head.behind.dimension k inside here skips some j n (subst (λ z. Spelt (Awaited digits how z) base w a Open j Open n) (add-one k) q))

    stuck_to : (n : ℕ) → Stuck (λ d. Expected digits how (k + 1)) base w a Open n → Stuck (BodyAfter digits how head.kind k) base w head.behind.at head.behind.dimension n
    stuck_to n q = subst (λ z. Stuck (BodyAfter digits how z k) base w head.behind.at head.behind.dimension n) (sym ek)
        (opened_stuck digits how base w head.behind.at a head.behind.dimension k inside here skips some n (subst (λ z. Stuck (Awaited digits how z) base w a Open n) (add-one k) q))

-- ---- all steps

-- what two steps gather
pub gathers_both : (a b c : Gathered) (m n : Meaning) → Gathers a b m → Gathers b c n → Gathers a c (joined m n)
gathers_both a b c m n g h = record {
  points = h.points ∙ (ap (λ z. z ++ n.shape.points) g.points ∙ append_assoc a.points.items m.shape.points n.shape.points);
  lines = h.lines ∙ (ap (λ z. z ++ n.shape.lines) g.lines ∙ append_assoc a.lines.items m.shape.lines n.shape.lines);
  polygons = h.polygons ∙ (ap (λ z. z ++ n.shape.polygons) g.polygons ∙ append_assoc a.polygons.items m.shape.polygons n.shape.polygons);
  fault = h.fault ∙ (ap (λ z. first_fault z (first_of n.faults)) g.fault ∙ (first_fault-assoc a.fault (first_of m.faults) (first_of n.faults) ∙ ap (first_fault a.fault) (sym (first_of-append m.faults n.faults))));
}

-- the steps so far
pub record StepsSoFar (digits : ℕ) (how : Coords) (base : ℕ) (w : List ℕ) (i : ℕ) (old new : Gathered) (progress : Progress) : Type 0 where
  pub meaning : Meaning
  pub advances : Advances digits how (Awaited digits how zero) base w i progress meaning
  pub gathers : Gathers old new meaning
  pub deep : progress.depth ≤ progress.at

module _ (digits : ℕ) (how : Coords) (base : ℕ) (w : List ℕ) (i : ℕ) (old : Gathered) where
  pub steps_start : i ≤ length w → StepsSoFar digits how base w i old old (record { at = i; depth = 0; is_over = false })
  steps_start inside = record {
    meaning = no_meaning;
    advances = record { within = inside; order = omega arith; spelt = λ j n q. q; stuck = λ n q. q };
    gathers = gathers_none old;
    deep = omega arith;
  }

  pub steps_more : (new after : Gathered) (progress onward : Progress) → StepsSoFar digits how base w i old new progress → progress.is_over ≡ false
      → StepStands digits how (Awaited digits how progress.depth) base w progress.at new after onward → StepsSoFar digits how base w i old after onward
  steps_more new after progress onward h more s = record {
    meaning = joined h.meaning s.meaning;
    advances = record {
      within = s.advances.within;
      order = omega (arith, h.advances.order, s.longer);
      spelt = λ j n q. subst (Spelt (Awaited digits how zero) base w i Open j Open) (sym (joined-assoc h.meaning s.meaning n))
          (h.advances.spelt j (joined s.meaning n) (subst (λ z. Spelt (Onward digits how z progress.depth) base w progress.at Open j Open (joined s.meaning n)) (sym more) (s.advances.spelt j n q)));
      stuck = λ n q. h.advances.stuck n (subst (λ z. Stuck (Onward digits how z progress.depth) base w progress.at Open n) (sym more) (s.advances.stuck n q));
    };
    gathers = gathers_both old new after h.meaning s.meaning h.gathers s.gathers;
    deep = s.deep;
  }

  pub steps_stuck : (new : Gathered) (progress : Progress) (n : ℕ) → StepsSoFar digits how base w i old new progress → progress.is_over ≡ false → Stuck (Awaited digits how progress.depth) base w progress.at Open n
      → Stuck (Awaited digits how zero) base w i Open n
  steps_stuck new progress n h more q = h.advances.stuck n (subst (λ z. Stuck (Onward digits how z progress.depth) base w progress.at Open n) (sym more) q)

  pub steps_end : (new : Gathered) (progress : Progress) → StepsSoFar digits how base w i old new progress → progress.is_over ≡ true → WholeStands digits how base w i old new progress.at
  steps_end new progress h over = record {
    meaning = h.meaning;
    spelt = subst (Spelt (Awaited digits how zero) base w i Open progress.at Open) (joined-none h.meaning)
        (h.advances.spelt progress.at no_meaning (subst (λ z. Spelt (Onward digits how z progress.depth) base w progress.at Open progress.at Open no_meaning) (sym over) (spelt_over no_meaning base w progress.at Open h.advances.within open_count)));
    gathers = h.gathers;
  }

-- ---- what a head says

pub head_count : (w : List ℕ) (i : ℕ) (head : Head) → HeadStands w i head → HasCount head.behind.dimension
head_count w i head h = go head.behind.dimension h.letter where
  go : (c : Dimension) → LetterStands w h.letter_at h.letter_end c → HasCount c
  go c (inl q) = subst HasCount (sym q.1) open_count
  go c (inr (inl q)) = subst HasCount (sym q.1) (3, (refl, lit≤ tt, lit≤ tt))
  go c (inr (inr (inl q))) = subst HasCount (sym q.1) (4, (refl, lit≤ tt, lit≤ tt))
  go c (inr (inr (inr q))) = subst HasCount (sym q.1) (3, (refl, lit≤ tt, lit≤ tt))

opens_by : (kind : Kind) (b : Bool) → (elim kind [ GeometryCollection ↦ b | _ ↦ false ]) ≡ true → (kind ≡ GeometryCollection) × (b ≡ true)
opens_by GeometryCollection b h = (refl, h)
opens_by _ b h = absurd (true≢false (sym h))

pub opens_true : (w : List ℕ) (head : Head) → opens_at w head ≡ true → (head.kind ≡ GeometryCollection) × (head.behind.at < length w) × (next w head.behind.at ≡ 0x28)
opens_true w head h =
    let (k, b) = opens_by head.kind (next w head.behind.at == 0x28) h in
    let (l, e) = open_byte w head.behind.at (next w head.behind.at == 0x28) refl b in (k, l, e)

pub simple_behind : (digits : ℕ) (how : Coords) (base : ℕ) (w : List ℕ) (i : ℕ) (k : ℕ) (head : Head) → HeadStands w i head → (old new : Gathered) (read : Read) → BodyStands digits how base w head old new read
    → (n : ℕ) → Stuck (Behind digits how k) base w read.behind.at Open n → Stuck (Awaited digits how k) base w i Open n
simple_behind digits how base w i k head h old new read b n q =
    head_stuck digits how base w i k head h n (body_behind digits how base w head.behind.at head.behind.dimension head.kind k read.behind.at read.behind.dimension b.geometry b.spelt n q)

-- the head of a collection whose bracket doesn't open
pub shut_by : (w : List ℕ) (head : Head) → opens_at w head ≡ false → head.kind ≡ GeometryCollection → (next w head.behind.at == 0x28) ≡ false
shut_by w head h e = let P : Kind → Type 0 = λ z. (elim z [ GeometryCollection ↦ next w head.behind.at == 0x28 | _ ↦ false ]) ≡ false in subst P e h

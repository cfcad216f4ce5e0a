-- Geometries that are passed over.
-- For `Room::check_line`, which passes over plain lines.
use Rattle.std.proofs.Common.{◌≡◌, ℕ, ◌+◌, ◌≤◌, Bool, true, false, List, [], ◌∷◌, ◌++◌, length, Option, Some, None, refl, sym, ap, ◌∙◌, subst, arith, length-append}
use Rattle.std.specs.Prelude.{IfSome}
use Rattle.at_wkt.proofs.Names.{Fault, first_fault, first_of, Coords, Pos, Dimension, Rules, PositionRead, NumbersRead, Read, ends_same, Grows, none_kept, HasCount, PartStands, PositionStands, PositionsSoFar, HeadStands, Meaning, Spelt, joined, no_meaning, meaning_of, Body, Head, Kind, Open, Geometry, faults_of}
use Rattle.at_wkt.specs.declared.line.sources.Place.{Place}
use Rattle.at_wkt.specs.Readers.{IsPassed, IsPassedList, PassesPart, IsPassedBody, IsPassedGeometry}
use Rattle.at_wkt.proofs.GeometryAnswers.{on_body}
use Rattle.at_wkt.proofs.Steps.{spelt_over, Same}
use Rattle.at_wkt.proofs.GeometrySteps.{joined-none, Awaited, open_count}
use Rattle.at_wkt.proofs.CollectionSteps.{head_spelt, body_spelt}
use Rattle.at_wkt.proofs.ProgressAnswers.{closes_start, closes_over}
use Rattle.at_wkt.proofs.PathAnswers.{positions_start, positions_more, positions_end}

-- ---- positions

-- so many positions without a fault stand up to the place behind the last of them
pub record PassedSoFar (rules : Rules) (w : List ℕ) (i : ℕ) (c : Dimension) (first last : PositionRead) (is_last : Bool) (behind : Place) (count : ℕ) : Type 0 where
  pub list : List Pos
  pub reads : PositionsSoFar rules w i c first last list None
  pub last_is : is_last ≡ last.is_last
  pub behind_is : behind ≡ last.behind
  pub count_is : length list ≡ count
  pub few : count ≤ behind.at
  pub within : behind.at ≤ length w
  pub some : HasCount behind.dimension

module _ (rules : Rules) (w : List ℕ) (i : ℕ) (c : Dimension) where
  pub passed_start : (first : PositionRead) → PositionStands rules w i c first → first.fault ≡ None → PassedSoFar rules w i c first first first.is_last first.behind 1
  passed_start first h none = record {
    list = first.pos ∷ [];
    reads = let P : Option Fault → Type 0 = λ z. PositionsSoFar rules w i c first first (first.pos ∷ []) z in subst P none (positions_start rules w i c first h);
    last_is = refl;
    behind_is = refl;
    count_is = refl;
    few = omega (arith, h.longer);
    within = h.spelt.within;
    some = h.spelt.some;
  }

  -- where its value isn't known
  pub row_start : (passed : NumbersRead) → IsPassed rules w i c passed → (first : PositionRead) × PassedSoFar rules w i c first first passed.is_last passed.behind 1
  row_start passed (first, h, none, same) = (first, subst (λ z. PassedSoFar rules w i c first first z.is_last z.behind 1) (sym same) (passed_start first h none))

  module _ (first last : PositionRead) (is_last : Bool) (behind : Place) (count : ℕ) (h : PassedSoFar rules w i c first last is_last behind count) where
    pub passed_next : is_last ≡ false → (next : PositionRead) → PositionStands rules w behind.at behind.dimension next → next.fault ≡ None → PassedSoFar rules w i c first next next.is_last next.behind (count + 1)
    passed_next more next s none = let P : Place → Type 0 = λ z. PositionStands rules w z.at z.dimension next in record {
      list = h.list ++ (next.pos ∷ []);
      reads = positions_more rules w i c first last next h.list (h.list ++ (next.pos ∷ [])) None None h.reads (sym h.last_is ∙ more) (subst P h.behind_is s) refl (sym (ap (first_fault None) none));
      last_is = refl;
      behind_is = refl;
      count_is = length-append h.list (next.pos ∷ []) ∙ ap (λ z. z + 1) h.count_is;
      few = omega (arith, h.few, s.longer);
      within = s.spelt.within;
      some = s.spelt.some;
    }

    -- where its value isn't known
    pub passed_more : is_last ≡ false → (next : NumbersRead) → IsPassed rules w behind.at behind.dimension next → (read : PositionRead) × PassedSoFar rules w i c first read next.is_last next.behind (count + 1)
    passed_more more next (read, s, none, same) = (read, subst (λ z. PassedSoFar rules w i c first read z.is_last z.behind (count + 1)) (sym same) (passed_next more read s none))

    pub passed_end : is_last ≡ true → IsPassedList rules w i c (record { count = count; closes = ends_same first last; behind = behind })
    passed_end ended = (
      h.list,
      h.count_is,
      positions_end rules w i c first last h.list None _ h.reads (sym h.last_is ∙ ended) refl refl (ap (λ z. z.at) h.behind_is) (ap (λ z. z.dimension) h.behind_is),
    )

-- a part of which something is kept, without that
pub part_passed : {X : Type 0} {A : X → Type 0} (P : ℕ → X → ℕ → List ℕ → Type 0) (faults : X → List Fault) (base : ℕ) (w : List ℕ) (i : ℕ) (c : Dimension) (read : Read)
    → PartStands P faults A base w i c read → PartStands P faults (Grows none_kept [] []) base w i c read
part_passed P faults base w i c read h = record { value = h.value; spelt = h.spelt; fault = h.fault; added = refl }

-- ---- bodies

pub body_passed : {X : Type 0} (P : ℕ → X → ℕ → List ℕ → Type 0) (f : X → Geometry) (faults : ℕ → Coords → X → List Fault) (rules : Rules) (w : List ℕ) (head : Head) (kind : Kind) (r : Option Read) → Same (Body kind) P (λ at x. f x)
    → head.kind ≡ kind → ((x : X) → faults_of rules.digits rules.how (f x) ≡ faults rules.digits rules.how x) → PassesPart P faults rules w head.behind r → IfSome r (IsPassedBody rules.digits rules.how rules.base w head)
body_passed P f faults rules w head kind None same e ef h = tt
body_passed P f faults rules w head kind (Some read) same e ef (none, part) = (
  none,
  (
    f part.value,
    (on_body rules.digits rules.how rules.base w head P f kind e same (omega (arith, part.spelt.order, part.spelt.within))).spelt read.behind.at read.behind.dimension part.value part.spelt,
    part.fault ∙ ap first_of (sym (ef part.value)),
  ),
)

-- ---- the geometry

pub geometry_passed : (rules : Rules) (w : List ℕ) (i : ℕ) (head : Head) (read : Read) → HeadStands w i head → IsPassedBody rules.digits rules.how rules.base w head read → IsPassedGeometry rules w i read.behind.at
geometry_passed rules w i head read h (none, (g, spelt, fault)) =
    let digits = rules.digits in let how = rules.how in let base = rules.base in
    let m : Meaning = meaning_of digits how g in
    let over = closes_over w read.behind.at 0 read.behind.at 0 (closes_start w read.behind.at 0) refl (omega arith) spelt.within base digits how in
    let ended = spelt_over no_meaning base w read.behind.at Open spelt.within open_count in (
      m,
      sym fault ∙ none,
      subst (Spelt (Awaited digits how 0) base w i Open read.behind.at Open) (joined-none m)
          (head_spelt digits how base w i 0 head h read.behind.at read.behind.dimension (joined m no_meaning)
          (body_spelt digits how base w head.behind.at head.behind.dimension head.kind 0 read.behind.at read.behind.dimension g spelt read.behind.at no_meaning (over.spelt read.behind.at no_meaning ended))),
    )

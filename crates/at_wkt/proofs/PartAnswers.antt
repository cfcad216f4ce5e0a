-- What the functions that read parts in brackets answer.
-- For `read_line`, `read_geometry` and `Room::check_line`: the readers of `src/parts.rt`.
use Rattle.std.proofs.Common.{lit<, ◌≡◌, ℕ, ◌+◌, ◌-◌, ◌<◌, ◌≤◌, Bool, true, false, ◌==◌, List, [], ◌∷◌, ◌++◌, length, map, flat_map, codes, Some, None, Result, refl, sym, ◌∙◌, ap, subst, arith, append-nil, append_assoc, true≢false}
use native.Mathlib.Decide.{dec_lt}
use Rattle.std.specs.Result.{MatchResult}
use Rattle.at_wkt.proofs.Names.{Fault, first_of, Pos, Dimension, Halt, Rules, PositionRead, Read, ItemRead, Position, Positions, position_faults, path_of, polygons_of, faults_of_area, SpellsPosition, SpellsRing, SpellsArea, SpellsPoint, SpellsPointMember, EmptyOrParted, is_blank, between, IfStopped, next, Spelt, Stuck, SkipsBlanks, Delimiter, Item, Items, HasCount, KeywordStands, KeywordBreaks, DelimiterStands, DelimiterBreaks, opens, PositionStands, PartStands, ItemStands, ItemsSoFar, Grows, EnclosedPosition, added_position, added_path, added_point, point_faults}
use Rattle.at_geom.specs.declared.shapes.Polygon.{Polygon as PolygonOf}
use Rattle.at_fixed.proofs.DigitParts.{part-part}
use Rattle.at_wkt.proofs.Leads.{part-cons, Begins, Inhabited, counts}
use Rattle.at_wkt.proofs.ByteSteps.{byte_inside, test_eq}
use Rattle.at_wkt.proofs.Agreement.{byte_passes}
use Rattle.at_wkt.proofs.Steps.{no_blank, AreBlanks, not_blank, stuck_first, when_leads}
use Rattle.at_wkt.proofs.ItemSteps.{delimiter_spelt, delimiter_stuck}
use Rattle.at_wkt.proofs.ListSteps.{inhabited_lives, items_start, items_stuck, item_stuck, item_spelt, item_unended, bracket_leads, enclosed_leads, last_spelt, last_stuck, comma_stuck, position_inhabited, ended_begins}
use Rattle.at_wkt.proofs.PositionSteps.{begin_no_blank}
use Rattle.at_wkt.proofs.BodySteps.{Choice, is_open, choice_open, choice_empty, choice_broken, choice_begins, parted_choice, point_choice, Bracketed, ring_begins, ring_inhabited, ring_no_blank, member_when, member_begins, member_inhabited, bare_spelt, bare_stuck}
use Rattle.at_wkt.proofs.PathAnswers.{so_far_end}
use Rattle.at_text.proofs.Exits.{answers_by}

-- ---- EMPTY or brackets

module _ {X Y Z : Type 0} (P : ℕ → Y → ℕ → List ℕ → Type 0) (Q : ℕ → X → ℕ → List ℕ → Type 0) (f : X → Y) (none : Y) (choice : Choice P Q f none)
    (faults : Y → List Fault) (added : Y → List Z) (base : ℕ) (w : List ℕ) (i : ℕ) (c : Dimension) where
  pub nothing_stands : faults none ≡ [] → added none ≡ [] → (list : List Z) → is_open (next w i) ≡ false → HasCount c → (r : Result Read Halt)
      → MatchResult r (λ read. KeywordStands w i read.behind.at (codes "EMPTY") × (read.fault ≡ None) × (read.behind.dimension ≡ c)) (λ halt. IfStopped halt (λ n. KeywordBreaks w i n (codes "EMPTY")))
      → MatchResult r (PartStands P faults (Grows added list list) base w i c) (λ halt. IfStopped halt (Stuck P base w i c))
  nothing_stands hf ha list shut some r h = answers_by r _ (PartStands P faults (Grows added list list) base w i c) _ (Stuck P base w i c) h
      (λ read (word, ef, ed). record {
        value = none;
        spelt = subst (λ z. Spelt P base w i c read.behind.at z none) (sym ed) (choice_empty P Q f none choice base w i c read.behind.at shut word some);
        fault = ef ∙ sym (ap first_of hf);
        added = sym (ap (λ z. list ++ z) ha ∙ append-nil list);
      })
      (λ n word. choice_broken P Q f none choice base w i c n shut word some)

  pub opened_stands : (faultsQ : X → List Fault) (addedQ : X → List Z) → ((x : X) → faults (f x) ≡ faultsQ x) → ((x : X) → added (f x) ≡ addedQ x) → (old new : List Z) → i ≤ length w → is_open (next w i) ≡ true
      → (r : Result Read Halt) → MatchResult r (PartStands Q faultsQ (Grows addedQ old new) base w i c) (λ halt. IfStopped halt (Stuck Q base w i c))
      → MatchResult r (PartStands P faults (Grows added old new) base w i c) (λ halt. IfStopped halt (Stuck P base w i c))
  opened_stands faultsQ addedQ ef ea old new inside here r h = answers_by r _ (PartStands P faults (Grows added old new) base w i c) _ (Stuck P base w i c) h
      (λ read q. record {
        value = f q.value;
        spelt = (choice_open P Q f none choice base w i c inside here).spelt read.behind.at read.behind.dimension q.value q.spelt;
        fault = q.fault ∙ sym (ap first_of (ef q.value));
        added = q.added ∙ ap (λ z. old ++ z) (sym (ea q.value));
      })
      (λ n q. (choice_open P Q f none choice base w i c inside here).stuck n q)

-- items behind the bracket are the part
pub bracketed_stands : {X Z : Type 0} (P : ℕ → X → ℕ → List ℕ → Type 0) (faults : List X → List Fault) (added : List X → List Z) (base : ℕ) (w : List ℕ) (i : ℕ) (c : Dimension) (old new : List Z) → i < length w → next w i ≡ 0x28
    → (r : Result Read Halt) → MatchResult r (PartStands (Items P) faults (Grows added old new) base w (i + 1) c) (λ halt. IfStopped halt (Stuck (Items P) base w (i + 1) c))
    → MatchResult r (PartStands (λ d xs. EmptyOrParted (P d) xs) faults (Grows added old new) base w i c) (λ halt. IfStopped halt (Stuck (λ d xs. EmptyOrParted (P d) xs) base w i c))
bracketed_stands P faults added base w i c old new inside here r h =
    opened_stands (λ d xs. EmptyOrParted (P d) xs) (Bracketed P) (λ xs. xs) [] (parted_choice P) faults added base w i c faults added (λ x. refl) (λ x. refl) old new (omega arith) (ap is_open here) r
    (answers_by r _ (PartStands (Bracketed P) faults (Grows added old new) base w i c) _ (Stuck (Bracketed P) base w i c) h
    (λ read q. record {
      value = q.value;
      spelt = (bracket_leads P base w i c inside here).spelt read.behind.at read.behind.dimension q.value q.spelt;
      fault = q.fault;
      added = q.added;
    })
    (λ n q. (bracket_leads P base w i c inside here).stuck n q))

-- ---- items

module _ {X : Type 0} (P : ℕ → X → ℕ → List ℕ → Type 0) (base : ℕ) (w : List ℕ) (i : ℕ) (c : Dimension) (lives : Inhabited P) where
  -- where no item goes on, no items do
  items_broken : (n : ℕ) → Stuck (Item P) base w i c n → Stuck (Items P) base w i c n
  items_broken n h = items_stuck P base w i c (inhabited_lives P lives) i n c [] (items_start P base w i c) h

  module _ (a : ℕ) (skips : SkipsBlanks w i a) (begins : Begins no_blank P) where
    pub item_broken : (n : ℕ) → Stuck P base w a c n → Stuck (Items P) base w i c n
    item_broken n h = items_broken n (item_stuck P base w i a c skips begins n h)

    pub ended_item : {Z : Type 0} (faults : X → List Fault) (added : X → List Z) (old new : List Z) (read : Read) → PartStands P faults (Grows added old new) base w a c read → (r : Result ItemRead Halt)
        → MatchResult r (λ item. (item.fault ≡ read.fault) × (item.behind.dimension ≡ read.behind.dimension) × DelimiterStands w read.behind.at (record { is_last = item.is_last; end = item.behind.at })) (λ halt. IfStopped halt (DelimiterBreaks w read.behind.at))
        → MatchResult r (ItemStands P faults (Grows added old new) base w i c) (λ halt. IfStopped halt (Stuck (Items P) base w i c))
    ended_item faults added old new read h r q = answers_by r _ (ItemStands P faults (Grows added old new) base w i c) _ (Stuck (Items P) base w i c) q
        (λ item (ef, ed, d).
        let ends : Spelt Delimiter base w read.behind.at read.behind.dimension (d.at + 1) read.behind.dimension item.is_last = delimiter_spelt base w read.behind.at d.at d.blanks item.is_last d.byte d.inside read.behind.dimension h.spelt.some in
        let whole : Spelt (Item P) base w i c (d.at + 1) read.behind.dimension (h.value, item.is_last) = item_spelt P base w i a c skips begins read.behind.at read.behind.dimension h.value h.spelt (d.at + 1) item.is_last ends in
        record {
          value = h.value;
          spelt = subst (λ z. Spelt (Item P) base w i c item.behind.at z (h.value, item.is_last)) (sym ed) (subst (λ z. Spelt (Item P) base w i c z read.behind.dimension (h.value, item.is_last)) (sym d.end_is) whole);
          fault = ef ∙ h.fault;
          added = h.added;
          longer = omega (arith, skips.order, h.spelt.order, d.blanks.order, d.end_is);
        })
        (λ n d. items_broken n (item_unended P base w i a c skips begins read.behind.at read.behind.dimension h.value h.spelt n (delimiter_stuck base w read.behind.at n d.blanks read.behind.dimension h.spelt.some d.byte)))

-- all items of a loop
pub items_stand : {X Z : Type 0} (P : ℕ → X → ℕ → List ℕ → Type 0) (faults : X → List Fault) (added : X → List Z) (old new : List Z) (base : ℕ) (w : List ℕ) (i : ℕ) (c : Dimension) (last : ItemRead) (read : Read)
    → ItemsSoFar P faults added old new base w i c last → last.is_last ≡ true → read ≡ record { fault = last.fault; behind = last.behind }
    → PartStands (Items P) (flat_map faults) (Grows (flat_map added) old new) base w i c read
items_stand P faults added old new base w i c last read h ended is = subst (PartStands (Items P) (flat_map faults) (Grows (flat_map added) old new) base w i c) (sym is) (record {
  value = h.values;
  spelt = so_far_end P faults added old base w i c last new h ended;
  fault = h.fault;
  added = h.grown;
})

-- ---- one position in brackets

module _ (rules : Rules) (w : List ℕ) (i : ℕ) (c : Dimension) (inside : i < length w) (here : next w i ≡ 0x28) where
  pub enclosed_stuck : (n : ℕ) → Stuck (Item SpellsPosition) rules.base w (i + 1) c n → Stuck EnclosedPosition rules.base w i c n
  enclosed_stuck n h = (enclosed_leads rules.base w i c inside here).stuck n (last_stuck rules.base w (i + 1) n c h)

  pub enclosed_comma : (read : PositionRead) → PositionStands rules w (i + 1) c read → read.is_last ≡ false → Stuck EnclosedPosition rules.base w i c (read.behind.at - 1)
  enclosed_comma read h more = (enclosed_leads rules.base w i c inside here).stuck (read.behind.at - 1)
      (comma_stuck rules.base w (i + 1) read.behind.at (read.behind.at - 1) c read.behind.dimension h.position (omega (arith, h.longer))
      (subst (λ z. Spelt (Item SpellsPosition) rules.base w (i + 1) c read.behind.at read.behind.dimension (h.position, z)) more h.spelt) (omega (arith, h.longer)))

  pub enclosed_stands : (read : PositionRead) (old new : List Pos) → PositionStands rules w (i + 1) c read → read.is_last ≡ true → new ≡ old ++ (read.pos ∷ [])
      → PartStands EnclosedPosition (position_faults rules.digits rules.how) (Grows (added_position rules.digits rules.how) old new) rules.base w i c (record { fault = read.fault; behind = read.behind })
  enclosed_stands read old new h ended e = record {
    value = h.position;
    spelt = (enclosed_leads rules.base w i c inside here).spelt read.behind.at read.behind.dimension h.position
        (last_spelt rules.base w (i + 1) read.behind.at c read.behind.dimension h.position (subst (λ z. Spelt (Item SpellsPosition) rules.base w (i + 1) c read.behind.at read.behind.dimension (h.position, z)) ended h.spelt));
    fault = h.fault;
    added = e ∙ ap (λ z. old ++ (z ∷ [])) h.pos;
  }

-- no ring begins with this byte
pub ring_missing : (base : ℕ) (w : List ℕ) (i a : ℕ) (c : Dimension) → SkipsBlanks w i a → HasCount c → is_open (next w a) ≡ false → Stuck (Items SpellsRing) base w i c a
ring_missing base w i a c skips (d, allowed) shut = item_broken SpellsRing base w i c ring_inhabited a skips ring_no_blank a (stuck_first SpellsRing is_open base w a c ring_begins ring_inhabited d allowed skips.within shut)

-- the polygon of these rings, and none of no rings
abbrev pub area_of : List (List Pos) → List PolygonOf
area_of [] = []
area_of (ring ∷ rings) = record { rings = ring ∷ rings } ∷ []

pub area_some : (rings shown : List (List Pos)) (t : Bool) → shown ≡ rings → t ≡ (length rings == 0) → t ≡ false → record { rings = shown } ∷ [] ≡ area_of rings
area_some [] shown t same e h = absurd (true≢false (sym e ∙ h))
area_some (ring ∷ rings) shown t same e h = let P : List (List Pos) → List PolygonOf = λ z. record { rings = z } ∷ [] in ap P same

pub area_stands : (rules : Rules) (w : List ℕ) (i : ℕ) (c : Dimension) (read : Read) (rings : List (List Pos)) (old new : List PolygonOf)
    → PartStands SpellsArea (faults_of_area rules.digits rules.how) (Grows (flat_map (added_path rules.digits rules.how)) [] rings) rules.base w i c read → new ≡ old ++ area_of rings
    → PartStands SpellsArea (faults_of_area rules.digits rules.how) (Grows (polygons_of rules.digits rules.how) old new) rules.base w i c read
area_stands rules w i c read rings old new h e = record {
  value = h.value;
  spelt = h.spelt;
  fault = h.fault;
  added = e ∙ ap (λ z. old ++ z) (ap area_of (h.added ∙ paths h.value) ∙ one h.value);
} where
  paths : (xs : List Positions) → flat_map (added_path rules.digits rules.how) xs ≡ map (path_of rules.digits rules.how) xs
  paths [] = refl
  paths (x ∷ xs) = ap (λ z. path_of rules.digits rules.how x ∷ z) (paths xs)

  one : (xs : List Positions) → area_of (map (path_of rules.digits rules.how) xs) ≡ polygons_of rules.digits rules.how xs
  one [] = refl
  one (x ∷ xs) = refl

-- ---- members of a MULTIPOINT

module _ (rules : Rules) (w : List ℕ) (i a : ℕ) (c : Dimension) (skips : SkipsBlanks w i a) where
  -- where an opener stands, the member is EMPTY or in brackets
  pub member_stands : (old new : List Pos) (read : Read) → opens (next w a) ≡ true
      → PartStands SpellsPoint (point_faults rules.digits rules.how) (Grows (added_point rules.digits rules.how) old new) rules.base w a c read
      → PartStands SpellsPointMember (point_faults rules.digits rules.how) (Grows (added_point rules.digits rules.how) old new) rules.base w a c read
  member_stands old new read here h = record {
    value = h.value;
    spelt = (when_leads SpellsPointMember SpellsPoint (λ at p. p) opens opens rules.base w a c member_when (choice_begins SpellsPoint EnclosedPosition (λ p. Some p) None point_choice) skips.within here).spelt read.behind.at read.behind.dimension h.value h.spelt;
    fault = h.fault;
    added = h.added;
  }

  pub member_stuck : (n : ℕ) → opens (next w a) ≡ true → Stuck SpellsPoint rules.base w a c n → Stuck (Items SpellsPointMember) rules.base w i c n
  member_stuck n here h = item_broken SpellsPointMember rules.base w i c member_inhabited a skips member_begins n
      ((when_leads SpellsPointMember SpellsPoint (λ at p. p) opens opens rules.base w a c member_when (choice_begins SpellsPoint EnclosedPosition (λ p. Some p) None point_choice) skips.within here).stuck n h)

  -- a bare position reaches beyond the blanks
  bare_longer : (j : ℕ) (c' : Dimension) (p : Position) (last : Bool) → Spelt (Item SpellsPosition) rules.base w i c j c' (p, last) → a < j
  bare_longer j c' p last h = elim (dec_lt a j) [
    | yes l ↦ l
    | no f ↦ absurd (
        let (d, allowed) = h.some in
        let (b1, r, e, hb, q) = h.sound d allowed in
        let (b, t, eb, hn) = ended_begins d (p, last) _ r q in
        let low : j ≤ a = omega arith in
        let blanks : AreBlanks (between w i j ++ between w j a) = subst AreBlanks (part-part w i j a h.order low skips.within) skips.blanks in
        let here : between w i j ++ between w j a ≡ b1 ++ (b ∷ (t ++ between w j a)) = ap (λ z. z ++ between w j a) (e ∙ ap (λ z. b1 ++ z) eb) ∙ append_assoc b1 (b ∷ t) (between w j a) in
        not_blank b (begin_no_blank b hn) (byte_passes is_blank b1 b (t ++ between w j a) (subst AreBlanks here blanks)))
  ]

  bare_low : (n : ℕ) → HasCount c → Stuck (Item SpellsPosition) rules.base w i c n → a ≤ n
  bare_low n (d, allowed) h = elim (dec_lt n a) [
    | no f ↦ omega arith
    | yes less ↦ absurd (
        let (x, v, q) = position_inhabited d (rules.base + i + length (between w i a)) (counts c d allowed) true in
        let text : between w i a ++ v ≡ between w i n ++ (next w n ∷ (between w (n + 1) a ++ v)) =
        ap (λ z. z ++ v) (part-part w i n a h.order (let l : n ≤ a = omega arith in l) skips.within ∙ ap (λ z. between w i n ++ z) (part-cons w n a less skips.within)) ∙ append_assoc (between w i n) (next w n ∷ between w (n + 1) a) v in
        h.dead d (x, true) (between w i a ++ v) [] (between w (n + 1) a ++ v) allowed (between w i a, v, refl, skips.blanks, q) (append-nil (between w i a ++ v) ∙ text))
  ]

  pub bare_stands : (old new : List Pos) (r : Result ItemRead Halt) → HasCount c → opens (next w a) ≡ false
      → MatchResult r (ItemStands SpellsPosition (position_faults rules.digits rules.how) (Grows (added_position rules.digits rules.how) old new) rules.base w i c) (λ halt. IfStopped halt (Stuck (Item SpellsPosition) rules.base w i c))
      → MatchResult r (ItemStands SpellsPointMember (point_faults rules.digits rules.how) (Grows (added_point rules.digits rules.how) old new) rules.base w i c) (λ halt. IfStopped halt (Stuck (Items SpellsPointMember) rules.base w i c))
  bare_stands old new r some bare h = answers_by r _ (ItemStands SpellsPointMember (point_faults rules.digits rules.how) (Grows (added_point rules.digits rules.how) old new) rules.base w i c) _ (Stuck (Items SpellsPointMember) rules.base w i c) h
      (λ item q. record {
        value = Some q.value;
        spelt = bare_spelt rules.base w i a c skips bare item.behind.at item.behind.dimension q.value item.is_last (bare_longer item.behind.at item.behind.dimension q.value item.is_last q.spelt) q.spelt;
        fault = q.fault ∙ ap first_of (sym (append-nil (position_faults rules.digits rules.how q.value)));
        added = q.added;
        longer = q.longer;
      })
      (λ n q. items_broken SpellsPointMember rules.base w i c member_inhabited n (bare_stuck rules.base w i a c skips bare n (bare_low n some q) q))

pub position_item : (rules : Rules) (w : List ℕ) (i : ℕ) (c : Dimension) (read : PositionRead) (old new : List Pos) → PositionStands rules w i c read → new ≡ old ++ (read.pos ∷ [])
    → ItemStands SpellsPosition (position_faults rules.digits rules.how) (Grows (added_position rules.digits rules.how) old new) rules.base w i c (record { fault = read.fault; is_last = read.is_last; behind = read.behind })
position_item rules w i c read old new h e = record {
  value = h.position;
  spelt = h.spelt;
  fault = h.fault;
  added = e ∙ ap (λ z. old ++ (z ∷ [])) h.pos;
  longer = h.longer;
}

pub none_faults : (fs : List Fault) → fs ++ [] ≡ fs
none_faults fs = append-nil fs

-- where the opening bracket stands, the text has it
pub open_byte : (w : List ℕ) (i : ℕ) (t : Bool) → t ≡ (next w i == 0x28) → t ≡ true → (i < length w) × (next w i ≡ 0x28)
open_byte w i t e h = let here : next w i ≡ 0x28 = test_eq (next w i) 0x28 t e h in (byte_inside w i 0x28 (lit< tt) here, here)

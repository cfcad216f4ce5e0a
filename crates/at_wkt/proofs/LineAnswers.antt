-- What reading a whole text, or a line, answers.
-- For `read_line` (`HasLineShape`, `HasFirstLineFault`) and `read_geometry` (`IsPrefixOf`, `IsPrefixFault`).
use Rattle.std.proofs.Common.{◌≡◌, ℕ, zero, ◌+◌, ◌<◌, ◌≤◌, List, [], ◌∷◌, ◌++◌, length, take, drop, Option, Some, None, is_none, Result, Ok, Err, refl, sym, ◌∙◌, ap, subst, arith, append-nil, append_assoc, take-append-drop, if◌then◌else◌}
use native.Mathlib.Decide.{dec_lt}
use Rattle.std.proofs.Math.Seq.{take-length}
use Rattle.std.proofs.lemmas.List.{append_cancel_left, get_or_past}
use Rattle.at_wkt.proofs.Names.{Fault, first_fault, first_of, IsSyntaxFault, stop_fault, Coords, Shape, Open, Prefix, Halt, Gathered, empty_shape, Geometry, SpellsGeometry, IsLineOf, WktLine, is_blank, IsPrefixOf, IsPrefixFault, SpellsLine, HasFirstLineFault, unspelled, faulty, HasLineShape, between, IfStopped, next, Spelt, Stuck, SkipsBlanks, Meaning, joined, no_meaning, meaning_of, Expected, Gathers, gathered_shape}
use Rattle.std.specs.Result.{MatchResult}
use Rattle.at_text.specs.declared.refusals.Refusal.{Refusal}
use Rattle.at_text.specs.declared.refusals.Refusal.TheVariants.{Found}
use Rattle.at_text.specs.declared.halts.Halt.TheVariants.{At, Memory as NoMemory}
use Rattle.at_text.specs.Refusals.{IfFound}
use Rattle.at_wkt.specs.Readers.{refusal, kept_shape, line_answer, LineStops}
use Rattle.at_fixed.proofs.DigitParts.{part-length, part-part}
use Rattle.at_wkt.proofs.Leads.{part-more, part-cons, Ahead, ahead_stuck, same_or_less}
use Rattle.at_wkt.proofs.Agreement.{byte_passes}
use Rattle.at_wkt.proofs.Steps.{AreBlanks, one_blanks, not_blank}
use Rattle.at_wkt.proofs.GeometrySteps.{Awaited, joined-none}
use Rattle.at_wkt.proofs.CollectionSteps.{geometry_first}

-- the whole text, with what stands at its end, goes on from a place with its byte
pub whole_stream : (w : List ℕ) (n : ℕ) → n ≤ length w → (r t : List ℕ) × (w ++ r ≡ between w 0 n ++ (next w n ∷ t))
whole_stream w n h = elim (dec_lt n (length w)) [
  | yes l ↦ (
      let text : w ≡ take n w ++ drop n w = sym (take-append-drop n w) in
      let beyond : between w 0 (n + 1) ≡ between w 0 n ++ (next w n ∷ []) = part-more w 0 n (omega arith) l in
      let all : w ≡ between w 0 (n + 1) ++ drop (n + 1) w = sym (take-append-drop (n + 1) w) in
      ([], drop (n + 1) w, append-nil w ∙ (all ∙ (ap (λ z. z ++ drop (n + 1) w) beyond ∙ append_assoc (between w 0 n) (next w n ∷ []) (drop (n + 1) w)))))
  | no f ↦ (
      let same : n ≡ length w = omega arith in
      let end : next w n ≡ 256 = get_or_past w n 256 (omega arith) in
      let text : between w 0 n ≡ w = ap (λ z. take z w) same ∙ take-length w in
      (256 ∷ [], [], ap (λ z. w ++ (z ∷ [])) (sym end) ∙ ap (λ z. z ++ (next w n ∷ [])) (sym text)))
]

module _ (digits : ℕ) (how : Coords) (base : ℕ) (w : List ℕ) where
  -- a geometry's text is what is expected with nothing open
  pub as_expected : (g : Geometry) (at : ℕ) (v : List ℕ) → SpellsGeometry at v g → Expected digits how zero (meaning_of digits how g) at v
  as_expected g at v h = (g, no_meaning, sym (joined-none (meaning_of digits how g)), (v, [], sym (append-nil v), h, (refl, refl)))

  pub from_expected : (m : Meaning) (at : ℕ) (v : List ℕ) → Expected digits how zero m at v → (g : Geometry) × (m ≡ meaning_of digits how g) × SpellsGeometry at v g
  from_expected m at v (g, n, em, (a, r, e, h, (en, er))) =
      (g, em ∙ (ap (joined (meaning_of digits how g)) en ∙ joined-none (meaning_of digits how g)), subst (λ z. SpellsGeometry at z g) (sym (e ∙ (ap (λ z. a ++ z) er ∙ append-nil a))) h)

  at_base : base + 0 ≡ base
  at_base = omega arith

  -- ---- a geometry that begins the text

  module _ (end : ℕ) (m : Meaning) (h : Spelt (Awaited digits how zero) base w 0 Open end Open m) where
    pub prefix_geometry : (g : Geometry) × (m ≡ meaning_of digits how g) × SpellsGeometry base (take end w) g
    prefix_geometry =
        let (d, a) = h.some in
        let (g, em, s) = from_expected m (base + 0) (between w 0 end) (h.sound d a) in
        (g, em, subst (λ o. SpellsGeometry o (take end w) g) at_base s)

    pub prefix_only : (other : Geometry) (v r s : List ℕ) → SpellsGeometry base v other → v ++ r ≡ take end w ++ s → (v ≡ take end w) × (meaning_of digits how other ≡ m)
    prefix_only other v r s q line =
        let (d, a) = h.some in
        let (ey, ev, a') = h.only d (meaning_of digits how other) v r s (h.narrows d a) (subst (λ o. Expected digits how zero (meaning_of digits how other) o v) (sym at_base) (as_expected other base v q)) line in
        (ev, ey)

  pub prefix_stands : (prefix : Prefix) (m : Meaning) → Spelt (Awaited digits how zero) base w 0 Open prefix.taken Open m → prefix.fault ≡ first_of m.faults
      → prefix.shape ≡ (if is_none prefix.fault then m.shape else empty_shape) → IsPrefixOf digits how base w prefix
  prefix_stands prefix m h ef es =
      let (g, em, s) = prefix_geometry prefix.taken m h in
      record {
        fits = h.within;
        geometry = g;
        spelled = s;
        fault_is = ef ∙ ap (λ (z : Meaning). first_of z.faults) em;
        shape_is = es ∙ ap (λ (z : Meaning). if is_none prefix.fault then z.shape else empty_shape) em;
        only = λ other v r s q line.
            let (ev, eo) = prefix_only prefix.taken m h other v r s q line in
            (ev, ap (λ (z : Meaning). z.shape) (eo ∙ em), ap (λ (z : Meaning). first_of z.faults) eo ∙ sym ef);
      }

  pub prefix_fault : (n : ℕ) → Stuck (Awaited digits how zero) base w 0 Open n → IsPrefixFault base w (stop_fault base w n)
  prefix_fault n h = record {
    no_geometry = λ q low (g, s).
        let (d, x, more, a, p) = h.viable in
        let (r, t, e) = whole_stream w n h.within in
        let line : take q w ++ (drop q w ++ r) ≡ between w 0 n ++ (next w n ∷ t) = sym (append_assoc (take q w) (drop q w) r) ∙ (ap (λ z. z ++ r) (take-append-drop q w) ∙ e) in
        h.dead d (meaning_of digits how g) (take q w) (drop q w ++ r) t a (subst (λ o. Expected digits how zero (meaning_of digits how g) o (take q w)) (sym at_base) (as_expected g base (take q w) s)) line;
    taken = n;
    longest = record {
      fits = h.within;
      front = (let (d, x, more, a, p) = h.viable in
          let (g, em, s) = from_expected x (base + 0) (between w 0 n ++ more) p in
          (more, (g, subst (λ o. SpellsGeometry o (take n w ++ more) g) at_base s)));
      longest = λ below (more, (g, s)).
          let (d, x, m0, a, p) = h.viable in
          let line : (take (n + 1) w ++ more) ++ [] ≡ between w 0 n ++ (next w n ∷ more) = append-nil (take (n + 1) w ++ more) ∙ (ap (λ z. z ++ more) (part-more w 0 n (omega arith) below) ∙ append_assoc (between w 0 n) (next w n ∷ []) more) in
          h.dead d (meaning_of digits how g) (take (n + 1) w ++ more) [] more a (subst (λ o. Expected digits how zero (meaning_of digits how g) o (take (n + 1) w ++ more)) (sym at_base) (as_expected g base (take (n + 1) w ++ more) s)) line;
    };
    place = refl;
  }

  -- ---- a line

  module _ (i : ℕ) (skips : SkipsBlanks w 0 i) where
    front : between w 0 i ≡ take i w
    front = refl

    -- a line that agrees with the text has its blanks before the geometry
    line_blanks : (g : Geometry) (a v b x s : List ℕ) (at : ℕ) → AreBlanks a → SpellsGeometry at v g → Ahead w i s → a ++ (v ++ x) ≡ between w 0 i ++ s → a ≡ between w 0 i
    line_blanks g a v b x s at ha hg (t, es) e =
        let (c, u, ev, nb) = geometry_first digits how g at v hg in
        one_blanks a (between w 0 i) c (next w i) (u ++ x) t ha skips.blanks nb skips.stops (ap (λ z. a ++ (z ++ x)) (sym ev) ∙ (e ∙ ap (λ z. between w 0 i ++ z) es))

    place : (a : List ℕ) → a ≡ between w 0 i → base + length a ≡ base + i
    place a e = omega (arith, ap length e, part-length w 0 i skips.order skips.within)

    -- no line agrees with the text where no geometry does
    line_dead : (n : ℕ) → Stuck (Awaited digits how zero) base w i Open n → (g : Geometry) (v r t : List ℕ) → IsLineOf base v g → v ++ r ≡ between w 0 n ++ (next w n ∷ t) → ⊥
    line_dead n h g v r t (a, y, e, ha, (x, b, f, hg, hb)) line =
        let (s, es) = ahead_stuck w i n t h.order h.within (same_or_less i n h.order) in
        let joint : between w 0 n ≡ between w 0 i ++ between w i n = part-part w 0 i n skips.order h.order h.within in
        let all : a ++ (x ++ (b ++ r)) ≡ between w 0 i ++ (between w i n ++ (next w n ∷ t)) =
        sym (ap (λ z. z ++ r) (e ∙ ap (λ z. a ++ z) f) ∙ (append_assoc a (x ++ b) r ∙ ap (λ z. a ++ z) (append_assoc x b r))) ∙ (line ∙ (ap (λ z. z ++ (next w n ∷ t)) joint ∙ append_assoc (between w 0 i) (between w i n) (next w n ∷ t))) in
        let same : a ≡ between w 0 i = line_blanks g a x b (b ++ r) (between w i n ++ (next w n ∷ t)) (base + length a) ha hg (s, es) all in
        let rest : x ++ (b ++ r) ≡ between w i n ++ (next w n ∷ t) = append_cancel_left (between w 0 i) _ _ (ap (λ z. z ++ (x ++ (b ++ r))) (sym same) ∙ all) in
        let (d, y0, m0, al, p0) = h.viable in
        h.dead d (meaning_of digits how g) x (b ++ r) t al (subst (λ o. Expected digits how zero (meaning_of digits how g) o x) (place a same) (as_expected g (base + length a) x hg)) rest

    pub line_stuck : (n : ℕ) → Stuck (Awaited digits how zero) base w i Open n → IsSyntaxFault (WktLine base) base w (stop_fault base w n)
    line_stuck n h = record {
      no_word = λ (g, l). let (r, t, e) = whole_stream w n h.within in line_dead n h g w r t l e;
      taken = n;
      longest = record {
        fits = h.within;
        front = (let (d, x, more, al, p) = h.viable in
            let (g, em, s) = from_expected x (base + i) (between w i n ++ more) p in
            let joint : take n w ++ more ≡ between w 0 i ++ (between w i n ++ more) = ap (λ z. z ++ more) (part-part w 0 i n skips.order h.order h.within) ∙ append_assoc (between w 0 i) (between w i n) more in
            (more, (g, (between w 0 i, between w i n ++ more, joint, skips.blanks, (between w i n ++ more, [], sym (append-nil (between w i n ++ more)), subst (λ o. SpellsGeometry o (between w i n ++ more) g) (sym (place (between w 0 i) refl)) s, tt)))));
        longest = λ below (more, (g, l)).
            line_dead n h g (take (n + 1) w ++ more) [] more l (append-nil (take (n + 1) w ++ more) ∙ (ap (λ z. z ++ more) (part-more w 0 n (omega arith) below) ∙ append_assoc (between w 0 n) (next w n ∷ []) more));
      };
      place = refl;
    }

    module _ (j : ℕ) (m : Meaning) (h : Spelt (Awaited digits how zero) base w i Open j Open m) (k : ℕ) (gap : SkipsBlanks w j k) where
      geometry_here : (g : Geometry) × (m ≡ meaning_of digits how g) × SpellsGeometry (base + i) (between w i j) g
      geometry_here = let (d, a) = h.some in from_expected m (base + i) (between w i j) (h.sound d a)

      first_here : (s : List ℕ) → Ahead w i (between w i j ++ s)
      first_here s =
          let (g, em, q) = geometry_here in
          let (c, u, ev, nb) = geometry_first digits how g (base + i) (between w i j) q in
          let long : i < j = omega (arith, part-length w i j h.order h.within, ap length ev) in
          (between w (i + 1) j ++ s, ap (λ z. z ++ s) (part-cons w i j long h.within))

      joint3 : between w 0 k ≡ between w 0 i ++ (between w i j ++ between w j k)
      joint3 = part-part w 0 i k skips.order (omega (arith, h.order, gap.order)) gap.within ∙ ap (λ z. between w 0 i ++ z) (part-part w i j k h.order gap.order gap.within)

      -- a line that agrees with the text has its geometry
      line_agrees : (g : Geometry) (v r s : List ℕ) → (l : IsLineOf base v g) → v ++ r ≡ between w 0 i ++ (between w i j ++ s)
          → (meaning_of digits how g ≡ m) × ((b : List ℕ) × AreBlanks b × (b ++ r ≡ s))
      line_agrees g v r s (a, y, e, ha, (x, b, f, hg, hb)) line =
          let all : a ++ (x ++ (b ++ r)) ≡ between w 0 i ++ (between w i j ++ s) =
          sym (ap (λ z. z ++ r) (e ∙ ap (λ z. a ++ z) f) ∙ (append_assoc a (x ++ b) r ∙ ap (λ z. a ++ z) (append_assoc x b r))) ∙ line in
          let same : a ≡ between w 0 i = line_blanks g a x b (b ++ r) (between w i j ++ s) (base + length a) ha hg (first_here s) all in
          let rest : x ++ (b ++ r) ≡ between w i j ++ s = append_cancel_left (between w 0 i) _ _ (ap (λ z. z ++ (x ++ (b ++ r))) (sym same) ∙ all) in
          let (d, al) = h.some in
          let (ey, ev, al') = h.only d (meaning_of digits how g) x (b ++ r) s (h.narrows d al) (subst (λ o. Expected digits how zero (meaning_of digits how g) o x) (place a same) (as_expected g (base + length a) x hg)) rest in
          let last : b ++ r ≡ s = append_cancel_left (between w i j) _ _ (ap (λ z. z ++ (b ++ r)) (sym ev) ∙ rest) in
          (ey, (b, hb, last))

      line_of_text : (g : Geometry) (more : List ℕ) → SpellsGeometry (base + i) (between w i j) g → AreBlanks (between w j k ++ more) → IsLineOf base (between w 0 k ++ more) g
      line_of_text g more q blanks = (
        between w 0 i,
        between w i j ++ (between w j k ++ more),
        ap (λ z. z ++ more) joint3 ∙ (append_assoc (between w 0 i) (between w i j ++ between w j k) more ∙ ap (λ z. between w 0 i ++ z) (append_assoc (between w i j) (between w j k) more)),
        skips.blanks,
        (between w i j, between w j k ++ more, refl, subst (λ o. SpellsGeometry o (between w i j) g) (sym (place (between w 0 i) refl)) q, blanks),
      )

      -- blanks up to the end: the line is spelled, and nothing else
      pub line_spelled : k ≡ length w → (fault : Option Fault) (shape : Shape) → fault ≡ first_of m.faults → shape ≡ m.shape → SpellsLine digits how base w fault shape
      line_spelled ends fault shape ef es =
          let (g, em, q) = geometry_here in
          let text : between w 0 k ++ [] ≡ w = append-nil (between w 0 k) ∙ (ap (λ z. take z w) ends ∙ take-length w) in
          let blanks : AreBlanks (between w j k ++ []) = subst AreBlanks (sym (append-nil (between w j k))) gap.blanks in
          record {
            geometry = g;
            spelled = subst (λ z. IsLineOf base z g) text (line_of_text g [] q blanks);
            fault_is = ef ∙ ap (λ (z : Meaning). first_of z.faults) em;
            shape_is = es ∙ ap (λ (z : Meaning). z.shape) em;
            only = λ other l.
                let line : w ++ [] ≡ between w 0 i ++ (between w i j ++ between w j k) = append-nil w ∙ (sym text ∙ (append-nil (between w 0 k) ∙ joint3)) in
                let (eo, rest) = line_agrees other w [] (between w j k) l line in
                (ap (λ (z : Meaning). z.shape) eo ∙ sym es, ap (λ (z : Meaning). first_of z.faults) eo ∙ sym ef);
          }

      no_blanks_there : (b s : List ℕ) → AreBlanks b → b ++ [] ≡ between w j k ++ (next w k ∷ s) → ⊥
      no_blanks_there b s hb e = not_blank (next w k) gap.stops (byte_passes is_blank (between w j k) (next w k) s (subst AreBlanks (sym (append-nil b) ∙ e) hb))

      -- another byte stands behind the blanks
      pub line_beyond : k < length w → IsSyntaxFault (WktLine base) base w (stop_fault base w k)
      line_beyond inside = record {
        no_word = λ (g, l). exactly g w (drop (k + 1) w) l (sym (take-append-drop (k + 1) w) ∙ (ap (λ z. z ++ drop (k + 1) w) (part-more w 0 k (omega arith) inside) ∙ append_assoc (between w 0 k) (next w k ∷ []) (drop (k + 1) w)));
        taken = k;
        longest = record {
          fits = gap.within;
          front = (let (g, em, q) = geometry_here in ([], (g, line_of_text g [] q (subst AreBlanks (sym (append-nil (between w j k))) gap.blanks))));
          longest = λ below (more, (g, l)). exactly g (take (k + 1) w ++ more) more l (ap (λ z. z ++ more) (part-more w 0 k (omega arith) below) ∙ append_assoc (between w 0 k) (next w k ∷ []) more);
        };
        place = refl;
      } where
        exactly : (g : Geometry) (v s : List ℕ) → IsLineOf base v g → v ≡ between w 0 k ++ (next w k ∷ s) → ⊥
        exactly g v s l e =
            let line : v ++ [] ≡ between w 0 i ++ (between w i j ++ (between w j k ++ (next w k ∷ s))) =
            append-nil v ∙ (e ∙ (ap (λ z. z ++ (next w k ∷ s)) joint3 ∙ (append_assoc (between w 0 i) (between w i j ++ between w j k) (next w k ∷ s) ∙ ap (λ z. between w 0 i ++ z) (append_assoc (between w i j) (between w j k) (next w k ∷ s))))) in
            let (eo, (b, hb, rest)) = line_agrees g v [] (between w j k ++ (next w k ∷ s)) l line in
            no_blanks_there b s hb rest

-- ---- the answers

pub stopped_inside : {Q : ℕ → Type 0} (w : List ℕ) (halt : Halt) → ((n : ℕ) → Q n → n ≤ length w) → IfStopped halt Q → IfStopped halt (λ n. n ≤ length w)
stopped_inside {Q} w (At n) f q = f n q
stopped_inside {Q} w NoMemory f q = tt

-- a halt is refused as its place or the want of memory is
refused : (Q : ℕ → Type 0) (P : Fault → Type 0) (base : ℕ) (w : List ℕ) (halt : Halt) (answer : Refusal) → ((n : ℕ) → Q n → P (stop_fault base w n)) → answer ≡ refusal base w halt → IfStopped halt Q → IfFound answer P
refused Q P base w (At n) answer f e h = let R : Refusal → Type 0 = λ z. IfFound z P in subst R (sym e) (f n h)
refused Q P base w NoMemory answer f e h = let R : Refusal → Type 0 = λ z. IfFound z P in subst R (sym e) tt

pub refused_prefix : (digits : ℕ) (how : Coords) (base : ℕ) (w : List ℕ) (halt : Halt) (answer : Refusal) → answer ≡ refusal base w halt
    → IfStopped halt (Stuck (Awaited digits how zero) base w 0 Open) → IfFound answer (IsPrefixFault base w)
refused_prefix digits how base w halt answer e h = refused (Stuck (Awaited digits how zero) base w 0 Open) (IsPrefixFault base w) base w halt answer (prefix_fault digits how base w) e h

pub refused_line : (digits : ℕ) (how : Coords) (base : ℕ) (w : List ℕ) (halt : Halt) (answer : Refusal) → answer ≡ refusal base w halt
    → IfStopped halt (LineStops base w) → IfFound answer (HasFirstLineFault digits how base w)
refused_line digits how base w halt answer e h = refused (LineStops base w) (HasFirstLineFault digits how base w) base w halt answer (λ n stops. unspelled stops.fault) e h

module _ (nothing new : Gathered) (m : Meaning) (ep : nothing.points.items ≡ []) (el : nothing.lines.items ≡ []) (eg : nothing.polygons.items ≡ []) (ef : nothing.fault ≡ None) (h : Gathers nothing new m) where
  pub gathered_fault : new.fault ≡ first_of m.faults
  gathered_fault = h.fault ∙ ap (λ z. first_fault z (first_of m.faults)) ef

  pub all_gathered : gathered_shape new ≡ m.shape
  all_gathered =
      ap (λ z. record { points = z; lines = new.lines.items; polygons = new.polygons.items }) (h.points ∙ ap (λ z. z ++ m.shape.points) ep)
      ∙ (ap (λ z. record { points = m.shape.points; lines = z; polygons = new.polygons.items }) (h.lines ∙ ap (λ z. z ++ m.shape.lines) el)
      ∙ ap (λ z. record { points = m.shape.points; lines = m.shape.lines; polygons = z }) (h.polygons ∙ ap (λ z. z ++ m.shape.polygons) eg))

  pub whole_prefix : (digits : ℕ) (how : Coords) (base : ℕ) (w : List ℕ) (end : ℕ) (shape : Shape) → Spelt (Awaited digits how zero) base w 0 Open end Open m → shape ≡ kept_shape new
      → IsPrefixOf digits how base w (record { shape = shape; taken = end; fault = new.fault })
  whole_prefix digits how base w end shape q es = prefix_stands digits how base w (record { shape = shape; taken = end; fault = new.fault }) m q gathered_fault
      (es ∙ ap (λ z. if is_none new.fault then z else empty_shape) all_gathered)

  pub line_gathered : (digits : ℕ) (how : Coords) (base : ℕ) (w : List ℕ) → SpellsLine digits how base w (first_of m.faults) m.shape → SpellsLine digits how base w new.fault (gathered_shape new)
  line_gathered digits how base w s = subst (λ z. SpellsLine digits how base w z (gathered_shape new)) (sym gathered_fault) (subst (SpellsLine digits how base w (first_of m.faults)) (sym all_gathered) s)

  pub line_answers : (digits : ℕ) (how : Coords) (base : ℕ) (w : List ℕ) (answer : Result Shape Refusal) → SpellsLine digits how base w (first_of m.faults) m.shape → answer ≡ line_answer new
      → MatchResult answer (HasLineShape digits how base w) (λ e. IfFound e (HasFirstLineFault digits how base w))
  line_answers digits how base w answer s e =
      let P : Result Shape Refusal → Type 0 = λ z. MatchResult z (HasLineShape digits how base w) (λ r. IfFound r (HasFirstLineFault digits how base w)) in
      subst P (sym e) (go new.fault (line_gathered digits how base w s)) where
        go : (f : Option Fault) → SpellsLine digits how base w f (gathered_shape new) → MatchResult (elim f [ None ↦ Ok (gathered_shape new) | Some fault ↦ Err (Found fault) ]) (HasLineShape digits how base w) (λ r. IfFound r (HasFirstLineFault digits how base w))
        go None s = s
        go (Some f) s = faulty (gathered_shape new) s

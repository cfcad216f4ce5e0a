-- What the functions that read positions answer.
-- For `read_line`, `read_geometry` and `Room::check_line`: the readers of `src/positions.rt`.
use Rattle.std.proofs.Common.{◌≡◌, ◌≢◌, ℕ, ◌+◌, ◌<◌, ◌≤◌, true, false, ◌-◌, List, length, Option, Result, sym, ◌∙◌, ap, subst, arith, true≢false}
use native.Mathlib.Decide.{dec_lt}
use Rattle.std.proofs.lemmas.List.{get_or_past}
use Rattle.std.specs.Result.{MatchResult}
use Rattle.at_wkt.proofs.Names.{Fault, first_fault, first_of, Numeral, Pos, Dimension, Fixed, Halt, Rules, NumbersRead, IfStopped, next, allows, allows_more, Spelt, Stuck, Leads, SkipsBlanks, NumberStands, NumberBreaks, NumberSkips, delimiter, is_delimiter, FurtherNumbers, Reaches, PositionStands}
use Rattle.at_wkt.specs.declared.line.numbers.Coordinate.{Coordinate}
use Rattle.at_wkt.specs.Positions.{value_of, number_fault}
use Rattle.at_wkt.specs.Readers.{IsCoordinate}
use Rattle.at_wkt.proofs.Steps.{trans_leads}
use Rattle.at_wkt.proofs.PositionSteps.{further_begins, further_leads, skip_leads, skip_stuck, further_lives}
use Rattle.at_wkt.proofs.ItemSteps.{further_spelt, further_few, allows_by, more_by}
use Rattle.at_wkt.proofs.ListSteps.{position_further}
use Rattle.at_text.proofs.Exits.{answers_by}
use Rattle.at_text.proofs.FaultOrder.{first_of-append}

module _ (w : List ℕ) (j m : ℕ) (c : Dimension) (k : ℕ) (skips : SkipsBlanks w j m) (reaches : Reaches c k) (two : 2 ≤ k) where
  -- a delimiter ends the position, or comes too early
  pub further_ended : m < length w → is_delimiter (next w m) ≡ true → (r : Result NumbersRead Halt)
      → MatchResult r (λ read. (allows c k ≡ true) × (read.behind.at ≡ m + 1) × (read.behind.dimension ≡ Fixed k) × (next w m ≡ delimiter read.is_last)) (λ halt. IfStopped halt (λ n. (n ≡ m) × (allows c k ≡ false)))
      → MatchResult r (λ read. (base : ℕ) → Spelt (FurtherNumbers k) base w j c read.behind.at read.behind.dimension read.is_last) (λ halt. IfStopped halt (λ n. (base : ℕ) → Stuck (FurtherNumbers k) base w j c n))
  further_ended inside here r h = answers_by r _ (λ read. (base : ℕ) → Spelt (FurtherNumbers k) base w j c read.behind.at read.behind.dimension read.is_last) _ (λ n. (base : ℕ) → Stuck (FurtherNumbers k) base w j c n) h
      (λ read (may, ends, fixed, byte) base.
      let at_end : Spelt (FurtherNumbers k) base w j c (m + 1) (Fixed k) read.is_last = further_spelt base w j m skips read.is_last byte inside c k (allows_by c k reaches two may) in
      subst (λ z. Spelt (FurtherNumbers k) base w j c read.behind.at z read.is_last) (sym fixed) (subst (λ z. Spelt (FurtherNumbers k) base w j c z (Fixed k) read.is_last) (sym ends) at_end))
      (λ n (same, few) base. subst (λ z. Stuck (FurtherNumbers k) base w j c z) (sym same) (further_few base w j m c k skips reaches here few))

  module _ (long : j < m) (none : is_delimiter (next w m) ≡ false) (more : allows_more c k ≡ true) where
    lead_on : (base : ℕ) (e : ℕ) → NumberSkips w m e → Leads (FurtherNumbers k) (FurtherNumbers (k + 1)) base w j c e c (λ y. y)
    lead_on base e h = trans_leads (further_leads base w j m c k skips long none) (skip_leads (FurtherNumbers (k + 1)) (further_begins (k + 1)) base w m c e h)

    pub further_broken : (n : ℕ) → NumberBreaks w m n → (base : ℕ) → Stuck (FurtherNumbers k) base w j c n
    further_broken n h base = let (d, a, low) = more_by c k reaches more in
        (further_leads base w j m c k skips long none).stuck n (skip_stuck (FurtherNumbers (k + 1)) (further_begins (k + 1)) base w m c n d a (λ at. let (v, q) = further_lives (d - (k + 1)) (k + 1) d (omega arith) true at in (true, v, q)) h)

    pub further_goes : (e : ℕ) (r : Result NumbersRead Halt) → NumberSkips w m e
        → MatchResult r (λ read. (base : ℕ) → Spelt (FurtherNumbers (k + 1)) base w e c read.behind.at read.behind.dimension read.is_last) (λ halt. IfStopped halt (λ n. (base : ℕ) → Stuck (FurtherNumbers (k + 1)) base w e c n))
        → MatchResult r (λ read. (base : ℕ) → Spelt (FurtherNumbers k) base w j c read.behind.at read.behind.dimension read.is_last) (λ halt. IfStopped halt (λ n. (base : ℕ) → Stuck (FurtherNumbers k) base w j c n))
    further_goes e r skip h = answers_by r _ (λ read. (base : ℕ) → Spelt (FurtherNumbers k) base w j c read.behind.at read.behind.dimension read.is_last) _ (λ n. (base : ℕ) → Stuck (FurtherNumbers k) base w j c n) h
        (λ read q base. (lead_on base e skip).spelt read.behind.at read.behind.dimension read.is_last (q base))
        (λ n q base. (lead_on base e skip).stuck n (q base))

-- a position of two numbers and what stands behind them
pub position_stands : (rules : Rules) (w : List ℕ) (i a b e g : ℕ) (c : Dimension) (n m : Numeral) (x y : Coordinate) (behind : NumbersRead) (pos : Pos) (fault : Option Fault) → SkipsBlanks w i a → NumberStands w a b n → SkipsBlanks w b e → b < e → NumberStands w e g m
    → IsCoordinate rules.digits rules.how n (rules.base + a) x → IsCoordinate rules.digits rules.how m (rules.base + e) y
    → Spelt (FurtherNumbers 2) rules.base w g c behind.behind.at behind.behind.dimension behind.is_last
    → pos ≡ record { x = x.value; y = y.value } → fault ≡ first_fault x.fault y.fault
    → PositionStands rules w i c (record { pos = pos; fault = fault; is_last = behind.is_last; behind = behind.behind })
position_stands rules w i a b e g c n m x y behind pos fault skips hx gap wide hy ix iy further ep ef = record {
  position = record { x = n; x_at = rules.base + a; y = m; y_at = rules.base + e };
  spelt = (position_further rules.base w i a c skips b n hx e gap wide g m hy).spelt behind.behind.at behind.behind.dimension behind.is_last further;
  pos = ep ∙ (ap (λ z. record { x = z; y = y.value }) ix.value ∙ ap (λ z. record { x = value_of rules.digits rules.how n; y = z }) iy.value);
  fault = ef ∙ (ap (λ z. first_fault z y.fault) ix.fault ∙ (ap (first_fault (first_of (number_fault rules.digits rules.how n (rules.base + a)))) iy.fault
      ∙ sym (first_of-append (number_fault rules.digits rules.how n (rules.base + a)) (number_fault rules.digits rules.how m (rules.base + e)))));
  longer = omega (arith, skips.order, hx.order, wide, hy.order, further.order);
}

delimiter_byte : (b : ℕ) → b ≡ 256 → is_delimiter b ≡ true → ⊥
delimiter_byte b e h = let bad : is_delimiter 256 ≡ true = ap is_delimiter (sym e) ∙ h in true≢false (sym bad)

pub delimiter_inside : (w : List ℕ) (j : ℕ) → is_delimiter (next w j) ≡ true → j < length w
delimiter_inside w j h = elim (dec_lt j (length w)) [ yes l ↦ l | no f ↦ absurd (delimiter_byte (next w j) (get_or_past w j 256 (omega arith)) h) ]

-- two blanks-free places are one
pub apart : (j m : ℕ) → j ≤ m → m ≢ j → j < m
apart j m h f = omega (arith, f)

-- Positions whose numbers have values and are set apart by one space.
-- For `read_line`, `read_geometry` and `Room::check_line`: the quick way of most positions.
use Rattle.std.proofs.Common.{◌≡◌, ℕ, ◌+◌, ◌<◌, ◌≤◌, ◌⊎◌, inl, inr, true, not, List, [], ◌∷◌, length, sym, ◌∙◌, ap, subst, arith}
use Rattle.at_wkt.proofs.Names.{Numeral, is_blank, between, next, is_delimiter, SkipsBlanks, NumberStands}
use Rattle.at_fixed.proofs.DigitParts.{part-none}
use Rattle.at_wkt.proofs.Leads.{part-one, part-cons, same_or_less}
use Rattle.at_wkt.proofs.Steps.{AreBlanks}
use Rattle.at_wkt.proofs.PositionSteps.{number_first, begin_no_blank}

delimiter_no_blank : (b : ℕ) → is_delimiter b ≡ true → not (is_blank b) ≡ true
delimiter_no_blank b h = grind (arith, h)

pub none_skipped : (w : List ℕ) (i : ℕ) → i ≤ length w → not (is_blank (next w i)) ≡ true → SkipsBlanks w i i
none_skipped w i h stops = record { order = omega arith; within = h; blanks = subst AreBlanks (sym (part-none w i h)) tt; stops = stops }

-- no blank stands before a number
pub number_free : (w : List ℕ) (i j : ℕ) (n : Numeral) → NumberStands w i j n → not (is_blank (next w i)) ≡ true
number_free w i j n h =
    let (x, t, f, begins) = number_first n h.numeral in
    let text : between w i j ≡ x ∷ t = h.text ∙ f in
    elim (same_or_less i j h.order) [
      | inl same ↦ absurd (let none : between w i j ≡ [] = ap (between w i) (sym same) ∙ part-none w i (omega (arith, h.order, h.within)) in cc)
      | inr less ↦ (let first : next w i ∷ between w (i + 1) j ≡ x ∷ t = sym (part-cons w i j less h.within) ∙ text in
          let byte : x ≡ next w i = cc in subst (λ b. not (is_blank b) ≡ true) byte (begin_no_blank x begins))
    ]

pub delimiter_free : (w : List ℕ) (i : ℕ) → i < length w → is_delimiter (next w i) ≡ true → SkipsBlanks w i i
delimiter_free w i h e = none_skipped w i (omega arith) (delimiter_no_blank (next w i) e)

-- one space stands before a number
pub one_skipped : (w : List ℕ) (i j : ℕ) (n : Numeral) → i < length w → next w i ≡ 0x20 → NumberStands w (i + 1) j n → SkipsBlanks w i (i + 1)
one_skipped w i j n inside e h = record {
  order = omega arith;
  within = omega (arith, h.order, h.within);
  blanks = subst AreBlanks (sym (part-one w i inside)) (ap is_blank e, tt);
  stops = number_free w (i + 1) j n h;
}

-- one space or none stands before a number
pub space_skipped : (w : List ℕ) (i a j : ℕ) (n : Numeral) → ((a ≡ i + 1) × (next w i ≡ 0x20)) ⊎ (a ≡ i) → NumberStands w a j n → SkipsBlanks w i a
space_skipped w i a j n (inl (e, byte)) h =
    let P : ℕ → Type 0 = λ k. NumberStands w k j n in
    subst (SkipsBlanks w i) (sym e) (one_skipped w i j n (omega (arith, e, h.order, h.within)) byte (subst P e h))
space_skipped w i a j n (inr e) h =
    subst (λ k. SkipsBlanks w k a) e (none_skipped w a (omega (arith, h.order, h.within)) (number_free w a j n h))

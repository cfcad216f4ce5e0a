-- What is read of a line together with what stands behind it holds of the line.
-- For `Room::check_line` and `Fold::add`, whose line is the first `len` of the bytes ahead.
use Rattle.std.proofs.Common.{◌≡◌, ℕ, ◌+◌, ◌≤◌, ◌++◌, true, not, List, length, take, drop, refl, sym, ap, ◌∙◌, subst, arith, inl, inr, length-take}
use Rattle.std.proofs.lemmas.Bool.{cases_lt}
use Rattle.std.proofs.lemmas.List.{get_or-take, get_or_past, take-take}
use Rattle.at_wkt.proofs.Names.{Dimension, is_blank, without_return, between, SkipsBlanks, Spelt}
use Rattle.at_wkt.proofs.Steps.{AreBlanks}

part_within : (w : List ℕ) (e i j : ℕ) → j ≤ e → between (take e w) i j ≡ between w i j
part_within w e i j near = ap (drop i) (take-take j e w near)

module _ (w : List ℕ) (e : ℕ) (inside : e ≤ length w) where
  front_length : length (take e w) ≡ e
  front_length = omega (arith, length-take e w, inside)

  pub skips_within : (i j : ℕ) → SkipsBlanks w i j → j ≤ e → SkipsBlanks (take e w) i j
  skips_within i j h near = record {
    order = h.order;
    within = omega (arith, front_length, near);
    blanks = subst AreBlanks (sym (part_within w e i j near)) h.blanks;
    stops = elim (cases_lt j e) [
      | inl less ↦ (let P : ℕ → Type 0 = λ b. not (is_blank b) ≡ true in subst P (sym (get_or-take e w j 256 less)) h.stops)
      | inr more ↦ (let P : ℕ → Type 0 = λ b. not (is_blank b) ≡ true in subst P (sym (get_or_past (take e w) j 256 (omega (arith, front_length, more)))) refl)
    ];
  }

  pub spelt_within : {X : Type 0} {P : ℕ → X → ℕ → List ℕ → Type 0} {base : ℕ} (i j : ℕ) {c d : Dimension} {x : X} → Spelt P base w i c j d x → j ≤ e → Spelt P base (take e w) i c j d x
  spelt_within {X} {P} {base} i j {c} {d} {x} h near =
      let same : between w i j ≡ between (take e w) i j = sym (part_within w e i j near) in
      record {
        order = h.order;
        within = omega (arith, front_length, near);
        some = h.some;
        narrows = h.narrows;
        sound = λ n a. subst (P n x (base + i)) same (h.sound n a);
        only = λ n y v r s a p q. let (ey, ev, al) = h.only n y v r s a p (q ∙ ap (λ z. z ++ s) (sym same)) in (ey, ev ∙ same, al);
      }

-- the line of a piece, with its carriage return or without
pub line_taken : (ahead : List ℕ) (len line : ℕ) → line ≤ length (take len ahead) → take line (take len ahead) ≡ without_return (take len ahead) → take line ahead ≡ without_return (take len ahead)
line_taken ahead len line short e = sym (take-take line len ahead (omega (arith, short, length-take len ahead))) ∙ e

-- The same bytes elsewhere in a text: what stands at the places of the one stretch stands at those of the other.
-- For positions that are passed over.
use Rattle.std.proofs.Common.{◌≡◌, ℕ, ◌+◌, ◌-◌, ◌<◌, ◌≤◌, List, [], ◌∷◌, ◌++◌, map, take, drop, length, slice_index, refl, sym, ◌∙◌, ap, subst, arith}
use Rattle.std.proofs.lemmas.List.{take-take, drop-take, drop-drop}
use Rattle.at_fixed.specs.NumberSoFar.{between}
use Rattle.at_fixed.specs.Numerals.{JsonNumber}
use Rattle.at_fixed.proofs.DigitParts.{part-cons, part-length}
use Rattle.at_lex.specs.Spans.{AreSpaces}
use Rattle.at_scan.specs.Numbers.{IsFurther, AreFurther, EndsPosition}

-- one more number of a position
pub further_last : (w : List ℕ) (at : ℕ) (es : List ℕ) (end e : ℕ) → AreFurther w at es end → IsFurther w end e → AreFurther w at (es ++ e ∷ []) e
further_last w at [] end e f h = (subst (λ z. IsFurther w z e) (sym f) h, refl)
further_last w at (a ∷ es) end e f h = (f.0, further_last w a es end e f.1 h)

part_of : (w : List ℕ) (a e i j : ℕ) → a ≤ i → i ≤ j → j ≤ e → between w i j ≡ drop (i - a) (take (j - a) (between w a e))
part_of w a e i j h k l =
    let ei : a + (i - a) ≡ i = omega arith in
    let ej : a + (j - a) ≡ j = omega arith in
    let le : a + (j - a) ≤ e = omega arith in
    ap (λ z. drop z (take j w)) (sym ei) ∙ (ap (λ z. drop (a + (i - a)) (take z w)) (sym ej) ∙ (ap (λ z. drop (a + (i - a)) z) (sym (take-take (a + (j - a)) e w le))
    ∙ (sym (drop-drop (i - a) a (take (a + (j - a)) (take e w))) ∙ ap (λ z. drop (i - a) z) (drop-take a (j - a) (take e w)))))

-- the places of further numbers rise
further_order : (w : List ℕ) (at : ℕ) (es : List ℕ) (end : ℕ) → AreFurther w at es end → at ≤ end
further_order w at [] end f = omega (arith, f)
further_order w at (a ∷ es) end f = let o = further_order w a es end f.1 in omega (arith, o, f.0.before, f.0.order, f.0.behind)

module _ (w : List ℕ) (from to far : ℕ) (fits : far + to ≤ length w) (same : between w from to ≡ between w (far + from) (far + to)) where
  pub part_moved : (i j : ℕ) → from ≤ i → i ≤ j → j ≤ to → between w i j ≡ between w (far + i) (far + j)
  part_moved i j h k l =
      let ei : i - from ≡ (far + i) - (far + from) = omega arith in
      let ej : j - from ≡ (far + j) - (far + from) = omega arith in
      let at = between w (far + from) (far + to) in
      part_of w from to i j h k l ∙ (ap (λ z. drop (i - from) (take (j - from) z)) same ∙ (ap (λ z. drop z (take (j - from) at)) ei ∙ (ap (λ z. drop ((far + i) - (far + from)) (take z at)) ej
      ∙ sym (part_of w (far + from) (far + to) (far + i) (far + j) (omega arith) (omega arith) (omega arith)))))

  pub byte_moved : (i b : ℕ) → from ≤ i → i < to → slice_index w i ≡ b → slice_index w (far + i) ≡ b
  byte_moved i b h k e =
      let here = part-cons w i (i + 1) (omega arith) (omega arith) in
      let there = part-cons w (far + i) (far + (i + 1)) (omega arith) (omega arith) in
      ap (λ (z : List ℕ). slice_index z 0) (sym there ∙ (sym (part_moved i (i + 1) h (omega arith) (omega arith)) ∙ here)) ∙ e

  further_moved : (at there e : ℕ) → from ≤ at → e ≤ to → there ≡ far + at → IsFurther w at e → IsFurther w there (far + e)
  further_moved at there e h k same_there p = record {
    inside = omega (arith, p.before, p.order, p.behind);
    comma = subst (λ z. slice_index w z ≡ 0x2C) (sym same_there) (byte_moved at 0x2C h (omega (arith, p.before, p.order, p.behind)) p.comma);
    first = far + p.first;
    last = far + p.last;
    before = omega (arith, p.before, same_there);
    spaces = let e1 : there + 1 ≡ far + (at + 1) = omega (arith, same_there) in
        subst (λ z. AreSpaces (between w z (far + p.first))) (sym e1) (subst AreSpaces (part_moved (at + 1) p.first (omega arith) p.before (omega (arith, p.order, p.behind))) p.spaces);
    order = omega (arith, p.order);
    behind = omega (arith, p.behind);
    more_spaces = subst AreSpaces (part_moved p.last e (omega (arith, p.before, p.order)) p.behind k) p.more_spaces;
    within = omega arith;
    number = subst JsonNumber (part_moved p.first p.last (omega (arith, p.before)) (omega (arith, p.order)) (omega (arith, p.behind))) p.number;
  }

  all_moved : (at there : ℕ) (es : List ℕ) (end : ℕ) → from ≤ at → end ≤ to → there ≡ far + at → AreFurther w at es end → AreFurther w there (map (λ e. far + e) es) (far + end)
  all_moved at there [] end h k e f = e ∙ ap (λ z. far + z) f
  all_moved at there (a ∷ es) end h k e f =
      let o = further_order w a es end f.1 in
      (further_moved at there a h (omega (arith, o)) e f.0, all_moved a (far + a) es end (omega (arith, h, f.0.before, f.0.order, f.0.behind)) k refl f.1)

  pub ends_moved : (at end : ℕ) → from ≤ at → end ≤ to → EndsPosition w at end → EndsPosition w (far + at) (far + end)
  ends_moved at end h k p = record {
    first = far + p.first;
    before = omega (arith, p.before);
    spaces = subst AreSpaces (part_moved at p.first h p.before (omega (arith, p.order, p.behind))) p.spaces;
    places = map (λ e. far + e) p.places;
    place = far + p.place;
    further = all_moved p.first (far + p.first) p.places p.place (omega (arith, h, p.before)) (omega (arith, p.behind)) refl p.further;
    order = omega (arith, p.order);
    inside = omega (arith, p.behind);
    closes = byte_moved p.place 0x5D (omega (arith, h, p.before, p.order)) (omega (arith, p.behind)) p.closes;
    behind = omega (arith, p.behind);
  }

-- two stretches of the same bytes
pub bytes_moved : (w : List ℕ) (from to at end : ℕ) → from ≤ to → from ≤ at → at ≤ end → to ≤ length w → end ≤ length w → take (to - from) (drop from w) ≡ take (end - at) (drop at w)
    → (end ≡ (at - from) + to) × (between w from to ≡ between w ((at - from) + from) ((at - from) + to))
bytes_moved w from to at end h k l inside fits e =
    let et : from + (to - from) ≡ to = omega arith in
    let ee : at + (end - at) ≡ end = omega arith in
    let ea : (at - from) + from ≡ at = omega arith in
    let one : between w from to ≡ take (to - from) (drop from w) = ap (λ z. drop from (take z w)) (sym et) ∙ drop-take from (to - from) w in
    let two : between w at end ≡ take (end - at) (drop at w) = ap (λ z. drop at (take z w)) (sym ee) ∙ drop-take at (end - at) w in
    let same : between w from to ≡ between w at end = one ∙ (e ∙ sym two) in
    let lt = part-length w from to h inside in
    let le = part-length w at end l fits in
    let len : length (between w from to) ≡ length (between w at end) = ap length same in
    let ends : end ≡ (at - from) + to = omega (arith, lt, le, len) in
    (ends, same ∙ (ap (λ z. between w z end) (sym ea) ∙ ap (λ z. between w ((at - from) + from) z) ends))
